-- Laws of stores into a lent buffer.
use Prim.Native.Nat.{ℕ, ◌+◌, ◌-◌, ◌≤◌}
use mathlib.Core.Path.{◌≡◌, ◌∙◌, refl, sym, ap}
use mathlib.Core.List.{List, [], ◌++◌, append_assoc, append-nil}
use native.Mathlib.Nat.{zero-add, add-zero, add_assoc}
use native.Mathlib.Omega.{arith}
use borrow.Rule.Slice.PartMut.{put_mid}
use lib.ListN.{length, take, drop, length-append, length-drop, take-append-drop, drop_of_length-le}
use lib.Seq.{length-take-le, take_all, take_at, drop_at, drop-drop, sets, sets-eq}
use Rattle.byte_words.specs.Buffers.{over}

-- nothing stored, and a store from the start
module _ (d : List ℕ) where
  pub over_nothing : (k : ℕ) → over d k [] ≡ d
  unfolding over
  over_nothing k = rw add-zero (take-append-drop k d)

  pub over_start : (s : List ℕ) → over d 0 s ≡ s ++ drop (length s) d
  unfolding over
  over_start s = rw zero-add

-- a store of the whole
pub over_whole : (d s : List ℕ) → length s ≡ length d → over d 0 s ≡ s
over_whole d s e = over_start d s ∙ rw (drop_of_length-le d {i = length s} (omega (arith, e))) (append-nil s)

-- a run of stores
pub stored : (d : List ℕ) (k : ℕ) (vs : List ℕ) → k + length vs ≤ length d → sets d k vs ≡ over d k vs
unfolding over
stored d k vs h = sets-eq vs d k h ∙ append_assoc (take k d) vs _

-- a part of the buffer that was filled anew
pub over_part : (d : List ℕ) (k n : ℕ) (s t : List ℕ) → s ≡ t → length t ≡ n → put_mid k n d s ≡ over d k t
unfolding over
over_part d k n s t e l = rw (e, ← l, drop-drop (length t) k d) refl

-- a store right after one of `n` elements
pub over_next : (d : List ℕ) (k n : ℕ) (s t : List ℕ) → length s ≡ n → k ≤ length d
    → over (over d k s) (k + n) t ≡ over d k (s ++ t)
unfolding over
over_next d k n s t e h =
    let p = take k d ++ s in
    let q = drop (k + n) d in
    let l : length p ≡ k + n = omega (arith, length-append (take k d) s, length-take-le k d h) in
    rw (e, ← append_assoc (take k d) s q, take_at p q (k + n) l, ← drop-drop (length t) (k + n) (p ++ q), drop_at p q (k + n) l)
    (simp (append_assoc, drop-drop, length-append, add_assoc, e))

pub over_more : (d : List ℕ) (n : ℕ) (s t : List ℕ) → length s ≡ n → over (over d 0 s) n t ≡ over d 0 (s ++ t)
over_more d n s t e = ap (λ m. over (over d 0 s) m t) (sym (zero-add n)) ∙ over_next d 0 n s t e (omega arith)

-- what lies from index `k` on, lent as a buffer of its own
pub tail_of : (d : List ℕ) (k : ℕ) → take (length d - k) (drop k d) ≡ drop k d
tail_of d k = take_all (length d - k) (drop k d) (omega (arith, length-drop k d))

-- a store from its start
tail_over : (d : List ℕ) (k : ℕ) (t : List ℕ) → over (take (length d - k) (drop k d)) 0 t ≡ t ++ drop (k + length t) d
tail_over d k t = rw (tail_of d k, over_start (drop k d) t) (ap (λ l. t ++ l) (drop-drop (length t) k d))

pub over_behind : (d : List ℕ) (k : ℕ) (s t : List ℕ) → s ≡ over (take (length d - k) (drop k d)) 0 t
    → put_mid k (length d - k) d s ≡ over d k t
unfolding over
over_behind d k s t e =
    let none : drop (length d - k) (drop k d) ≡ [] = drop_of_length-le (drop k d) {i = length d - k} (omega (arith, length-drop k d)) in
    ap (λ l. take k d ++ (s ++ l)) none ∙ ap (λ l. take k d ++ l) (append-nil s ∙ e ∙ tail_over d k t)
