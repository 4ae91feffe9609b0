-- Laws of items that are read one after the other at even distances: words, rows and entries.
use Prim.Native.Nat.{ℕ, zero, suc, ◌+◌, ◌*◌, ◌≤◌, ◌<◌}
use mathlib.Core.Path.{◌≡◌, ◌∙◌, sym, ap}
use mathlib.Core.List.{List, [], ◌∷◌, ◌++◌, append_assoc}
use native.Mathlib.Nat.{zero-add, suc-add, add-zero, add_assoc, add_comm, zero-mul, suc-mul}
use native.Mathlib.Omega.{arith}
use native.Mathlib.Numerals.{add-one}
use lib.ListN.{length, get_or, take, drop, set, drop_of_length-le}
use lib.Seq.{take_at, drop_at, drop-cons, set_at}
use Rattle.byte_words.specs.Buffers.{over}
use Rattle.byte_words.proofs.Buffers.{over_start}

-- `items k n` are `n` items from place `k` on, each `step` places behind the one before it
pub record Run {A : Type 0} (step : ℕ) (item : ℕ → A) (items : ℕ → ℕ → List A) : Type 0 where
  pub none : (k : ℕ) → items k 0 ≡ []
  pub more : (k n : ℕ) → items k (suc n) ≡ item k ∷ items (k + step) n

-- item `i` of a list is `a`: the list from there on is `a`, followed by the list from the next item on
pub record AtHand {A : Type 0} (l : List A) (i : ℕ) (a : A) : Type 0 where
  pub here : drop i l ≡ a ∷ drop (i + 1) l

pub at_hand : {A : Type 0} (l : List A) (i : ℕ) (a d : A) → i < length l → get_or l i d ≡ a → AtHand l i a
at_hand l i a d h e = record { here = rw (drop-cons l i d h, e, add-one i) }

module _ {A : Type 0} {step : ℕ} {item : ℕ → A} {items : ℕ → ℕ → List A} (run : Run step item items) where
  -- the place of the item after `m` items
  far : (k m : ℕ) → k + suc m * step ≡ k + step + m * step
  far k m = rw (suc-mul m step, add_comm (m * step) step) (sym (add_assoc k step (m * step)))

  near : (k : ℕ) → k + 0 * step ≡ k
  near k = rw zero-mul (add-zero k)

  pub run_length : (k n : ℕ) → length (items k n) ≡ n
  run_length k zero = rw (run.none k)
  run_length k (suc n) = rw (run.more k n) (ap suc (run_length (k + step) n))

  pub run_split : (k m n : ℕ) → items k (m + n) ≡ items k m ++ items (k + m * step) n
  run_split k zero n = rw (zero-add n, near k, run.none k)
  run_split k (suc m) n =
      rw (suc-add m n, run.more k (m + n), run.more k m, far k m) (ap (λ l. item k ∷ l) (run_split (k + step) m n))

  pub run_take : (k m n : ℕ) → take m (items k (m + n)) ≡ items k m
  run_take k m n = rw (run_split k m n) (take_at _ _ m (run_length k m))

  pub run_drop : (k m n : ℕ) → drop m (items k (m + n)) ≡ items (k + m * step) n
  run_drop k m n = rw (run_split k m n) (drop_at (items k m) _ m (run_length k m))

  pub run_get : (k n i : ℕ) (d : A) → i < n → get_or (items k n) i d ≡ item (k + i * step)
  run_get k zero i d h = absurd (omega arith)
  run_get k (suc n) zero d h = rw (run.more k n, near k)
  run_get k (suc n) (suc i) d h = rw (run.more k n, far k i) (run_get (k + step) n i d (omega arith))

  pub run_hand : (k n i p : ℕ) (a : A) → i < n → p ≡ k + i * step → a ≡ item p → AtHand (items k n) i a
  run_hand k n i p a h q e = at_hand (items k n) i a a (rw (run_length k n) h) (run_get k n i a h ∙ rw (← q) (sym e))

  pub run_none : (k n i : ℕ) → n ≤ i → drop i (items k n) ≡ []
  run_none k n i h = drop_of_length-le (items k n) {i = i} (rw (run_length k n) h)

-- items copied to a buffer's start, and one more
pub copied : {step : ℕ} {item : ℕ → ℕ} {items : ℕ → ℕ → List ℕ} → Run step item items → (d l : List ℕ) (k i a : ℕ)
    → l ≡ over d 0 (items k i) → a ≡ item (k + i * step) → i < length d → set l i a ≡ over d 0 (items k (i + 1))
copied {step} {items} run d l k i a e p h =
    rw (e, over_start d (items k i), over_start d (items k (i + 1)), run_length run k (i + 1), run_length run k i, run_split run k i 1)
    (rw (run.more (k + i * step) 0, run.none (k + i * step + step), append_assoc, ← p, add-one i, drop-cons d i 0 h)
    (set_at (items k i) _ _ a i (run_length run k i)))
