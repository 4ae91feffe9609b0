-- Lists that are given by what stands at each position, and lists that are filled up with zeros.
use Prim.Native.Nat.{ℕ, zero, suc, ◌+◌, ◌-◌, ◌%◌, ◌≤◌, ◌<◌}
use mathlib.Core.Path.{◌≡◌, ◌∙◌, refl, sym, ap₂}
use mathlib.Core.Logic.{by_cases}
use mathlib.Core.List.{List, [], ◌∷◌, ◌++◌}
use native.Mathlib.Omega.{arith}
use native.Mathlib.Numerals.{add-one}
use native.Mathlib.Decide.{dec_lt}
use lib.ListN.{length, get_or, drop, set, length-append, length-replicate, get_or-replicate, get_or-append, get_or-eq_default}
use lib.Seq.{get_or-append-add, get_or_at, set_at, drop-cons, append_snoc, ext_get_or}
use Rattle.task_model.specs.Limits.{most_entries}
use Rattle.node_words.specs.Lists.{zeros}
use Rattle.map_store.specs.Store.{levels_at, up_to, padded, stored_levels}

pub length-up_to : (f : ℕ → ℕ) (n : ℕ) → length (up_to f n) ≡ n
unfolding up_to
length-up_to f zero = refl
length-up_to f (suc n) = omega (arith, length-append (up_to f n) (f n ∷ []), length-up_to f n)

pub get_or-up_to : (f : ℕ → ℕ) (n i : ℕ) → i < n → get_or (up_to f n) i 0 ≡ f i
unfolding up_to
get_or-up_to f zero i h = absurd (omega arith)
get_or-up_to f (suc n) i h =
    by_cases (dec_lt i n)
    (λ y. get_or-append (up_to f n) (f n ∷ []) 0 i (omega (arith, length-up_to f n)) ∙ get_or-up_to f n i y)
    (λ z. let e : i ≡ n = omega arith in rw e (get_or_at (up_to f n) (f n) [] 0 n (length-up_to f n)))

-- a list of n numbers is the list of what stands at each position
pub up_to-list : (f : ℕ → ℕ) (l : List ℕ) → ((i : ℕ) → i < length l → f i ≡ get_or l i 0) → up_to f (length l) ≡ l
up_to-list f l h =
    ext_get_or 0 (up_to f (length l)) l (length-up_to f (length l))
    (λ i p. let k : i < length l = omega (arith, length-up_to f (length l)) in get_or-up_to f (length l) i k ∙ h i k)

-- two such lists are equal if they agree at each position
pub up_to-same : (f g : ℕ → ℕ) (n : ℕ) → ((i : ℕ) → i < n → f i ≡ g i) → up_to f n ≡ up_to g n
unfolding up_to
up_to-same f g zero h = refl
up_to-same f g (suc n) h = ap₂ (λ l x. l ++ (x ∷ [])) (up_to-same f g n (λ i p. h i (omega arith))) (h n (omega arith))

-- a zero, or nothing: the default is 0 too
pub get_or-zeros : (n i : ℕ) → get_or (zeros n) i 0 ≡ 0
get_or-zeros n i =
    by_cases (dec_lt i n)
    (λ y. get_or-replicate n i 0 0 y)
    (λ z. get_or-eq_default (zeros n) 0 (omega (arith, length-replicate {A = ℕ} n 0)))

module _ (ws : List ℕ) where
  pub length-padded : length ws ≤ most_entries → length (padded ws) ≡ most_entries
  unfolding padded
  length-padded h = omega (arith, length-append ws (zeros (most_entries - length ws)), length-replicate {A = ℕ} (most_entries - length ws) 0)

  pub get_or-padded : (i : ℕ) → get_or (padded ws) i 0 ≡ get_or ws i 0
  unfolding padded
  get_or-padded i =
      by_cases (dec_lt i (length ws))
      (λ y. get_or-append ws (zeros (most_entries - length ws)) 0 i y)
      (λ z.
      let e : length ws + (i - length ws) ≡ i = omega arith in
      (rw e at (get_or-append-add ws (zeros (most_entries - length ws)) (i - length ws) 0))
      ∙ get_or-zeros (most_entries - length ws) (i - length ws)
      ∙ sym (get_or-eq_default ws 0 (omega arith)))

-- the stored levels, one byte more at a time
module _ (store out : List ℕ) where
  pub stored_none : out ≡ stored_levels store 0 ++ drop 0 out
  unfolding stored_levels up_to
  stored_none = refl

  pub stored_next : (j : ℕ) (w : List ℕ) → j < length out → w ≡ stored_levels store j ++ drop j out
      → set w j (get_or store (levels_at + j) 0 % 256) ≡ stored_levels store (j + 1) ++ drop (j + 1) out
  unfolding stored_levels up_to
  stored_next j w h p =
      rw (p, drop-cons out j 0 h, set_at (stored_levels store j) (get_or out j 0) (drop (suc j) out) (get_or store (levels_at + j) 0 % 256) j (length-up_to _ j), add-one j)
      (sym (append_snoc (stored_levels store j) _ (drop (suc j) out)))

pub length-stored : (store : List ℕ) (n : ℕ) → length (stored_levels store n) ≡ n
unfolding stored_levels
length-stored store n = length-up_to _ n
