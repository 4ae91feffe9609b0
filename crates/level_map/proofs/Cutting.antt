-- Cuts and their levels: each group between cuts has all entries of one level.
use Prim.Native.Nat.{ℕ, zero, suc, ◌+◌, ◌-◌, ◌≤◌, ◌<◌, zero-le}
use mathlib.Core.Path.{◌≡◌, refl, sym, ◌∙◌}
use mathlib.Core.List.{List, [], ◌∷◌}
use mathlib.Core.Logic.{by_cases}
use native.Mathlib.Omega.{arith}
use native.Mathlib.Decide.{dec_le}
use lib.ListN.{length, get_or, replicate, length-append, length-replicate}
use Rattle.level_map.specs.Assignments.{size_of}
use Rattle.level_map.specs.Cuts.{Falling, levels_of_cuts}
use Rattle.level_map.specs.Cuts.{before}
use Rattle.level_map.proofs.Levels.{Rising, before_suc, before_append, before_same, before_none, before_all, rising_wider, rising_append, rising_same, rising_assignment}
use Rattle.level_map.proofs.Maps.{Full}

-- there are no more groups than entries
pub falling_few : (s : List ℕ) (e : ℕ) → Falling s e → length s ≤ e
falling_few [] e f = zero-le
falling_few (a ∷ s) e f = omega (arith, falling_few s a f.1)

pub length-levels : (s : List ℕ) (e : ℕ) → Falling s e → length (levels_of_cuts s e) ≡ e
length-levels [] e f = sym f
length-levels (a ∷ s) e f =
    omega (
      arith,
      length-append (levels_of_cuts s a) (replicate (e - a) (suc (length s))),
      length-levels s a f.1,
      length-replicate (e - a) (suc (length s)),
    )

pub rising_levels : (s : List ℕ) (e : ℕ) → Rising 1 (length s) (levels_of_cuts s e)
rising_levels [] e = tt
rising_levels (a ∷ s) e =
    rising_append 1 (suc (length s)) (levels_of_cuts s a) (replicate (e - a) (suc (length s))) (omega arith)
    (rising_wider 1 (length s) 1 (suc (length s)) (levels_of_cuts s a) (omega arith) (omega arith) (rising_levels s a))
    (rising_same (suc (length s)) (e - a))

-- the entries before a level: those of the first groups, and all before the last level
pub before_low : (a e : ℕ) (s : List ℕ) (l : ℕ) → l ≤ suc (length s) → before l (levels_of_cuts (a ∷ s) e) ≡ before l (levels_of_cuts s a)
before_low a e s l h =
    omega (
      arith,
      before_append l (levels_of_cuts s a) (replicate (e - a) (suc (length s))),
      before_same l (suc (length s)) (e - a) h,
    )

pub before_top : (s : List ℕ) (e l : ℕ) → Falling s e → length s < l → before l (levels_of_cuts s e) ≡ e
before_top s e l f h = omega (arith, before_all 1 (length s) l (levels_of_cuts s e) (rising_levels s e) h, length-levels s e f)

-- before each level, as many entries as where its group starts
pub before_levels : (s : List ℕ) (e : ℕ) → Falling s e → (j : ℕ) → before (length s - j) (levels_of_cuts s e) ≡ get_or s j 0
before_levels [] e f j = refl
before_levels (a ∷ s) e f zero =
    let e' : suc (length s) - 0 ≡ suc (length s) = omega arith in
    rw e' (before_low a e s (suc (length s)) (omega arith) ∙ before_top s a (suc (length s)) f.1 (omega arith))
before_levels (a ∷ s) e f (suc j) =
    let e' : suc (length s) - suc j ≡ length s - j = omega arith in
    rw e' (before_low a e s (length s - j) (omega arith) ∙ before_levels s a f.1 j)

-- where groups start and end, by their levels
pub cut_first : (s : List ℕ) (e : ℕ) → before 1 (levels_of_cuts s e) ≡ 0
cut_first s e = before_none 1 (length s) 1 (levels_of_cuts s e) (rising_levels s e) (omega arith)

pub cut_end : (s : List ℕ) (e : ℕ) → Falling s e → (l g : ℕ) → l + g ≡ length s → before (suc l) (levels_of_cuts s e) ≡ get_or (e ∷ s) g 0
cut_end s e f l zero h = before_top s e (suc l) f (omega arith)
cut_end s e f l (suc g) h =
    let q : suc l ≡ length s - g = omega arith in
    rw q (before_levels s e f g)

-- each level has an entry
full_levels : (s : List ℕ) (e : ℕ) → Falling s e → (l : ℕ) → 1 ≤ l → l ≤ length s → 1 ≤ size_of l (levels_of_cuts s e)
full_levels [] e f l h k = absurd (omega arith)
full_levels (a ∷ s) e f l h k =
    by_cases (dec_le l (length s))
    (λ y.
    omega (
      arith,
      before_suc l (levels_of_cuts (a ∷ s) e),
      before_suc l (levels_of_cuts s a),
      before_low a e s l (omega arith),
      before_low a e s (suc l) (omega arith),
      full_levels s a f.1 l h y,
    ))
    (λ z.
    omega (
      arith,
      before_suc l (levels_of_cuts (a ∷ s) e),
      before_low a e s l (omega arith),
      before_top s a l f.1 (omega arith),
      before_top (a ∷ s) e (suc l) f (omega arith),
    ))

pub full_cuts : (s : List ℕ) (e : ℕ) → Falling s e → Full (length s) e (levels_of_cuts s e)
full_cuts s e f =
    record {
      assignment = rising_assignment e (length s) (levels_of_cuts s e) (length-levels s e f) (rising_levels s e);
      full = full_levels s e f;
    }
