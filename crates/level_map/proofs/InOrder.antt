-- The groups of a map one after the other, from the most urgent on: first where the cuts are the start of any list, by
-- `first_group`, `next_group` and `last_group`, then those of a `Cuts`. A loop over the levels of a `Cuts` starts with
-- `first_start`, and ends with `last_end`, or with `no_group` if there is none; between, each group ends where the next begins.
use Prim.Native.Nat.{ℕ, suc, ◌+◌, ◌-◌, ◌≤◌, ◌<◌}
use mathlib.Core.Path.{◌≡◌, ◌∙◌, ap, sym}
use mathlib.Core.Logic.{by_cases}
use native.Mathlib.Decide.{dec_lt}
use native.Mathlib.Omega.{arith}
use mathlib.Core.List.{List, ◌∷◌}
use lib.ListN.{length, get_or, take}
use lib.Seq.{length-take-le, get_or-take}
use Rattle.level_map.specs.declared.cuts.Cuts.{Cuts}
use Rattle.level_map.specs.Cuts.{Falling, levels_of_cuts, before}
use Rattle.level_map.specs.Found.{starts_in, levels_in}
use Rattle.level_map.proofs.Levels.{before_suc, before_length, own_level}
use Rattle.level_map.proofs.Cutting.{length-levels, before_top, before_levels, cut_first, cut_end, full_cuts, rising_levels}

module _ (n : ℕ) (cuts : List ℕ) (groups : ℕ) (inside : groups ≤ length cuts) (f : Falling (take groups cuts) n) where
  abbrev levels : List ℕ
  levels = levels_of_cuts (take groups cuts) n

  long : length (take groups cuts) ≡ groups
  long = length-take-le groups cuts inside

  pub first_group : 0 ≡ before 1 (levels_of_cuts (take groups cuts) n)
  first_group = sym (cut_first (take groups cuts) n)

  -- the group behind `level` groups is from `first` up to `end`
  pub next_group : (level first end : ℕ) → level < groups → first ≡ before (level + 1) (levels_of_cuts (take groups cuts) n)
      → end ≡ get_or (n ∷ cuts) (groups - 1 - level) 0
      → (first ≤ end) × (end ≤ n) × (end ≡ before (suc (level + 1)) (levels_of_cuts (take groups cuts) n))
  next_group level first end h p q =
      let g = groups - 1 - level in
      let l = level + 1 in
      let ends : end ≡ before (suc l) levels =
      q ∙ sym (get_or-take (suc groups) (n ∷ cuts) g 0 (omega arith)) ∙ sym (cut_end (take groups cuts) n f l g (omega (arith, long))) in (
        omega (arith, before_suc l levels),
        omega (arith, before_length (suc l) levels, length-levels (take groups cuts) n f),
        ends,
      )

  pub last_group : (level first : ℕ) → level ≡ groups → first ≡ before (level + 1) (levels_of_cuts (take groups cuts) n) → first ≡ n
  last_group level first h p = p ∙ before_top (take groups cuts) n (level + 1) f (omega (arith, long))

module _ (c : Cuts) where
  -- how many groups there are
  abbrev pub groups : ℕ
  groups = length (starts_in c)

  pub used_groups : groups ≡ c.used
  used_groups = length-take-le c.used c.starts c.full

  pub levels_count : length (levels_in c) ≡ c.count
  levels_count = length-levels (starts_in c) c.count c.falling

  pub first_start : 0 ≡ before 1 (levels_in c)
  first_start = sym (cut_first (starts_in c) c.count)

  pub last_stop : before (groups + 1) (levels_in c) ≡ c.count
  last_stop = before_top (starts_in c) c.count (groups + 1) c.falling (omega arith)

  pub last_end : (level end : ℕ) → end ≡ before (suc level) (levels_in c) → level ≡ length (starts_in c) → end ≡ c.count
  last_end level end ends top =
      let next : suc level ≡ groups + 1 = omega (arith, top) in
      ends ∙ ap (λ k. before k (levels_in c)) next ∙ last_stop

  pub no_group : (n level : ℕ) → n ≡ length (starts_in c) → n < level → (1 ≤ n → level ≤ n) → before level (levels_in c) ≡ c.count
  no_group n level all beyond within =
      let none : n ≡ 0 = by_cases (dec_lt 0 n) (λ h. absurd (omega (arith, within h))) (λ h. omega arith) in
      let empty : 0 ≡ groups = omega (arith, none, all) in
      let count : 0 ≡ c.count = first_start ∙ ap (λ k. before (k + 1) (levels_in c)) empty ∙ last_stop in
      omega (arith, count, levels_count, before_length level (levels_in c))

  -- where the group on a level starts, and where it ends
  module _ (level : ℕ) (low : 1 ≤ level) (high : level ≤ groups) where
    pub group_start : get_or c.starts (c.used - level) 0 ≡ before level (levels_in c)
    group_start =
        let back : groups - (c.used - level) ≡ level = omega (arith, used_groups) in
        sym (get_or-take c.used c.starts (c.used - level) 0 (omega (arith, used_groups)))
        ∙ sym (rw back at (before_levels (starts_in c) c.count c.falling (c.used - level)))

    pub group_stop : get_or (c.count ∷ c.starts) (c.used - level) 0 ≡ before (suc level) (levels_in c)
    group_stop =
        sym (get_or-take (suc c.used) (c.count ∷ c.starts) (c.used - level) 0 (omega arith))
        ∙ sym (cut_end (starts_in c) c.count c.falling level (c.used - level) (omega (arith, used_groups)))

    pub group_some : before level (levels_in c) < before (suc level) (levels_in c)
    group_some = omega (arith, before_suc level (levels_in c), (full_cuts (starts_in c) c.count c.falling).full level low high)

    pub group_inside : before (suc level) (levels_in c) ≤ c.count
    group_inside = omega (arith, before_length (suc level) (levels_in c), levels_count)

  -- the entries of the group have its level
  pub group_level_at : (level k : ℕ) → before level (levels_in c) ≤ k → k < before (suc level) (levels_in c) → get_or (levels_in c) k 0 ≡ level
  group_level_at level k = own_level 1 (length (starts_in c)) level (levels_in c) k (rising_levels (starts_in c) c.count)
