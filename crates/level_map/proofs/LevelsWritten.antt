-- The levels of a map written group by group.
use Prim.Native.Nat.{ℕ, suc, ◌-◌, ◌≤◌, ◌<◌}
use mathlib.Core.Path.{◌≡◌, ◌∙◌, ap, sym}
use mathlib.Core.List.{List, ◌++◌}
use native.Mathlib.Omega.{arith}
use lib.ListN.{length, replicate, drop}
use borrow.Rule.Slice.PartMut.{put_mid}
use Rattle.level_map.specs.declared.cuts.Cuts.{Cuts}
use Rattle.level_map.specs.Cuts.{before}
use Rattle.level_map.specs.Found.{starts_in, levels_in}
use Rattle.level_map.proofs.Filled.{Written, filled_mid, written_next, written_all}
use Rattle.level_map.proofs.InOrder.{levels_count, last_end, group_level_at}

module _ (c : Cuts) (old : List ℕ) where
  -- one group more
  module _ (level first end : ℕ) (out part : List ℕ) (starts : first ≡ before level (levels_in c)) (ends : end ≡ before (suc level) (levels_in c))
      (some : first < end) (fits : end ≤ length out) (filled : part ≡ replicate (end - first) level)
      (w : Written (levels_in c) old (before level (levels_in c)) out) where
    pub level_written : Written (levels_in c) old end (put_mid first (end - first) out part)
    level_written =
        written_next (levels_in c) old first end level out _ (rw (← starts) at w)
        (filled_mid first end level out (omega arith) fits part filled)
        (rw (starts, ends) (group_level_at c level))
        (omega arith)

    -- and the last one
    pub last_written : level ≡ length (starts_in c) → c.count ≤ length old → put_mid first (end - first) out part ≡ levels_in c ++ drop c.count old
    last_written top room =
        let all = last_end c level end ends top in
        written_all (levels_in c) old end _ (levels_count c ∙ sym all) (omega (arith, all)) level_written ∙ ap (λ n. levels_in c ++ drop n old) all
