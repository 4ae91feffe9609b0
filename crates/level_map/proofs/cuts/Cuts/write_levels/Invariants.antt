use Rattle.level_map.specs.Cuts.{before}
use Rattle.level_map.specs.Found.{levels_in}
use Rattle.level_map.proofs.Filled.{Written}
use Rattle.level_map.proofs.cuts.Cuts.write_levels.Given as goal

-- the levels of the entries before the group are written
abbrev pub invariant-loop-level : goal.invariant-loop-level
invariant-loop-level l = Written (levels_in l.self) l.initial.out (before l.level (levels_in l.self)) l.out
