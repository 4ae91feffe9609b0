use mathlib.Core.Option.{some}
use Rattle.node_words.specs.Held.{held_entries}
use Rattle.completion.specs.Test.{completion_test}
use Rattle.level_map.specs.Cuts.{before}
use Rattle.level_map.specs.Found.{levels_in}
use Rattle.map_store.specs.Store.{keeping}
use Rattle.map_store.specs.Putting.{Agrees}
use Rattle.map_store.proofs.put_groups.Given as goal

-- the words of the groups before the level stand
abbrev pub invariant-loop-level : goal.invariant-loop-level
invariant-loop-level l = Agrees (keeping completion_test (held_entries l.node) (some (levels_in l.cuts))) (before l.level (levels_in l.cuts)) l.cuts.count l.store
