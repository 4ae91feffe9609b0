use Prim.Native.Nat.{◌*◌}
use Rattle.node_words.specs.Held.{held_entries}
use Rattle.text.specs.Text.{Upto}
use Rattle.level_map.specs.Cuts.{before}
use Rattle.level_map.specs.Found.{levels_in}
use Rattle.listing.specs.Listing.{entries_text}
use Rattle.listing.proofs.put_entries.Given as goal

-- the lines of the groups so far stand
abbrev pub invariant-loop-level : goal.invariant-loop-level
invariant-loop-level l =
    Upto l.initial.text (56 * before l.level (levels_in l.cuts))
    (entries_text (held_entries l.node) (levels_in l.cuts) (before l.level (levels_in l.cuts))) l.text
