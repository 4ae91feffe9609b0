use Prim.Native.Nat.{◌*◌, ◌-◌}
use Rattle.node_words.specs.Held.{held_entries}
use Rattle.text.specs.Text.{Upto}
use Rattle.listing.specs.Groups.{group_text}
use Rattle.listing.proofs.put_group.Given as goal

-- the lines of the entries before the position stand
abbrev pub invariant-loop-position : goal.invariant-loop-position
invariant-loop-position l =
    Upto l.initial.text (56 * (l.position - l.group.first))
    (group_text (held_entries l.node) l.group.first (l.group.end - 1) l.level (l.position - l.group.first)) l.text
