use Rattle.std.proofs.Common.{◌≡◌, ◌++◌, drop, length}
use Rattle.map_store.specs.Store.{stored_levels}
use Rattle.map_store.proofs.put_stored.Given as goal

abbrev pub invariant-loop-position : goal.invariant-loop-position
invariant-loop-position l =
    (length l.byte-items ≡ length l.initial.byte-items)
    × (l.byte-items ≡ stored_levels l.store l.position ++ drop l.position l.initial.byte-items)
