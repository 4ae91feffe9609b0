use Prim.Native.Nat.{◌*◌}
use Rattle.text.specs.Text.{Upto}
use Rattle.plan_file.specs.Decoding.{plan_in}
use Rattle.listing.specs.Room.{node_most}
use Rattle.listing.specs.Listing.{nodes_text}
use Rattle.listing.proofs.put_nodes.Given as goal

abbrev pub invariant-loop-row : goal.invariant-loop-row
invariant-loop-row l = Upto l.initial.text (node_most * l.row) (nodes_text (plan_in l.plan.bytes.now) l.row) l.text
