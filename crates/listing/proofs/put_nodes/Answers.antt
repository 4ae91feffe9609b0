use Prim.Native.Nat.{◌+◌, ◌*◌}
use mathlib.Core.Path.{◌≡◌, sym}
use native.Mathlib.Omega.{arith}
use Rattle.plan_file.specs.Decoding.{plan_in}
use Rattle.listing.specs.Room.{node_most}
use Rattle.listing.proofs.Lines.{upto_same, upto_none, upto_room, upto_append}
use Rattle.listing.proofs.Texts.{nodes_none, nodes_more}
use Rattle.listing.proofs.put_nodes.Goals as goal

pub loop-row-init : goal.loop-row-init
loop-row-init c = upto_same (sym (nodes_none (plan_in c.args.plan.now.bytes.now))) (upto_none c.args.text.now 0)

pub put_node-requires : goal.put_node-requires
put_node-requires c = record {
  inside = omega arith;
  room = upto_room c.loop-row.invariant (omega arith) node_most (omega arith);
}

pub loop-row-preserved : goal.loop-row-preserved
loop-row-preserved c =
    let row = c.loop-row.row in
    let e : node_most * row + node_most ≡ node_most * (row + 1) = omega arith in
    upto_same (sym (nodes_more (plan_in c.args.plan.now.bytes.now) row))
    (rw e at (upto_append c.loop-row.invariant (omega arith) c.put_node.ensures))

pub returns : goal.returns
returns c =
    let e : c.loop-row.row ≡ c.args.nodes = omega arith in
    rw e at c.loop-row.invariant
