use Rattle.std.proofs.Common.{add-one, arith, rules}
use Rattle.level_map.proofs.InOrder.{last_end, no_group}
use Rattle.map_store.proofs.Groups.{groups_begun, group_stored, groups_stored}
use Rattle.map_store.proofs.put_groups.Goals as goal

pub loop-level-init : goal.loop-level-init
loop-level-init c = rw c.requires.heads (groups_begun c.args.node.now c.args.cuts.now c.requires.same)

pub loop-level-preserved : goal.loop-level-preserved
loop-level-preserved c =
    let l = c.loop-level in
    let g = c.group-group in
    rw (add-one l.level, ← g.ensures.end)
    (group_stored c.args.node.now c.args.cuts.now c.requires.same l.level g.result.first g.result.end l.store _ _
    g.ensures.first g.ensures.end (omega arith) (omega arith) l.invariant (search rules) c.put_times.ensures)

pub returns : goal.returns
returns c =
    let cuts = c.args.cuts.now in
    let l = c.loop-level in
    groups_stored c.args.node.now cuts c.requires.same _ l.store
    (no_group cuts _ l.level c.groups-level-end.ensures c.loop-level-test.false l.auto.level-end) l.invariant

pub returns-2 : goal.returns-2
returns-2 c =
    let l = c.loop-level in
    let g = c.group-group in
    groups_stored c.args.node.now c.args.cuts.now c.requires.same g.result.end _
    (last_end c.args.cuts.now l.level _ g.ensures.end (omega (arith, c.groups-level-end.ensures)))
    (group_stored c.args.node.now c.args.cuts.now c.requires.same l.level g.result.first g.result.end l.store _ _
    g.ensures.first g.ensures.end (omega arith) (omega arith) l.invariant (search rules) c.put_times.ensures)
