use mathlib.Core.Path.{◌∙◌, sym}
use native.Mathlib.Numerals.{add-one}
use native.Mathlib.Omega.{arith}
use Rattle.node_words.specs.Held.{held_entries}
use Rattle.node_words.proofs.Entries.{length-entries}
use Rattle.level_map.proofs.InOrder.{first_start, last_end, no_group}
use Rattle.listing.proofs.Lines.{upto_same, upto_none, upto_room}
use Rattle.listing.proofs.Texts.{entries_none}
use Rattle.listing.proofs.Grouped.{group_put}
use Rattle.listing.proofs.put_entries.Goals as goal

pub loop-level-init : goal.loop-level-init
loop-level-init c =
    let a = c.args in
    rw (← first_start a.cuts.now) (upto_same (sym (entries_none (held_entries a.node.now) _)) (upto_none a.text.now 0))

pub put_group-requires : goal.put_group-requires
put_group-requires c = record {
  inside = (omega arith, omega arith);
  room = upto_room c.loop-level.invariant (omega arith) _ (omega arith);
}

pub loop-level-preserved : goal.loop-level-preserved
loop-level-preserved c =
    let a = c.args in
    let l = c.loop-level in
    let g = c.group in
    let sized = length-entries a.node.now.words.now 0 a.node.now.count ∙ sym c.requires.same in
    rw (add-one l.level, ← g.ensures.end)
    (group_put (held_entries a.node.now) a.cuts.now sized _ _ _ l.level g.result.first g.result.end g.ensures.first g.ensures.end (omega arith)
    (omega arith) l.invariant c.put_group.ensures)

pub returns : goal.returns
returns c =
    let cuts = c.args.cuts.now in
    let l = c.loop-level in
    let all = no_group cuts _ l.level c.groups-level-end.ensures c.loop-level-test.false l.auto.level-end ∙ c.requires.same in
    rw all at l.invariant

pub returns-2 : goal.returns-2
returns-2 c =
    let a = c.args in
    let l = c.loop-level in
    let g = c.group in
    let sized = length-entries a.node.now.words.now 0 a.node.now.count ∙ sym c.requires.same in
    let all = last_end a.cuts.now l.level _ g.ensures.end (omega (arith, c.groups-level-end.ensures)) ∙ c.requires.same in
    rw all at
    (group_put (held_entries a.node.now) a.cuts.now sized _ _ _ l.level g.result.first g.result.end g.ensures.first g.ensures.end (omega arith)
    (omega arith) l.invariant c.put_group.ensures)
