use Prim.Native.Nat.{◌+◌, ◌*◌, ◌-◌}
use mathlib.Core.Path.{◌≡◌, sym}
use mathlib.Core.List.{◌++◌}
use native.Mathlib.Omega.{arith}
use Rattle.task_model.specs.Limits.{entry_at}
use Rattle.node_words.specs.Held.{held_entries}
use Rattle.completion.specs.Group.{group_level}
use Rattle.completion.specs.Test.{completion_test}
use Rattle.listing.specs.Groups.{timed_line, group_text}
use Rattle.listing.proofs.Lines.{upto_same, upto_none, upto_room, upto_append}
use Rattle.listing.proofs.Grouped.{group_none, group_more}
use Rattle.listing.proofs.put_group.Goals as goal

pub loop-position-init : goal.loop-position-init
loop-position-init c =
    let a = c.args in
    let g = a.group in
    let e : g.first - g.first ≡ 0 = omega arith in
    rw e (upto_same (sym (group_none (held_entries a.node.now) g.first (g.end - 1) a.level)) (upto_none a.text.now 0))

pub put_entry-requires : goal.put_entry-requires
put_entry-requires c = upto_room c.loop-position.invariant (omega arith) 56 (omega arith)

pub loop-position-preserved : goal.loop-position-preserved
loop-position-preserved c =
    let l = c.loop-position in
    let a = c.args in
    let g = a.group in
    let es = held_entries a.node.now in
    let k = l.position - g.first in
    let one : l.position + 1 - g.first ≡ k + 1 = omega arith in
    let size : 56 * k + 56 ≡ 56 * (k + 1) = omega arith in
    let at_k : g.first + k ≡ l.position = omega arith in
    let more : group_text es g.first (g.end - 1) a.level (k + 1)
    ≡ group_text es g.first (g.end - 1) a.level k
    ++ timed_line (entry_at es l.position) a.level (completion_test es (group_level g.first (g.end - 1)) l.position) =
    rw at_k at (group_more es g.first (g.end - 1) a.level k) in
    let at = c.timed.ensures in
    let line = rw (at.node, at.group.0, at.group.1, at.position) at c.put_entry.ensures in
    rw one (upto_same (sym more) (rw size at (upto_append l.invariant (omega arith) line)))

pub returns : goal.returns
returns c =
    let e : c.loop-position.position ≡ c.args.group.end = omega arith in
    rw e at c.loop-position.invariant
