use Rattle.std.proofs.Common.{◌≡◌, ◌-◌, ◌∙◌, ap, arith}
use Rattle.std.specs.Option.{unwrap_or}
use Rattle.task_model.specs.declared.Entry.{Entry}
use Rattle.task_model.specs.Limits.{entry_at}
use Rattle.node_words.specs.Held.{held_entries}
use Rattle.node_words.proofs.Entries.{length-entries}
use Rattle.completion.specs.Group.{group_level}
use Rattle.completion.specs.Test.{completion_test, test_with}
use Rattle.on_time.specs.Deciding.{completion_time}
use Rattle.on_time.proofs.Early.{time_or_zero}
use Rattle.map_store.specs.Store.{times_at}
use Rattle.map_store.proofs.Putting.{put_next}
use Rattle.map_store.proofs.Earliest.{known_before, earliest_after}
use Rattle.map_store.proofs.put_times.Goals as goal

pub completion_time-time-requires-clause-not_before : goal.completion_time-time-requires-clause-not_before
completion_time-time-requires-clause-not_before c u h =
    let es = held_entries c.args.node.now in
    let l = c.loop-position in
    let at = c.timed-timed.ensures in
    let own : c.entry.result.entry ≡ entry_at es l.position = rw (at.node, at.position) at c.entry.ensures in
    let b = ap (λ (e : Entry). e.blocking) own in
    rw c.known_for-from.ensures
    (known_before es c.args.group.first (c.args.group.end - 1) l.position (omega arith) (omega arith) l.known l.invariant.known _ b u
    (rw (at.node, at.group.0, at.group.1, at.position, b) at h))

pub loop-position-preserved : goal.loop-position-preserved
loop-position-preserved c =
    let n = c.args.node.now in
    let es = held_entries n in
    let first = c.args.group.first in
    let last = c.args.group.end - 1 in
    let l = c.loop-position in
    let at = c.timed-timed.ensures in
    let own : c.entry.result.entry ≡ entry_at es l.position = rw (at.node, at.position) at c.entry.ensures in
    let time : c.completion_time-time.result ≡ completion_time (completion_test es (group_level first last) l.position) =
    (rw (at.node, at.group.0, at.group.1, at.position) at c.completion_time-time.ensures)
    ∙ ap (λ (e : Entry). completion_time (test_with e.blocking es (group_level first last) l.position)) own in
    record {
      put = put_next times_at _ _ _ l.position _ _ (omega arith) (omega arith)
          (c.unwrap_or.ensures ∙ ap (λ o. unwrap_or o 0) time ∙ time_or_zero (completion_test es (group_level first last) l.position)) l.invariant.put;
      known = rw c.known_after-known.ensures (earliest_after es first last l.position (omega arith) (omega arith) n.held (omega (arith, length-entries n.words.now 0 n.count))
          l.known l.invariant.known _ own _ time);
    }
