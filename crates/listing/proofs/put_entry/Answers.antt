use mathlib.Core.Path.{◌∙◌, ap, sym}
use Rattle.task_model.specs.declared.Entry.{Entry}
use Rattle.task_model.specs.Limits.{entry_at}
use Rattle.node_words.specs.Held.{held_entries}
use Rattle.completion.specs.Test.{completion}
use Rattle.listing.specs.Lines.{entry_line}
use Rattle.listing.specs.Groups.{timed_line}
use Rattle.listing.proofs.Lines.{upto_same, upto_none}
use Rattle.listing.proofs.put_entry.Goals as goal

pub returns-in_default : goal.returns-in_default
returns-in_default c =
    let a = c.args in
    let e = entry_at (held_entries a.timed.now.node) a.timed.now.position in
    let l = sym c.completion_test.ensures.answered ∙ ap completion c.in_default.is in
    upto_same (sym (ap (timed_line e a.level) l)) (upto_none a.text.now 56)

pub returns : goal.returns
returns c =
    let a = c.args in
    let e = entry_at (held_entries a.timed.now.node) a.timed.now.position in
    let o = sym c.completion_test.ensures.answered ∙ ap completion c.in-OnTime.is in
    let n = ap (λ (x : Entry). x.number) c.entry.ensures in
    upto_same (ap (λ x. entry_line x a.level c.in-OnTime.time c.in-OnTime.rounds) n ∙ sym (ap (timed_line e a.level) o)) c.put_entry_line.ensures
