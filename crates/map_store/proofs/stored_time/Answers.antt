use Rattle.std.proofs.Common.{◌∙◌, sym}
use Rattle.map_store.proofs.Asking.{timed_outside, timed_none, timed_given}
use Rattle.map_store.proofs.stored_time.Goals as goal

pub returns-then-count-i : goal.returns-then-count-i
returns-then-count-i c = sym (timed_outside _ _ _ _ c.if-count-i.true)

pub returns-then-not-has_map : goal.returns-then-not-has_map
returns-then-not-has_map c = sym (timed_none _ _ _ _ c.if-count-i.false (sym c.has_map.ensures ∙ c.if-not-has_map.true))

pub returns : goal.returns
returns c = sym (timed_given _ _ _ _ c.if-count-i.false (sym c.has_map.ensures ∙ c.if-not-has_map.false))
