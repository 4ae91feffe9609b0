use mathlib.Core.Path.{◌∙◌}
use Rattle.session.proofs.Numbers.{found_before, found_behind}
use Rattle.session.proofs.lent.LentSession.other_has_number.Goals as goal

pub returns-then-has_number : goal.returns-then-has_number
returns-then-has_number c = c.if-has_number.true ∙ found_before _ _ _ _ c.requires.0 c.has_number.ensures c.if-has_number.true

pub returns-else-has_number : goal.returns-else-has_number
returns-else-has_number c =
    found_behind _ _ _ _ c.requires.0 c.has_number.ensures c.if-has_number.false c.has_number-else-has_number.ensures
