use mathlib.Core.Path.{◌∙◌, sym, ap}
use Rattle.refusals.specs.Refusals.{at, must_hold}
use Rattle.session.specs.Operations.{levels_check}
use Rattle.session.proofs.lent.check_levels.Goals as goal

pub returns-then-not-levels_hold : goal.returns-then-not-levels_hold
unfolding levels_check
returns-then-not-levels_hold c = ap (λ holds. must_hold holds (at 4 0 0)) (sym c.if-not-levels_hold.true ∙ c.levels_hold.ensures)

pub returns : goal.returns
unfolding levels_check
returns c = ap (λ holds. must_hold holds (at 4 0 0)) (sym c.if-not-levels_hold.false ∙ c.levels_hold.ensures)
