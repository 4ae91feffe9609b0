use mathlib.Core.Path.{◌∙◌, sym}
use Rattle.plan_file.proofs.Tests.{edition_second, edition_first}
use Rattle.plan_file.proofs.stages.Header.edition.Goals as goal

pub returns-then-opens : goal.returns-then-opens
returns-then-opens c = sym (edition_second _ (sym c.opens.ensures ∙ c.if-opens.true))

pub returns : goal.returns
returns c = sym (edition_first _ (sym c.opens.ensures ∙ c.if-opens.false))
