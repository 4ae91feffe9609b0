use Rattle.plan_file.specs.Editions.{edition_for}
use Rattle.plan_file.proofs.editions.EditionTryFromU32.try_from.Goals as goal

pub returns-in-1 : goal.returns-in-1
unfolding edition_for
returns-in-1 c = rw (c.in-1.is, edition_for, c.in-1.is)

pub returns-in-2 : goal.returns-in-2
unfolding edition_for
returns-in-2 c = rw (c.in-2.is, edition_for, c.in-2.is)
