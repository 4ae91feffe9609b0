use mathlib.Core.Path.{sym, ap}
use Rattle.plan_file.specs.Limits.{longest}
use Rattle.plan_file.proofs.Edition.most_bytes.Goals as goal

pub returns-in-First : goal.returns-in-First
returns-in-First c = sym (ap longest c.in-First.is)

pub returns-in-Second : goal.returns-in-Second
returns-in-Second c = sym (ap longest c.in-Second.is)
