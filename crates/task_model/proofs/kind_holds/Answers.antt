use mathlib.Core.Path.{sym}
use native.Mathlib.Omega.{arith}
use Rattle.task_model.proofs.Laws.{task_calls, task_over, section_alone, section_calls, no_kind}
use Rattle.task_model.proofs.kind_holds.Goals as goal

pub returns-in-0-to-15 : goal.returns-in-0-to-15
returns-in-0-to-15 c = sym (task_calls _ _ c.in-1.is (omega arith))

pub returns-in_default-calls : goal.returns-in_default-calls
returns-in_default-calls c = sym (task_over _ _ c.in-1.is (omega arith))

pub returns-in-0 : goal.returns-in-0
returns-in-0 c = sym (section_alone _ _ c.in-2.is c.in-0.is)

pub returns-in_default-calls-2 : goal.returns-in_default-calls-2
returns-in_default-calls-2 c = sym (section_calls _ _ c.in-2.is c.in_default-calls-2.in_default-calls-2-own.rest.1)

pub returns-in_default : goal.returns-in_default
returns-in_default c = sym (no_kind _ _ c.in_default.in_default-own.rest.0.1 c.in_default.in_default-own.rest.1)
