use Rattle.task_model.proofs.Laws.{task_end, section_end, other_end}
use Rattle.task_model.proofs.calls_end.Goals as goal

pub returns-in-1 : goal.returns-in-1
returns-in-1 c = λ calls. task_end _ calls c.in-1.is

pub returns-in-2 : goal.returns-in-2
returns-in-2 c = λ calls. section_end _ calls c.in-2.is

pub returns-in_default : goal.returns-in_default
returns-in_default c = λ calls. other_end _ calls c.in_default.in_default-own.rest.0.1 c.in_default.in_default-own.rest.1
