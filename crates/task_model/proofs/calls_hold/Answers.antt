use Rattle.task_model.proofs.calls_hold.Goals as goal

pub returns : goal.returns
returns c = c.calls_end.ensures _
