use Rattle.std.proofs.lemmas.Result.{err_from_is_err_and}
use Rattle.planner_c.proofs.Writing.{promise_written, promise_refused}
use Rattle.planner_c.proofs.plan_files.write_in.Goals as goal

pub returns-in_err-edition : goal.returns-in_err-edition
returns-in_err-edition c =
    let a = c.args in
    let p = err_from_is_err_and c.from_residual.result c.from_residual.ensures.1 in
    let all = promise_refused a.edition a.rows.now a.entries.now a.file.now c.in_err-edition.ensures c.from_residual.result (rw p.2 at p.1) in
    record { answered = all.0; written = all.1; read_again = all.2 }

pub returns : goal.returns
returns c =
    let a = c.args in
    let w = c.write_plan.ensures in
    let all = promise_written a.edition a.rows.now a.entries.now a.file.now c.in_ok-edition.ensures w.write_call w.read_again in
    record { answered = all.0; written = all.1; read_again = all.2 }
