use mathlib.Core.Path.{◌≡◌, ◌∙◌, refl, sym, ap}
use native.Mathlib.Omega.{arith}
use Rattle.std.specs.Prelude.{Some, None}
use Rattle.refusals.specs.declared.Refusal.TheVariants.{NoSuchNode}
use Rattle.std.proofs.lemmas.Result.{err_from_is_err_and}
use Rattle.refusals.proofs.Outcomes.{giving_refuses, giving_gives}
use Rattle.plan_file.specs.Find.{first_row}
use Rattle.plan_file.proofs.Finding.{found_row, missing_row}
use Rattle.plan_file.proofs.Reading.{find_refused, find_missing, find_found}
use Rattle.plan_file.proofs.File.{rows_listed}
use Rattle.plan_file.proofs.find_node.Goals as goal

pub returns-in_err-plan : goal.returns-in_err-plan
returns-in_err-plan c =
    let p = err_from_is_err_and c.from_residual.result c.from_residual.ensures.1 in
    rw (p.1, p.2)
    (record {
      answer = sym (find_refused _ _ _ (giving_refuses _ _ _ c.in_err-plan.ensures));
      words_after = refl;
      holding = tt;
    })

pub returns-in_err-row : goal.returns-in_err-row
returns-in_err-row c =
    let told = giving_gives _ _ _ c.in_ok-plan.ensures in
    let listed = rows_listed (rw told.1 at c.contents.ensures) in
    let p = err_from_is_err_and c.from_residual-in_err-row.result c.from_residual-in_err-row.ensures.1 in
    let none : c.find.result ≡ None = grind arith in
    let nine : c.in_err-row.field-0.0 ≡ NoSuchNode = grind arith in
    rw (p.1, p.2, nine)
    (record {
      answer = sym (find_missing _ _ told.0 (missing_row _ _ (sym none ∙ c.find.ensures ∙ ap (first_row c.args.number) listed)));
      words_after = refl;
      holding = tt;
    })

pub load_node-r-requires : goal.load_node-r-requires
load_node-r-requires c =
    let told = giving_gives _ _ _ c.in_ok-plan.ensures in
    let listed = rows_listed (rw told.1 at c.contents.ensures) in
    let some : c.find.result ≡ Some c.in_ok-row.row = grind arith in
    let row = found_row _ _ _ (sym some ∙ c.find.ensures ∙ ap (first_row c.args.number) listed) in
    rw told.1 row.1

pub returns : goal.returns
returns c =
    let told = giving_gives _ _ _ c.in_ok-plan.ensures in
    let listed = rows_listed (rw told.1 at c.contents.ensures) in
    let some : c.find.result ≡ Some c.in_ok-row.row = grind arith in
    let row = found_row _ _ _ (sym some ∙ c.find.ensures ∙ ap (first_row c.args.number) listed) in
    let e = rw told.1 at c.load_node-r.ensures in record {
      answer = rw e.row (sym (find_found _ _ told.0 _ row.0 row.1));
      words_after = rw (← row.0) e.words;
      holding = rw (← row.0) e.node;
    }
