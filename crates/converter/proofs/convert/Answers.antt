use mathlib.Core.Path.{◌∙◌, refl, sym}
use Rattle.std.proofs.lemmas.Result.{err_from_is_err_and}
use Rattle.refusals.proofs.Outcomes.{giving_refuses, giving_gives}
use Rattle.converter.proofs.Converting.{convert_refused, convert_accepted}
use Rattle.converter.proofs.RoundTrip.{passes, convert_ensures}
use Rattle.converter.proofs.convert.Goals as goal

pub returns-in_err-plan : goal.returns-in_err-plan
returns-in_err-plan c =
    let p = err_from_is_err_and c.from_residual.result c.from_residual.ensures.1 in
    rw (p.1, p.2)
    (record {
      convert_call = record { answer = sym (convert_refused _ _ _ _ (giving_refuses _ _ _ c.in_err-plan.ensures)); there = refl };
      converted_again = tt;
    })

pub write_converted-requires : goal.write_converted-requires
write_converted-requires c =
    let told = giving_gives _ _ _ c.in_ok-plan.ensures in
    rw told.1 (passes _ _ told.0).opens

pub returns : goal.returns
returns c =
    let told = giving_gives _ _ _ c.in_ok-plan.ensures in
    let written = rw told.1 at c.write_converted.ensures in
    let both = convert_ensures {f = c.args.file.now} (λ i. (c.type_inv.file i).fits)
    (record { answer = written.answer ∙ sym (convert_accepted _ _ _ told.0); there = written.out_after }) in
    record { convert_call = both.0; converted_again = both.1 }
