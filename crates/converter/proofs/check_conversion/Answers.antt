use Prim.Native.Nat.{ℕ, ◌*◌}
use mathlib.Core.Path.{◌≡◌, ◌∙◌, sym, ap}
use mathlib.Core.Bool.{true}
use mathlib.Core.List.{List}
use native.Mathlib.Omega.{arith}
use Rattle.std.proofs.lemmas.Result.{err_from_is_err_and}
use Rattle.refusals.specs.Refusals.{accepted}
use Rattle.refusals.proofs.Outcomes.{giving_refuses, giving_gives}
use Rattle.plan_file.specs.declared.Edition.{Edition}
use Rattle.plan_file.specs.declared.Edition.TheVariants.{First, Second}
use Rattle.plan_file.specs.Plan.{entry_count}
use Rattle.plan_file.specs.Encoding.{entry_length}
use Rattle.plan_file.specs.Decoding.{opening_test, edition_of, rows_in}
use Rattle.plan_file.specs.Check.{file_check}
use Rattle.plan_file.proofs.File.{file_holds}
use Rattle.converter.specs.Conversion.{other}
use Rattle.converter.proofs.Converting.{same, differ, opens_other, opens_not, forward_keeps, second_losses, check_own, check_edition, check_rest}
use Rattle.converter.proofs.check_conversion.Goals as goal

pub returns-in_err-plan : goal.returns-in_err-plan
returns-in_err-plan c =
    let p = err_from_is_err_and c.from_residual.result c.from_residual.ensures.1 in
    let r = giving_refuses _ _ _ c.in_err-plan.ensures in
    rw (p.1, p.2, check_own c.args.to _ _ r)

pub returns-then-eq : goal.returns-then-eq
returns-then-eq c =
    let told = giving_gives _ _ _ c.in_ok-plan.ensures in
    let e = rw told.1 at c.edition.ensures in
    let not = opens_not c.args.to c.args.file.now (sym e ∙ same _ _ (sym c.if-eq.ensures)) in
    rw (check_edition c.args.to _ told.0 not)

-- a file `f` that passes its own checks, by the same bytes `g`, and is not of the edition asked for
module _ (to : Edition) {from : Edition} {f g : List ℕ} (told : (file_check f ≡ accepted) × (g ≡ f)) (p : from ≡ edition_of g)
    (not : from ≡ other to) where
  opens : opening_test (other to) f ≡ true
  opens = opens_other to f told.0 (ap edition_of (sym told.1) ∙ sym p ∙ not)

  -- it goes back: it is of the second edition
  second : to ≡ First → edition_of f ≡ Second
  second first = ap edition_of (sym told.1) ∙ sym p ∙ not ∙ ap other first

pub returns-then-eq-2 : goal.returns-then-eq-2
returns-then-eq-2 c =
    let told = giving_gives _ _ _ c.in_ok-plan.ensures in
    let opened = opens c.args.to told c.edition.ensures (differ _ c.args.to (sym c.if-eq.ensures)) in
    let e = same c.args.to Second (sym c.if-eq-2.ensures) in
    rw (told.1, check_rest c.args.to _ told.0 opened, e, forward_keeps c.args.file.now)

pub check_bodies-requires : goal.check_bodies-requires
check_bodies-requires c =
    let f = c.args.file.now in
    let told = giving_gives _ _ _ c.in_ok-plan.ensures in
    let at_hand = rw told.1 at c.contents.ensures in
    let first = differ _ Second (sym c.if-eq-2.ensures) in
    let is_second = second c.args.to told c.edition.ensures (differ _ c.args.to (sym c.if-eq.ensures)) first in
    let e = ap (λ ed. entry_count (rows_in f) * entry_length ed) is_second in
    rw (ap (λ p. p.0) at_hand, ap (λ p. p.1) at_hand) (omega (arith, (file_holds f told.0).ends, e))

pub returns-in_err-check_bodies : goal.returns-in_err-check_bodies
returns-in_err-check_bodies c =
    let p = err_from_is_err_and c.from_residual-in_err-check_bodies.result c.from_residual-in_err-check_bodies.ensures.1 in
    let told = giving_gives _ _ _ c.in_ok-plan.ensures in
    let at_hand = rw told.1 at c.contents.ensures in
    let first = differ _ Second (sym c.if-eq-2.ensures) in
    let is_second = second c.args.to told c.edition.ensures (differ _ c.args.to (sym c.if-eq.ensures)) first in
    let opened = opens c.args.to told c.edition.ensures (differ _ c.args.to (sym c.if-eq.ensures)) in
    let lost = c.in_err-check_bodies.ensures ∙ second_losses at_hand is_second in
    rw (p.1, p.2, check_rest c.args.to _ told.0 opened, first, ← lost)

pub returns : goal.returns
returns c =
    let told = giving_gives _ _ _ c.in_ok-plan.ensures in
    let at_hand = rw told.1 at c.contents.ensures in
    let first = differ _ Second (sym c.if-eq-2.ensures) in
    let is_second = second c.args.to told c.edition.ensures (differ _ c.args.to (sym c.if-eq.ensures)) first in
    let opened = opens c.args.to told c.edition.ensures (differ _ c.args.to (sym c.if-eq.ensures)) in
    let kept = c.in_ok-check_bodies.ensures ∙ second_losses at_hand is_second in
    rw (told.1, check_rest c.args.to _ told.0 opened, first, ← kept)
