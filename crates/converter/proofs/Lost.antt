-- Laws of what would be lost in the first edition: the J of entries.
use Prim.Native.Nat.{ℕ, zero, suc, ◌<◌}
use mathlib.Core.Path.{◌≡◌, ◌∙◌, refl, sym}
use mathlib.Core.Logic.{◌↔◌, ⊎_elim}
use mathlib.Core.Bool.{true≢false}
use native.Mathlib.Omega.{arith}
use lib.Dec.{eqb}
use borrow.Author.Tests.{eqb-true, eq-eqb, ne_eqb}
use Rattle.refusals.specs.Refusals.{Numbered, at, accepted, refused}
use Rattle.refusals.proofs.Outcomes.{not_both, must_hold-accepts, must_hold-refuses, demanded}
use Rattle.task_model.specs.declared.Entry.{Entry}
use Rattle.task_model.proofs.Tests.{true_or_false}
use Rattle.plan_file.specs.declared.Edition.{Edition}
use Rattle.plan_file.specs.declared.Edition.TheVariants.{First, Second}
use Rattle.plan_file.specs.Limits.{EditionFits}
use Rattle.converter.specs.Conversion.{loss_check}

-- nothing of an entry is lost exactly if the edition has a place for it
pub kept_exactly : (to : Edition) (row p : ℕ) (e : Entry) → loss_check to row p e ≡ accepted ↔ EditionFits to e
unfolding loss_check
kept_exactly First row p e = (λ a. eqb-true _ _ (demanded _ _ a), λ z. must_hold-accepts _ _ (eq-eqb e.jitter 0 z))
kept_exactly Second row p e = (λ a. tt, λ z. refl)

pub lost : (row p : ℕ) (e : Entry) → 0 < e.jitter → loss_check First row p e ≡ refused (at 15 row p)
unfolding loss_check
lost row p e h = must_hold-refuses _ _ (ne_eqb e.jitter 0 (λ z. omega arith))

-- refusals that are the same have the same number and places
refused_same : {q r : Numbered} → refused q ≡ refused r → q ≡ r
refused_same e = cc

positive : (n : ℕ) → (n ≡ 0 → ⊥) → 0 < n
positive zero h = absurd (h refl)
positive (suc n) h = omega arith

-- a refused entry has a J above zero, and the refusal names its place
pub loss_place : (row p : ℕ) (e : Entry) (r : Numbered) → loss_check First row p e ≡ refused r → (0 < e.jitter) × (r ≡ at 15 row p)
unfolding loss_check
loss_place row p e r q =
    ⊎_elim
    (λ t. absurd (not_both (must_hold-accepts _ _ t) q))
    (λ t.
    let n : e.jitter ≡ 0 → ⊥ = λ z. true≢false (sym (eq-eqb e.jitter 0 z) ∙ t) in
    (positive e.jitter n, refused_same (sym q ∙ must_hold-refuses _ _ t)))
    (true_or_false (eqb e.jitter 0))
