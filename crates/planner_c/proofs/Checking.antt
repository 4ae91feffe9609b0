-- A check returns 0 exactly if it accepts.
use mathlib.Core.Path.{◌≡◌, ◌∙◌, refl, sym, ap}
use mathlib.Core.Logic.{◌↔◌}
use Rattle.std.specs.Prelude.{Result, Ok, Err}
use Rattle.refusals.specs.declared.Refusal.{Refusal}
use Rattle.refusals.specs.Refusals.{outcome, accepted}
use Rattle.refusals.proofs.Refusals.{number_some}
use Rattle.refusals.proofs.Outcomes.{not_both}
use Rattle.planner_c.specs.Returned.{Returned, given, checked}

-- 0 is returned, with zeros, exactly if the check accepts
pub zero_exactly : {A : Type 0} (d : Result Unit Refusal) (r : Returned) → r ≡ checked (outcome d) → (outcome d ≡ accepted ↔ A)
    → r ≡ given 0 0 0 ↔ A
zero_exactly (Ok done) r p h = (λ e. h.0 refl, λ a. p)
zero_exactly (Err q) r p h = (
  λ e. absurd (number_some q (ap (λ (x : Returned). x.number) (sym p ∙ e))),
  λ a. absurd (not_both (h.1 a) refl),
)
