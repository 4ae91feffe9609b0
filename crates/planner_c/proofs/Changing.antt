-- What a change of a session that is lent as words returns to C, and which words it leaves.
use Prim.Native.Nat.{ℕ}
use mathlib.Core.Path.{◌≡◌, ◌∙◌, ap}
use mathlib.Core.List.{List}
use Rattle.std.specs.Prelude.{Result}
use Rattle.refusals.specs.declared.Refusal.{Refusal}
use Rattle.refusals.specs.Refusals.{outcome}
use Rattle.session.specs.Operations.{Operation}
use Rattle.session.specs.InWords.{FollowsIn}
use Rattle.planner_c.specs.Returned.{Returned, checked}
use Rattle.planner_c.specs.Changes.{Changes}

pub changes : (o : Operation) (w : List ℕ) {a : Result Unit Refusal} {r : Returned} {after : List ℕ}
    → FollowsIn o w a after → r ≡ checked (outcome a) → Changes o w r after
changes o w h answered = record { answer = answered ∙ ap checked h.answer; words = h.words }
