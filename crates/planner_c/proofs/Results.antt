-- What is returned of the code's own answers is what the contracts say of them.
use mathlib.Core.Path.{◌≡◌, refl}
use Prim.Native.Nat.{ℕ}
use Rattle.std.specs.Prelude.{Result, Ok, Err}
use Rattle.refusals.specs.declared.Refusal.{Refusal}
use Rattle.refusals.specs.Refusals.{outcome}
use Rattle.refusals.specs.Answers.{answer_by, answered}
use Rattle.completion.specs.declared.Timing.{Timing}
use Rattle.completion.specs.declared.Timing.TheVariants.{OnTime, Late}
use Rattle.completion.specs.Test.{completion}
use Rattle.plan_file.specs.declared.ReadPlan.{ReadPlan}
use Rattle.plan_file.specs.Answers.{itself}
use Rattle.planner_c.specs.Returned.{checked, sized, sized_plan, timed}
use Rattle.planner_c.specs.Results.{answered_by, no_results, number_results, plan_results, timing_results}

pub of_check : (a : Result Unit Refusal) → answered_by no_results a ≡ checked (outcome a)
of_check (Ok done) = refl
of_check (Err r) = refl

pub of_number : (a : Result ℕ Refusal) → answered_by number_results a ≡ sized (answered a)
of_number (Ok n) = refl
of_number (Err r) = refl

pub of_plan : (a : Result ReadPlan Refusal) → answered_by plan_results a ≡ sized_plan (answer_by itself a)
of_plan (Ok p) = refl
of_plan (Err r) = refl

pub of_timing : (a : Result Timing Refusal) → answered_by timing_results a ≡ timed (answer_by completion a)
of_timing (Ok (OnTime time rounds)) = refl
of_timing (Ok (Late rounds overrun)) = refl
of_timing (Err r) = refl
