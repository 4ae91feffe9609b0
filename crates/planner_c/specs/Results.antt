-- The code's own answers as they are passed to C. A reader need not believe this: no function that C calls uses it.
use Rattle.std.specs.Prelude.{ℕ, List, [], ◌∷◌, Result, Ok, Err}
use Rattle.refusals.specs.declared.Refusal.{Refusal}
use Rattle.refusals.specs.Refusals.{numbered}
use Rattle.completion.specs.declared.Timing.{Timing}
use Rattle.completion.specs.declared.Timing.TheVariants.{OnTime, Late}
use Rattle.plan_file.specs.declared.ReadPlan.{ReadPlan}
use Rattle.plan_file.specs.Editions.{edition_number}
use Rattle.planner_c.specs.Returned.{Returned, returned, back}

-- The results are the three values of an accepted call.
abbrev pub answered_by : {A : Type 0} → (A → List ℕ) → Result A Refusal → Returned
answered_by results (Ok x) = returned 0 (results x)
answered_by results (Err r) = back (numbered r)

-- Those of a check.
abbrev pub no_results : Unit {0} → List ℕ
no_results done = 0 ∷ 0 ∷ 0 ∷ []

-- Those of a call that gives a number.
abbrev pub number_results : ℕ → List ℕ
number_results n = n ∷ 0 ∷ 0 ∷ []

-- Those of the reader.
abbrev pub plan_results : ReadPlan → List ℕ
plan_results p = p.rows ∷ p.entries ∷ edition_number p.edition ∷ []

-- Those of timing.
abbrev pub timing_results : Timing → List ℕ
timing_results (OnTime time rounds) = time ∷ rounds ∷ 0 ∷ []
timing_results (Late rounds overrun) = 0 ∷ rounds ∷ overrun ∷ []
