-- The writer's answer for each number of an edition.
use Prim.Native.Nat.{ℕ}
use mathlib.Core.Path.{◌≡◌, ◌∙◌, refl, sym}
use mathlib.Core.Bool.{Bool, true, false}
use mathlib.Core.List.{List}
use lib.ListN.{length}
use Rattle.std.specs.Prelude.{Result, Ok, Err}
use Rattle.refusals.specs.declared.Refusal.{Refusal}
use Rattle.refusals.specs.Answers.{Answer, answered, left}
use Rattle.plan_file.specs.declared.Edition.{Edition}
use Rattle.plan_file.specs.Editions.{is_edition, edition_for, EditionOf}
use Rattle.plan_file.specs.Plan.{plan_of}
use Rattle.plan_file.specs.Encoding.{encoding}
use Rattle.plan_file.specs.RoundTrips.{ReadAgain}
use Rattle.plan_file.specs.Answers.{WriteCall}
use Rattle.planner_c.specs.Writing.{write_for}

-- one of two answers
is_given : (b : Bool) (x e : Edition) (r : Refusal) → ◌≡◌ {A = Result Edition Refusal} (Ok e) (elim b [ true ↦ Ok x | false ↦ Err r ]) → (b ≡ true) × (e ≡ x)
is_given true x e r p = (refl, cc)
is_given false x e r p = absurd cc

is_refused : (b : Bool) (x : Edition) (q r : Refusal) → ◌≡◌ {A = Result Edition Refusal} (Err q) (elim b [ true ↦ Ok x | false ↦ Err r ]) → (b ≡ false) × (q ≡ r)
is_refused true x q r p = absurd cc
is_refused false x q r p = (refl, cc)

-- What the writer promises of the edition with a number, and what is promised where there is none.
module _ (number : ℕ) (rows words file : List ℕ) where
  abbrev pub Promise : Answer ℕ → List ℕ → Type 0
  Promise a after =
      (a ≡ write_for number rows words (length file))
      × (after ≡ left a (encoding (edition_for number) (plan_of rows words)) file)
      × ReadAgain (edition_for number) rows words a after

  pub promise_written : {e : Edition} → EditionOf number (Ok e) → {a : Answer ℕ} {after : List ℕ}
      → WriteCall e rows words file a after → ReadAgain e rows words a after → Promise a after
  unfolding write_for
  promise_written p w r =
      let b = is_given (is_edition number) _ _ _ p in
      let v = rw b.1 at w in
      (v.answer ∙ sym (rw (b.0, write_for)), v.file_there, rw b.1 at r)

  pub promise_refused : {q : Refusal} → EditionOf number (Err q) → (a : Result ℕ Refusal) → a ≡ Err q → Promise (answered a) file
  unfolding write_for
  promise_refused p a e =
      let b = is_refused (is_edition number) _ _ _ p in
      rw (e, b.1) (sym (rw (b.0, write_for)), refl, tt)
