-- How an answer is passed to C: a number that is returned, and three values that are written to a lent array. A value that
-- is not named is 0.
use Rattle.std.specs.Prelude.{ℕ, List, [], ◌∷◌}
use Rattle.refusals.specs.Refusals.{Numbered, Outcome, accepted, refused}
use Rattle.completion.specs.Test.{Completion, on_time, late}
use Rattle.plan_file.specs.Editions.{edition_number}
use Rattle.plan_file.specs.declared.ReadPlan.{ReadPlan}
use Rattle.refusals.specs.Answers.{Answer, gives, refuses}

-- The number that is returned, and the values as the call leaves them.
pub record Returned : Type 0 where
  pub number : ℕ
  pub values : List ℕ

-- A call that returns `number` and leaves `values`.
abbrev pub returned : ℕ → List ℕ → Returned
returned number values = record { number = number; values = values }

-- A refused call: the refusal's number, and the row and the entry position as values.
abbrev pub back : Numbered → Returned
back r = returned r.number (r.row ∷ r.entry ∷ 0 ∷ [])

-- An accepted call: number 0, and its results as values.
abbrev pub given : ℕ → ℕ → ℕ → Returned
given first second third = returned 0 (first ∷ second ∷ third ∷ [])

-- An accepted check has no results: all values are 0.
abbrev pub checked : Outcome → Returned
checked accepted = given 0 0 0
checked (refused r) = back r

-- The reader gives how many rows and how many entries it filled, and the edition.
abbrev pub sized_plan : Answer ReadPlan → Returned
sized_plan (gives s) = given s.rows s.entries (edition_number s.edition)
sized_plan (refuses r) = back r

-- The writer and the listing give a length. The mapper gives how many levels the map uses, and a session the completion time
-- of an entry under its map.
abbrev pub sized : Answer ℕ → Returned
sized (gives n) = given n 0 0
sized (refuses r) = back r

-- Timing gives the completion time, the rounds and the overrun. A late entry has time 0, and one on time has overrun 0.
abbrev pub given_time : Completion → Returned
given_time (on_time time rounds) = given time rounds 0
given_time (late rounds overrun) = given 0 rounds overrun

-- What timing an entry of a session returns.
abbrev pub timed : Answer Completion → Returned
timed (gives c) = given_time c
timed (refuses r) = back r
