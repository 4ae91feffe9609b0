-- The table of refusals (docs/SPEC.md, 'Refusals'): what a user sees of each.
use Rattle.std.specs.Prelude.{ℕ, Bool, true, false, Result, Ok, Err}
use Rattle.refusals.specs.declared.Refusal.{Refusal}
use Rattle.refusals.specs.declared.Refusal.TheVariants.{
  ShortFile,
  OpeningBytes,
  NodeCount,
  Row,
  Offset,
  FileLength,
  Kind,
  Times,
  NoSuchNode,
  ShortBuffer,
  NoMap,
  OutsideList,
  FullList,
  Jitter,
  JitterLost,
  Repeat,
}
use Rattle.refusals.specs.declared.Numbers.{Numbers}

-- A refused call answers a number of the table, with a row and an entry position, both from 0.
pub record Numbered : Type 0 where
  pub number : ℕ
  pub row : ℕ
  pub entry : ℕ

-- The refusal with number n, at a row and an entry position.
abbrev pub at : ℕ → ℕ → ℕ → Numbered
at n row entry = record { number = n; row = row; entry = entry }

-- The number and the places of each refusal. A place that the table does not name is 0.
abbrev pub numbered : Refusal → Numbered
numbered ShortFile = at 1 0 0
numbered OpeningBytes = at 2 0 0
numbered NodeCount = at 3 0 0
numbered (Row row) = at 4 row 0
numbered (Offset row) = at 5 row 0
numbered FileLength = at 6 0 0
numbered (Kind row position) = at 7 row position
numbered (Times row position) = at 8 row position
numbered NoSuchNode = at 9 0 0
numbered ShortBuffer = at 10 0 0
numbered NoMap = at 11 0 0
numbered OutsideList = at 12 0 0
numbered FullList = at 13 0 0
numbered (Jitter row position) = at 14 row position
numbered (JitterLost row position) = at 15 row position
numbered (Repeat row position) = at 16 row position

-- The same, from the struct that the code returns.
abbrev pub numbers_in : Numbers → Numbered
numbers_in n = at n.number n.row n.entry

-- What a check finds: nothing to refuse, or the first refusal that is met.
pub data Outcome : Type 0 where
  accepted : Outcome
  refused : Numbered → Outcome

-- What the code's answer to a check says.
abbrev pub outcome : Result Unit Refusal → Outcome
outcome (Ok done) = accepted
outcome (Err r) = refused (numbered r)

infixr 20 ◌and_then◌
-- One check after another: the first refusal that is met.
abbrev pub ◌and_then◌ : Outcome → Outcome → Outcome
refused r and_then next = refused r
accepted and_then next = next

-- A check of one fact: refused as r if the fact does not hold.
abbrev pub must_hold : Bool → Numbered → Outcome
must_hold true r = accepted
must_hold false r = refused r
