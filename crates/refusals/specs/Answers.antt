-- What a call answers, and what it leaves in a lent buffer.
use Rattle.std.specs.Prelude.{ℕ, List, ◌++◌, length, drop, Result, Ok, Err}
use Rattle.refusals.specs.declared.Refusal.{Refusal}
use Rattle.refusals.specs.Refusals.{Numbered, Outcome, accepted, refused, numbered}

-- An answer: the result, or the refusal's number, row and entry position.
pub data Answer (A : Type 0) : Type 0 where
  gives : A → Answer A
  refuses : Numbered → Answer A

-- What the code's answer says: its result, as `f` sees it, or the refusal with its number and places.
abbrev pub answer_by : {A B : Type 0} → (A → B) → Result A Refusal → Answer B
answer_by f (Ok a) = gives (f a)
answer_by f (Err r) = refuses (numbered r)

-- What it says where the result is a number: this is `answer_by` of the number itself.
abbrev pub answered : Result ℕ Refusal → Answer ℕ
answered (Ok n) = gives n
answered (Err r) = refuses (numbered r)

-- The answer of a call after its checks: the result `a` if they accept, and else the refusal.
abbrev pub giving : {A : Type 0} → Outcome → A → Answer A
giving accepted a = gives a
giving (refused r) a = refuses r

-- A lent buffer as a call leaves it. A call that gives a result writes `new` from the start and keeps what lies beyond; a
-- refused call leaves the buffer untouched.
abbrev pub left : {A : Type 0} → Answer A → List ℕ → List ℕ → List ℕ
left (gives a) new old = new ++ drop (length new) old
left (refuses r) new old = old
