-- Laws of marks: the number of each entry that was passed has one, at its remainder. So a number whose mark is not met is
-- new. What the marks held before does not matter.
use Prim.Native.Nat.{ℕ, ◌+◌, ◌%◌, ◌≤◌, ◌<◌}
use mathlib.Core.Path.{◌≡◌, ◌∙◌, sym, ap}
use mathlib.Core.Bool.{true, false}
use mathlib.Core.Logic.{⊎_elim}
use mathlib.Core.List.{List}
use native.Mathlib.Omega.{arith}
use lib.ListN.{length, take, set, get_or}
use lib.Seq.{get_or-take, get_or-set_same, get_or-set_other, length-take-le}
use lib.Dec.{eqb, ltb}
use borrow.Author.Tests.{eqb-true, eqb-false, ltb-true, ltb-false}
use Rattle.task_model.specs.declared.Entry.{Entry}
use Rattle.task_model.specs.Limits.{no_entry, entry_at}
use Rattle.refusals.specs.Refusals.{at, accepted, refused}
use Rattle.task_model.specs.Checks.{has_number, numbers_check}
use Rattle.task_model.proofs.Tests.{true_or_false}
use Rattle.task_model.proofs.Numbers.{number_none, NoRepeat, repeat_next, repeat_stop, repeat_end}

-- The numbers of the entries before a position have the mark, each at its remainder by `size`.
abbrev pub Marked : List Entry → ℕ → ℕ → List ℕ → ℕ → Type 0
Marked es size mark marks position = (i : ℕ) → i < position → get_or marks ((entry_at es i).number % size) 0 ≡ mark

module _ (es : List Entry) (size mark : ℕ) (marks : List ℕ) where
  pub marked_first : Marked es size mark marks 0
  marked_first i h = absurd (omega arith)

  module _ (position : ℕ) (marked : Marked es size mark marks position) where
    pub unmarked : position ≤ length es → (number : ℕ) → (get_or marks (number % size) 0 ≡ mark → ⊥)
        → has_number number (take position es) ≡ false
    unmarked h number n =
        number_none number (take position es)
        (λ i l e.
        let k : i < position = omega (arith, length-take-le position es h) in
        let f : (entry_at es i).number ≡ number = ap (λ (x : Entry). x.number) (sym (get_or-take position es i no_entry k)) ∙ e in
        n (rw f at (marked i k)))

    pub marked_next : (place : ℕ) → place ≡ (entry_at es position).number % size → place < length marks
        → Marked es size mark (set marks place mark) (position + 1)
    marked_next place e inside i h =
        let at = (entry_at es i).number % size in
        ⊎_elim
        (λ p. ap (λ k. get_or (set marks place mark) k 0) (eqb-true at place p) ∙ get_or-set_same marks place mark 0 inside)
        (λ p.
        ⊎_elim
        (λ l. get_or-set_other marks place at mark 0 (eqb-false at place p) ∙ marked i (ltb-true i position l))
        (λ l.
        let z : i ≡ position = omega (arith, ltb-false i position l) in
        absurd (eqb-false at place p (ap (λ k. (entry_at es k).number % size) z ∙ sym e)))
        (true_or_false (ltb i position)))
        (true_or_false (eqb at place))

-- A loop over the numbers of entries, with marks, has come to a position, and none before repeats.
pub record Passed (es : List Entry) (size mark : ℕ) (marks : List ℕ) (position : ℕ) : Type 0 where
  pub inside : position ≤ length es
  pub new : NoRepeat es position
  pub marked : Marked es size mark marks position

pub passed_first : (es : List Entry) (size mark : ℕ) (marks : List ℕ) → Passed es size mark marks 0
passed_first es size mark marks =
    record { inside = omega arith; new = λ j h. absurd (omega arith); marked = marked_first es size mark marks }

module _ (es : List Entry) (size mark : ℕ) (marks : List ℕ) (position : ℕ) (passed : Passed es size mark marks position) where
  -- a mark that is not met says that the number is new
  pub passed_unmet : (number : ℕ) → eqb (get_or marks (number % size) 0) mark ≡ false → has_number number (take position es) ≡ false
  passed_unmet number p = unmarked es size mark marks position passed.marked passed.inside number (eqb-false _ _ p)

  module _ (number : ℕ) (here : number ≡ (entry_at es position).number) (h : position < length es) where
    pub passed_next : number % size < length marks → has_number number (take position es) ≡ false
        → Passed es size mark (set marks (number % size) mark) (position + 1)
    passed_next place new =
        record {
          inside = omega arith;
          new = repeat_next es position passed.new h (rw (← here) new);
          marked = marked_next es size mark marks position passed.marked (number % size) (rw here) place;
        }

    pub passed_stop : (row : ℕ) → has_number number (take position es) ≡ true → refused (at 16 row position) ≡ numbers_check row es
    passed_stop row again = repeat_stop es position passed.new row h (rw (← here) again)

  pub passed_end : (row : ℕ) → length es ≤ position → accepted ≡ numbers_check row es
  passed_end row h = repeat_end es position passed.new row h
