-- Laws of the numbers of entries: where a number occurs, and what their check says.
use Prim.Native.Nat.{ℕ, zero, suc, ◌+◌, ◌≤◌, ◌<◌}
use mathlib.Core.Path.{◌≡◌, ◌∙◌, refl, sym, ap}
use mathlib.Core.Bool.{Bool, true, false, ◌||◌, true≢false}
use mathlib.Core.Logic.{⊎_elim, ◌↔◌}
use mathlib.Core.List.{List, [], ◌∷◌, ◌++◌}
use native.Mathlib.Omega.{arith}
use lib.ListN.{length, take}
use lib.Seq.{get_or-take, length-take-le}
use lib.Dec.{eqb, ltb}
use borrow.Author.Tests.{eqb-true, eq-eqb, ltb-true, ltb-false}
use Rattle.refusals.specs.Refusals.{Numbered, at, accepted, refused}
use Rattle.refusals.proofs.Outcomes.{either, not_both}
use Rattle.task_model.specs.declared.Entry.{Entry}
use Rattle.task_model.specs.Limits.{no_entry, entry_at, Repeats, NumbersDiffer, FirstRepeat}
use Rattle.task_model.specs.Checks.{has_number, number_check, numbers_check}
use Rattle.task_model.proofs.Tests.{true_or_false, decided}
use Rattle.task_model.proofs.Each.{each_accepted, each_refused}

or_false : (a b : Bool) → a ≡ false → a || b ≡ b
or_false a b p = rw p

or_assoc : (a b c : Bool) → (a || b) || c ≡ a || (b || c)
or_assoc true b c = refl
or_assoc false b c = refl

-- a number that a list has is that of one of its entries
pub number_there : (n : ℕ) (es : List Entry) → has_number n es ≡ true → (i : ℕ) × (i < length es) × ((entry_at es i).number ≡ n)
unfolding has_number
number_there n [] p = absurd (true≢false (sym p))
number_there n (e ∷ es) p =
    ⊎_elim
    (λ q. (0, omega arith, eqb-true _ _ q))
    (λ q. let t = number_there n es (sym (or_false (eqb e.number n) _ q) ∙ p) in (suc t.0, omega arith, t.2))
    (true_or_false (eqb e.number n))

pub has_number_lem : (n : ℕ) (es : List Entry) (i : ℕ) → i < length es → (entry_at es i).number ≡ n → has_number n es ≡ true
unfolding has_number
has_number_lem n [] i h p = absurd (omega arith)
has_number_lem n (e ∷ es) zero h p = rw (eq-eqb e.number n p)
has_number_lem n (e ∷ es) (suc i) h p =
    ⊎_elim
    (λ q. rw q)
    (λ q. or_false _ _ q ∙ has_number_lem n es i (omega arith) p)
    (true_or_false (eqb e.number n))

-- and one that it does not have is that of none
pub number_none : (n : ℕ) (es : List Entry) → ((i : ℕ) → i < length es → (entry_at es i).number ≡ n → ⊥) → has_number n es ≡ false
number_none n es none = decided (has_number n es) (number_there n es) (λ t. none t.0 t.1 t.2)

pub none_there : (n : ℕ) (es : List Entry) → has_number n es ≡ false → (i : ℕ) → i < length es → (entry_at es i).number ≡ n → ⊥
none_there n es p i h q = true≢false (sym (has_number_lem n es i h q) ∙ p)

-- two lists
pub number_append : (n : ℕ) (xs ys : List Entry) → has_number n (xs ++ ys) ≡ has_number n xs || has_number n ys
unfolding has_number
number_append n [] ys = refl
number_append n (x ∷ xs) ys =
    ap (λ b. eqb x.number n || b) (number_append n xs ys) ∙ sym (or_assoc (eqb x.number n) (has_number n xs) (has_number n ys))

-- an entry repeats a number exactly if the entries before it have the number
module _ (es : List Entry) (j : ℕ) (h : j < length es) where
  before_length : length (take j es) ≡ j
  before_length = length-take-le j es (omega arith)

  pub repeats_has : Repeats es j → has_number (entry_at es j).number (take j es) ≡ true
  repeats_has t =
      has_number_lem _ (take j es) t.0 (omega (arith, before_length, t.1))
      (ap (λ (e : Entry). e.number) (get_or-take j es t.0 no_entry t.1) ∙ t.2)

  pub has_repeats : has_number (entry_at es j).number (take j es) ≡ true → Repeats es j
  has_repeats p =
      let t = number_there _ (take j es) p in
      let l : t.0 < j = omega (arith, before_length, t.1) in
      (t.0, l, ap (λ (e : Entry). e.number) (sym (get_or-take j es t.0 no_entry l)) ∙ t.2)

-- the check of one number
module _ (es : List Entry) (row position : ℕ) (e : Entry) where
  pub number_new : has_number e.number (take position es) ≡ false → number_check es row position e ≡ accepted
  unfolding number_check
  number_new p = rw p

  pub number_again : has_number e.number (take position es) ≡ true → number_check es row position e ≡ refused (at 16 row position)
  unfolding number_check
  number_again p = rw p

  new_number : number_check es row position e ≡ accepted → has_number e.number (take position es) ≡ false
  new_number a =
      ⊎_elim (λ p. absurd (not_both a (number_again p))) (λ p. p) (true_or_false (has_number e.number (take position es)))

  number_exactly : number_check es row position e ≡ accepted ↔ (has_number e.number (take position es) ≡ false)
  number_exactly = (new_number, number_new)

-- of all numbers
module _ (row : ℕ) (es : List Entry) where
  abbrev New : ℕ → Entry → Type 0
  New position e = has_number e.number (take position es) ≡ false

  -- They are accepted exactly if all are different.
  pub numbers_accepted : numbers_check row es ≡ accepted ↔ NumbersDiffer es
  numbers_accepted =
      let i = each_accepted (number_check es row) New (number_exactly es row) es in (
        λ a j h t. true≢false (sym (repeats_has es j h t) ∙ i.0 a j h),
        λ d. i.1 (λ j h. decided _ (has_repeats es j h) (d j h)),
      )

  refused_first : (r : Numbered) → numbers_check row es ≡ refused r → (j : ℕ) × FirstRepeat es j × (r ≡ at 16 row j)
  refused_first r a =
      let t = each_refused (number_check es row) New (number_exactly es row) es r a in
      let j = t.0 in
      ⊎_elim
      (λ p. (
        j,
        record {
          inside = t.1;
          repeats = has_repeats es j t.1 p;
          first = λ k l s. true≢false (sym (repeats_has es k (omega (arith, t.1)) s) ∙ t.2 k l);
        },
        let q = sym t.3 ∙ number_again es row j (entry_at es j) p in cc,
      ))
      (λ p. absurd (not_both (number_new es row j (entry_at es j) p) t.3))
      (true_or_false (has_number (entry_at es j).number (take j es)))

  -- there is one first repeat
  same_first : (j k : ℕ) → FirstRepeat es j → FirstRepeat es k → j ≡ k
  same_first j k a b =
      ⊎_elim
      (λ l. absurd (b.first j (ltb-true j k l) a.repeats))
      (λ l.
      ⊎_elim
      (λ m. absurd (a.first k (ltb-true k j m) b.repeats))
      (λ m. omega (arith, ltb-false j k l, ltb-false k j m))
      (true_or_false (ltb k j)))
      (true_or_false (ltb j k))

  first_refused : (j : ℕ) → FirstRepeat es j → numbers_check row es ≡ refused (at 16 row j)
  first_refused j f =
      ⊎_elim
      (λ a. absurd (numbers_accepted.0 a j f.inside f.repeats))
      (λ q.
      let t = refused_first q.0 q.1 in
      q.1 ∙ ap refused (t.2 ∙ ap (at 16 row) (same_first t.0 j t.1 f)))
      (either (numbers_check row es))

  -- They are refused as 16 at a position exactly if it has the first repeat,
  pub numbers_repeat : (j : ℕ) → numbers_check row es ≡ refused (at 16 row j) ↔ FirstRepeat es j
  numbers_repeat j = (
    λ a.
        let t = refused_first (at 16 row j) a in
        let e : t.0 ≡ j = sym (ap (λ (n : Numbered). n.entry) t.2) in
        rw e at t.1,
    first_refused j,
  )

  -- and as nothing else.
  pub numbers_refused : (r : Numbered) → numbers_check row es ≡ refused r → (j : ℕ) × FirstRepeat es j × (r ≡ at 16 row j)
  numbers_refused = refused_first

-- A loop that looks for a number has come to a position, and no entry before has it.
abbrev pub NoneBefore : ℕ → List Entry → ℕ → Type 0
NoneBefore n es position = (i : ℕ) → i < position → (entry_at es i).number ≡ n → ⊥

module _ (n : ℕ) (es : List Entry) where
  pub none_first : NoneBefore n es 0
  none_first i h = absurd (omega arith)

  pub none_next : (position : ℕ) → NoneBefore n es position → ((entry_at es position).number ≡ n → ⊥) → NoneBefore n es (position + 1)
  none_next position none new i h e =
      ⊎_elim
      (λ l. none i (ltb-true i position l) e)
      (λ l. let z : i ≡ position = omega (arith, ltb-false i position l) in new (rw z at e))
      (true_or_false (ltb i position))

  pub none_end : (position : ℕ) → NoneBefore n es position → length es ≤ position → false ≡ has_number n es
  none_end position none h = sym (number_none n es (λ i l. none i (omega arith)))

-- A loop over the numbers of entries has come to a position, and none before repeats.
abbrev pub NoRepeat : List Entry → ℕ → Type 0
NoRepeat es position = (j : ℕ) → j < position → Repeats es j → ⊥

module _ (es : List Entry) (position : ℕ) (passed : NoRepeat es position) where
  pub repeat_next : position < length es → has_number (entry_at es position).number (take position es) ≡ false → NoRepeat es (position + 1)
  repeat_next h new j l t =
      ⊎_elim
      (λ k. passed j (ltb-true j position k) t)
      (λ k.
      let z : j ≡ position = omega (arith, ltb-false j position k) in
      true≢false (sym (repeats_has es position h (rw z at t)) ∙ new))
      (true_or_false (ltb j position))

  pub repeat_stop : (row : ℕ) → position < length es → has_number (entry_at es position).number (take position es) ≡ true
      → refused (at 16 row position) ≡ numbers_check row es
  repeat_stop row h again =
      sym ((numbers_repeat row es position).1 (record { inside = h; repeats = has_repeats es position h again; first = passed }))

  pub repeat_end : (row : ℕ) → length es ≤ position → accepted ≡ numbers_check row es
  repeat_end row h = sym ((numbers_accepted row es).1 (λ j l. passed j (omega arith)))
