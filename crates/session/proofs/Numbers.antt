-- Laws of the numbers of entries in a list that is changed.
use Prim.Native.Nat.{ℕ, zero, suc, ◌+◌, ◌-◌, ◌<◌}
use mathlib.Core.Path.{◌≡◌, ◌∙◌, refl, sym, ap}
use mathlib.Core.Bool.{Bool, true, false, ◌||◌}
use mathlib.Core.Logic.{⊎_elim, ◌↔◌}
use mathlib.Core.List.{List, [], ◌∷◌}
use native.Mathlib.Omega.{arith}
use lib.ListN.{length, take, drop, length-take, length-drop}
use lib.Seq.{get_or-take, get_or-drop}
use lib.Dec.{ltb}
use borrow.Author.Tests.{ltb-true, ltb-false}
use Rattle.task_model.specs.declared.Entry.{Entry}
use Rattle.task_model.specs.Limits.{no_entry, entry_at, NumbersDiffer}
use Rattle.task_model.specs.Checks.{has_number}
use Rattle.task_model.proofs.Tests.{true_or_false, decided}
use Rattle.task_model.proofs.Numbers.{number_there, has_number_lem, number_none, none_there, number_append}
use Rattle.node_words.specs.Words.{entries_from, entries_of}
use Rattle.node_words.specs.Lists.{insert_at, remove_at, replace_at}
use Rattle.node_words.proofs.Words.{entries_take, entries_drop}
use Rattle.node_words.proofs.Lists.{each_of, of_each, each_inserted, each_removed}

-- the first number, and those of the rest
module _ (e : Entry) (es : List Entry) where
  differ_first : NumbersDiffer (e ∷ es) → has_number e.number es ≡ false
  differ_first d = number_none e.number es (λ i h q. d (suc i) (omega arith) (0, omega arith, sym q))

  differ_rest : NumbersDiffer (e ∷ es) → NumbersDiffer es
  differ_rest d j h t = d (suc j) (omega arith) (suc t.0, omega (arith, t.1), t.2)

  differ_cons : has_number e.number es ≡ false → NumbersDiffer es → NumbersDiffer (e ∷ es)
  differ_cons new d zero h (i, l, q) = absurd (omega arith)
  differ_cons new d (suc j) h (zero, l, q) = none_there e.number es new j (omega arith) (sym q)
  differ_cons new d (suc j) h (suc i, l, q) = d j (omega arith) (i, omega arith, q)

-- a number that a list does not have, the list without an entry does not have, and with another entry only if that one has it
module _ (n p : ℕ) (es : List Entry) (none : has_number n es ≡ false) where
  abbrev Other : Entry → Type 0
  Other e = e.number ≡ n → ⊥

  none_inserted : (e : Entry) → Other e → has_number n (insert_at p e es) ≡ false
  none_inserted e h =
      number_none n (insert_at p e es) (of_each Other (insert_at p e es) (each_inserted Other p e es h (each_of Other es (none_there n es none))))

  none_removed : has_number n (remove_at p es) ≡ false
  none_removed =
      number_none n (remove_at p es) (of_each Other (remove_at p es) (each_removed Other p es (each_of Other es (none_there n es none))))

-- Numbers that are all different stay so if an entry with a new number is inserted,
pub differ_inserted : (p : ℕ) (e : Entry) (es : List Entry) → NumbersDiffer es → has_number e.number es ≡ false
    → NumbersDiffer (insert_at p e es)
differ_inserted zero e es d new = differ_cons e es new d
differ_inserted (suc p) e [] d new = differ_cons e [] new d
differ_inserted (suc p) e (x ∷ es) d new =
    differ_cons x (insert_at p e es)
    (none_inserted x.number p es (differ_first x es d) e (λ q. none_there e.number (x ∷ es) new 0 (omega arith) (sym q)))
    (differ_inserted p e es (differ_rest x es d) (number_none e.number es (λ i h. none_there e.number (x ∷ es) new (suc i) (omega arith))))

-- if an entry is removed,
pub differ_removed : (p : ℕ) (es : List Entry) → NumbersDiffer es → NumbersDiffer (remove_at p es)
differ_removed zero [] d = d
differ_removed zero (x ∷ es) d = differ_rest x es d
differ_removed (suc p) [] d = d
differ_removed (suc p) (x ∷ es) d =
    differ_cons x (remove_at p es) (none_removed x.number p es (differ_first x es d)) (differ_removed p es (differ_rest x es d))

replace_insert : (p : ℕ) (e : Entry) (es : List Entry) → replace_at p e es ≡ insert_at p e (remove_at p es)
replace_insert zero e [] = refl
replace_insert zero e (x ∷ es) = refl
replace_insert (suc p) e [] = refl
replace_insert (suc p) e (x ∷ es) = ap (λ l. x ∷ l) (replace_insert p e es)

-- and if one is replaced by an entry whose number no other has.
pub differ_replaced : (p : ℕ) (e : Entry) (es : List Entry) → NumbersDiffer es → has_number e.number (remove_at p es) ≡ false
    → NumbersDiffer (replace_at p e es)
differ_replaced p e es d new = rw (replace_insert p e es) (differ_inserted p e (remove_at p es) (differ_removed p es d) new)

or_true : (a : Bool) → a || true ≡ true
or_true true = refl
or_true false = refl

-- the numbers of the entries at other positions
module _ (n p : ℕ) (es : List Entry) where
  -- An entry at another position than p has the number n.
  abbrev OtherHas : Type 0
  OtherHas = (i : ℕ) × (i < length es) × (i ≡ p → ⊥) × ((entry_at es i).number ≡ n)

  before : (i : ℕ) → i < p → (entry_at (take p es) i).number ≡ (entry_at es i).number
  before i l = ap (λ (e : Entry). e.number) (get_or-take p es i no_entry l)

  behind : (i : ℕ) → (entry_at (drop (suc p) es) i).number ≡ (entry_at es (suc p + i)).number
  behind i = ap (λ (e : Entry). e.number) (get_or-drop (suc p) es i no_entry)

  parts : has_number n (remove_at p es) ≡ has_number n (take p es) || has_number n (drop (suc p) es)
  parts = number_append n (take p es) (drop (suc p) es)

  other_of : has_number n (remove_at p es) ≡ true → OtherHas
  other_of a =
      ⊎_elim
      (λ q.
      let t = number_there n (take p es) q in
      let l : t.0 < p = omega (arith, length-take p es, t.1) in
      (t.0, omega (arith, length-take p es, t.1), (λ z. omega arith), sym (before t.0 l) ∙ t.2))
      (λ q.
      let t = number_there n (drop (suc p) es) (sym (parts ∙ ap (λ b. b || has_number n (drop (suc p) es)) q) ∙ a) in
      (suc p + t.0, omega (arith, length-drop (suc p) es, t.1), (λ z. omega arith), sym (behind t.0) ∙ t.2))
      (true_or_false (has_number n (take p es)))

  of_other : OtherHas → has_number n (remove_at p es) ≡ true
  of_other t =
      ⊎_elim
      (λ l.
      let k = ltb-true t.0 p l in
      parts
      ∙ ap (λ b. b || has_number n (drop (suc p) es))
      (has_number_lem n (take p es) t.0 (omega (arith, length-take p es, t.1)) (before t.0 k ∙ t.3)))
      (λ l.
      let g = ltb-false t.0 p l in
      let k : suc p + (t.0 - suc p) ≡ t.0 = omega (arith, t.2) in
      let b =
      has_number_lem n (drop (suc p) es) (t.0 - suc p) (omega (arith, length-drop (suc p) es, t.1)) (behind (t.0 - suc p) ∙ rw k t.3) in
      parts ∙ ap (λ b. has_number n (take p es) || b) b ∙ or_true (has_number n (take p es)))
      (true_or_false (ltb t.0 p))

  pub other_exactly : has_number n (remove_at p es) ≡ true ↔ OtherHas
  other_exactly = (other_of, of_other)

-- the number of an entry leaves a list of different numbers with that entry
pub number_leaves : (p : ℕ) (es : List Entry) → NumbersDiffer es → p < length es → has_number (entry_at es p).number (remove_at p es) ≡ false
number_leaves p es d h =
    decided _ (other_exactly (entry_at es p).number p es).0
    (λ t.
    ⊎_elim
    (λ l. d p h (t.0, ltb-true t.0 p l, t.3))
    (λ l. d t.0 t.1 (p, (let g = ltb-false t.0 p l in omega (arith, t.2)), sym t.3))
    (true_or_false (ltb t.0 p)))

-- entries that words hold: those before a position, and those behind it
module _ (ws : List ℕ) (count p n : ℕ) (h : p < count) where
  abbrev behind_has : Bool
  behind_has = has_number n (entries_from ws (p + 1) (count - 1 - p))

  words_parts : has_number n (remove_at p (entries_of ws count)) ≡ has_number n (entries_of ws p) || behind_has
  words_parts =
      let j : 0 + suc p ≡ p + 1 = omega arith in
      let m : count - suc p ≡ count - 1 - p = omega arith in
      number_append n (take p (entries_of ws count)) (drop (suc p) (entries_of ws count))
      ∙ rw (entries_take ws p 0 count (omega arith), entries_drop ws (suc p) 0 count (omega arith), j, m)

  -- so says what was found in the first part, if it is true, and else what was found in the second
  module _ {before : Bool} (e : before ≡ has_number n (entries_of ws p)) where
    pub found_before : before ≡ true → true ≡ has_number n (remove_at p (entries_of ws count))
    found_before q = sym (words_parts ∙ ap (λ b. b || behind_has) (sym e ∙ q))

    pub found_behind : before ≡ false → {behind : Bool} → behind ≡ behind_has → behind ≡ has_number n (remove_at p (entries_of ws count))
    found_behind q b = b ∙ sym (words_parts ∙ ap (λ b. b || behind_has) (sym e ∙ q))
