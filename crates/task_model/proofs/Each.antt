-- Laws of entries that are checked one by one, where the check of an entry accepts exactly what P says of its position and it.
use Prim.Native.Nat.{ℕ, zero, suc, ◌+◌, ◌<◌}
use mathlib.Core.Path.{◌≡◌, ◌∙◌, refl, sym}
use mathlib.Core.Logic.{⊎_elim, ◌↔◌}
use mathlib.Core.List.{List, [], ◌∷◌}
use native.Mathlib.Omega.{arith}
use lib.ListN.{length}
use Rattle.refusals.specs.Refusals.{Numbered, Outcome, accepted, refused}
use Rattle.refusals.proofs.Outcomes.{either, not_both}
use Rattle.task_model.specs.declared.Entry.{Entry}
use Rattle.task_model.specs.Limits.{entry_at}
use Rattle.task_model.specs.Checks.{entries_by}
use Rattle.task_model.proofs.Laws.{entries_next, entries_stop}

-- what holds of the first entry, and of those after it
hold_cons : (P : ℕ → Entry → Type 0) (p : ℕ) (e : Entry) (es : List Entry) (n : ℕ) → P p e
    → ((i : ℕ) → i < n → P (suc p + i) (entry_at es i)) → (i : ℕ) → i < suc n → P (p + i) (entry_at (e ∷ es) i)
hold_cons P p e es n h f zero l = let z : p + 0 ≡ p = omega arith in rw z h
hold_cons P p e es n h f (suc i) l = let z : p + suc i ≡ suc p + i = omega arith in rw z (f i (omega arith))

module _ (check : ℕ → Entry → Outcome) (P : ℕ → Entry → Type 0) (one : (p : ℕ) (e : Entry) → check p e ≡ accepted ↔ P p e) where
  all_of : (p : ℕ) (es : List Entry) → entries_by check p es ≡ accepted → (j : ℕ) → j < length es → P (p + j) (entry_at es j)
  all_of p [] a = λ j h. absurd (omega arith)
  all_of p (e ∷ es) a =
      ⊎_elim
      (λ q. hold_cons P p e es (length es) ((one p e).0 q) (all_of (suc p) es (sym (entries_next check p e es q) ∙ a)))
      (λ q. absurd (not_both a (entries_stop check p e es q.0 q.1)))
      (either (check p e))

  to_all : (p : ℕ) (es : List Entry) → ((j : ℕ) → j < length es → P (p + j) (entry_at es j)) → entries_by check p es ≡ accepted
  unfolding entries_by
  to_all p [] h = refl
  to_all p (e ∷ es) h =
      let z : p + 0 ≡ p = omega arith in
      entries_next check p e es ((one p e).1 (rw z at (h 0 (omega arith))))
      ∙ to_all (suc p) es (λ j l. let y : p + suc j ≡ suc p + j = omega arith in rw y at (h (suc j) (omega arith)))

  pub each_from : (p : ℕ) (es : List Entry) → entries_by check p es ≡ accepted ↔ ((j : ℕ) → j < length es → P (p + j) (entry_at es j))
  each_from p es = (all_of p es, to_all p es)

  pub each_accepted : (es : List Entry) → entries_by check 0 es ≡ accepted ↔ ((j : ℕ) → j < length es → P j (entry_at es j))
  each_accepted es = (
    λ a j h. let z : 0 + j ≡ j = omega arith in rw z at (all_of 0 es a j h),
    λ f. to_all 0 es (λ j h. let z : 0 + j ≡ j = omega arith in rw z (f j h)),
  )

  first_of : (p : ℕ) (es : List Entry) (r : Numbered) → entries_by check p es ≡ refused r
      → (j : ℕ) × (j < length es) × ((i : ℕ) → i < j → P (p + i) (entry_at es i)) × (check (p + j) (entry_at es j) ≡ refused r)
  unfolding entries_by
  first_of p [] r a = absurd (not_both refl a)
  first_of p (e ∷ es) r a =
      ⊎_elim
      (λ q.
      let t = first_of (suc p) es r (sym (entries_next check p e es q) ∙ a) in (
        suc t.0,
        omega arith,
        hold_cons P p e es t.0 ((one p e).0 q) t.2,
        let n : p + suc t.0 ≡ suc p + t.0 = omega arith in rw n t.3,
      ))
      (λ q. (
        0,
        omega arith,
        (λ i h. absurd (omega arith)),
        let n : p + 0 ≡ p = omega arith in rw n (q.1 ∙ sym (entries_stop check p e es q.0 q.1) ∙ a),
      ))
      (either (check p e))

  pub each_refused : (es : List Entry) (r : Numbered) → entries_by check 0 es ≡ refused r
      → (j : ℕ) × (j < length es) × ((i : ℕ) → i < j → P i (entry_at es i)) × (check j (entry_at es j) ≡ refused r)
  each_refused es r a =
      let t = first_of 0 es r a in
      let n : 0 + t.0 ≡ t.0 = omega arith in
      (t.0, t.1, (λ i h. let z : 0 + i ≡ i = omega arith in rw z at (t.2 i h)), (rw n at t.3))
