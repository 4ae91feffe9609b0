-- Laws of the loops over a list of entries, and of a test that holds exactly if a check accepts.
use Prim.Native.Nat.{ℕ, ◌+◌, ◌≤◌, ◌<◌}
use mathlib.Core.Path.{◌≡◌, ◌∙◌, refl, sym}
use mathlib.Core.Bool.{Bool, true, false, false≢true}
use mathlib.Core.Logic.{⊎_elim, ◌↔◌}
use mathlib.Core.List.{List}
use native.Mathlib.Omega.{arith}
use native.Mathlib.Numerals.{add-one}
use lib.ListN.{length, drop}
use Rattle.std.proofs.lemmas.List.{drop_all}
use lib.Dec.{ltb}
use borrow.Author.Tests.{ltb-true, ltb-false}
use Rattle.std.proofs.Common.{drop-cons}
use Rattle.refusals.specs.Refusals.{Outcome, accepted, refused, ◌and_then◌}
use Rattle.task_model.specs.declared.Entry.{Entry}
use Rattle.task_model.specs.Limits.{no_entry, entry_at}
use Rattle.task_model.specs.Checks.{entries_by, each_by, Passes, AllPass}
use Rattle.task_model.proofs.Each.{each_accepted}
use Rattle.task_model.proofs.Tests.{true_or_false}
use Rattle.task_model.proofs.Laws.{entries_next, entries_stop}

-- the entries from a position on, checked one by one
module _ (check : ℕ → Entry → Outcome) (es : List Entry) (j : ℕ) where
  pub each_here : j < length es → (o : Outcome) → check j (entry_at es j) ≡ o
      → entries_by check j (drop j es) ≡ o and_then entries_by check (j + 1) (drop (j + 1) es)
  each_here h accepted p = rw (drop-cons es j no_entry, add-one j) (entries_next check j (entry_at es j) _ p)
  each_here h (refused r) p = rw (drop-cons es j no_entry) (entries_stop check j (entry_at es j) _ r p)

  pub each_end : length es ≤ j → entries_by check j (drop j es) ≡ accepted
  unfolding entries_by
  each_end h = rw (drop_all j es h)

-- a test that answers whether a fact holds
pub says_no : {A : Type 0} → (A → ⊥) → (false ≡ true) ↔ A
says_no n = (λ p. absurd (false≢true p), λ a. absurd (n a))

pub says_yes : {A : Type 0} → A → (true ≡ true) ↔ A
says_yes a = (λ p. a, λ q. refl)

pub said_no : {A : Type 0} {b : Bool} → (b ≡ true) ↔ A → b ≡ false → A → ⊥
said_no i p a = false≢true (sym p ∙ i.1 a)

-- the entries that pass are accepted one by one
pub passing_accepted : (check : ℕ → ℕ → Entry → Outcome) (row : ℕ) (es : List Entry) → AllPass check es → each_by check row es ≡ accepted
passing_accepted check row es all =
    let one : (p : ℕ) (e : Entry) → check row p e ≡ accepted ↔ (check row p e ≡ accepted) = λ p e. ((λ a. a), (λ a. a)) in
    (each_accepted (check row) (λ p e. check row p e ≡ accepted) one es).1 (λ j h. all j h row j)

-- A loop over entries has come to a position, and those before pass.
abbrev pub Passing : (ℕ → ℕ → Entry → Outcome) → List Entry → ℕ → Type 0
Passing check es position = (j : ℕ) → j < position → Passes check (entry_at es j)

pub passing_next : (check : ℕ → ℕ → Entry → Outcome) (es : List Entry) (position : ℕ) → Passing check es position
    → Passes check (entry_at es position) → Passing check es (position + 1)
passing_next check es position before here j l =
    ⊎_elim
    (λ t. before j (ltb-true j position t))
    (λ t. let z : j ≡ position = omega (arith, ltb-false j position t) in rw z here)
    (true_or_false (ltb j position))
