-- Laws of tests: what follows from true, and what from false.
use mathlib.Core.Path.{◌≡◌, refl}
use mathlib.Core.Bool.{Bool, true, false, ◌&&◌, false≢true}
use mathlib.Core.Logic.{◌⊎◌, inl, inr, ⊎_elim}

pub and_true : (a b : Bool) → a && b ≡ true → (a ≡ true) × (b ≡ true)
and_true true b p = (refl, p)
and_true false b p = absurd (false≢true p)

pub true_or_false : (b : Bool) → (b ≡ true) ⊎ (b ≡ false)
true_or_false true = inl refl
true_or_false false = inr refl

-- a test that says true where a fact holds, and holds where the test says true, says false where the fact does not
pub decided : {A : Type 0} (b : Bool) → (b ≡ true → A) → (A → ⊥) → b ≡ false
decided b f n = ⊎_elim (λ p. absurd (n (f p))) (λ p. p) (true_or_false b)
