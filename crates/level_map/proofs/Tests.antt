-- Laws of tests: by cases, and as facts about numbers that `omega` reads.
use Prim.Native.Nat.{ℕ, ◌+◌, ◌-◌, min}
use mathlib.Core.Path.{◌≡◌, refl}
use mathlib.Core.Bool.{Bool, true, false}
use native.Mathlib.Omega.{arith}
use lib.Dec.{ltb, eqb}
use borrow.Author.Tests.{ltb-true, ltb-false, eqb-true, eqb-false}
use Rattle.level_map.specs.Assignments.{one}

pub by-test {ℓ} : {C : Type ℓ} (t : Bool) → (t ≡ true → C) → (t ≡ false → C) → C
by-test true f g = f refl
by-test false f g = g refl

pub one_lt : (x l : ℕ) → one (ltb x l) ≡ min 1 (l - x)
one_lt x l =
    by-test (ltb x l)
    (λ q. let h = ltb-true x l q in rw q (omega arith))
    (λ q. let h = ltb-false x l q in rw q (omega arith))

pub one_eq : (x l : ℕ) → one (eqb x l) ≡ 1 - ((x - l) + (l - x))
one_eq x l =
    by-test (eqb x l)
    (λ q. let h = eqb-true x l q in rw q (omega arith))
    (λ q. let h = eqb-false x l q in rw q (omega arith))

pub one_some : (n : ℕ) → one (ltb 0 n) + one (eqb n 0) ≡ 1
one_some n = omega (arith, one_lt 0 n, one_eq n 0)
