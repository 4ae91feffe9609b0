-- Laws of checks in sequence, and of the answers after them.
use Prim.Native.Nat.{ℕ}
use mathlib.Core.Path.{◌≡◌, ◌∙◌, refl, ap}
use mathlib.Core.Bool.{Bool, true, false}
use mathlib.Core.Logic.{◌⊎◌, inl, inr}
use mathlib.Core.List.{List, ◌++◌}
use native.Mathlib.Omega.{arith}
use lib.ListN.{length, drop}
use Rattle.refusals.specs.Refusals.{Numbered, at, Outcome, accepted, refused, ◌and_then◌, must_hold}
use Rattle.refusals.specs.Answers.{gives, refuses, giving, left}

-- an answer is accepted or refused, and not both
pub either : (o : Outcome) → (o ≡ accepted) ⊎ ((r : Numbered) × (o ≡ refused r))
either accepted = inl refl
either (refused r) = inr (r, refl)

pub not_both : {o : Outcome} {r : Numbered} → o ≡ accepted → o ≡ refused r → ⊥
not_both p q = let z : ◌≡◌ {A = ℕ} 0 1 = cc in omega arith

pub then_refused : (a b : Outcome) (r : Numbered) → a ≡ refused r → a and_then b ≡ refused r
then_refused a b r p = rw p

pub then_accepted : (a b : Outcome) → a ≡ accepted → a and_then b ≡ b
then_accepted a b p = rw p

pub both_accepted : (a b : Outcome) → a and_then b ≡ accepted → (a ≡ accepted) × (b ≡ accepted)
both_accepted accepted b p = (refl, p)
both_accepted (refused r) b p = absurd (not_both p refl)

pub then_nothing : (o : Outcome) → o and_then accepted ≡ o
then_nothing accepted = refl
then_nothing (refused r) = refl

pub then_assoc : (a b c : Outcome) → (a and_then b) and_then c ≡ a and_then (b and_then c)
then_assoc accepted b c = refl
then_assoc (refused r) b c = refl

-- a number that a check never gives
abbrev pub Never : ℕ → Outcome → Type 0
Never n o = (r : Numbered) → o ≡ refused r → r.number ≡ n → ⊥

pub never_must : (n m : ℕ) (b : Bool) (row entry : ℕ) → (m ≡ n → ⊥) → Never n (must_hold b (at m row entry))
never_must n m true row entry h q p z = not_both refl p
never_must n m false row entry h q p z = let e : at m row entry ≡ q = cc in h (ap (λ (x : Numbered). x.number) e ∙ z)

pub never_then : (n : ℕ) (a b : Outcome) → Never n a → Never n b → Never n (a and_then b)
never_then n accepted b f g = g
never_then n (refused q) b f g = f

-- so it comes from what is checked afterwards, and all before is accepted
pub after_never : (n : ℕ) (a b : Outcome) (r : Numbered) → Never n a → r.number ≡ n → a and_then b ≡ refused r
    → (a ≡ accepted) × (b ≡ refused r)
after_never n accepted b r f z p = (refl, p)
after_never n (refused q) b r f z p = absurd (f r p z)

pub must_hold-accepts : (b : Bool) (r : Numbered) → b ≡ true → must_hold b r ≡ accepted
must_hold-accepts b r p = rw p

pub must_hold-refuses : (b : Bool) (r : Numbered) → b ≡ false → must_hold b r ≡ refused r
must_hold-refuses b r p = rw p

pub demanded : (b : Bool) (r : Numbered) → must_hold b r ≡ accepted → b ≡ true
demanded true r p = refl
demanded false r p = absurd (not_both p refl)

-- what an answer says of the checks before it
pub giving_refuses : {A : Type 0} (o : Outcome) (a : A) (r : Numbered) → refuses r ≡ giving o a → o ≡ refused r
giving_refuses accepted a r p = absurd (let z : ◌≡◌ {A = ℕ} 0 1 = cc in omega arith)
giving_refuses (refused s) a r p = cc

pub giving_gives : {A : Type 0} (o : Outcome) (a b : A) → gives b ≡ giving o a → (o ≡ accepted) × (b ≡ a)
giving_gives accepted a b p = (refl, cc)
giving_gives (refused s) a b p = absurd (let z : ◌≡◌ {A = ℕ} 0 1 = cc in omega arith)

-- two answers after the same checks are the same if the results are where the checks accept; and so is what they leave
pub giving_same : {A : Type 0} (o : Outcome) (a b : A) → (o ≡ accepted → a ≡ b) → giving o a ≡ giving o b
giving_same accepted a b h = ap gives (h refl)
giving_same (refused r) a b h = refl

pub left_same : {A : Type 0} (o : Outcome) (a : A) (k l old : List ℕ) → (o ≡ accepted → k ≡ l) → left (giving o a) k old ≡ left (giving o a) l old
left_same accepted a k l old h = ap (λ x. x ++ drop (length x) old) (h refl)
left_same (refused r) a k l old h = refl
