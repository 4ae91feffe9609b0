-- The words that the program is called with ask for one direction only.
use Prim.Native.Nat.{ℕ}
use mathlib.Core.Path.{◌≡◌, ◌∙◌, refl, sym, ap}
use mathlib.Core.List.{List}
use native.Mathlib.Omega.{arith}
use lib.ListN.{length}
use Rattle.text.specs.Text.{text}
use Rattle.std.specs.Prelude.{Option, Some, None}
use Rattle.plan_file.specs.declared.Edition.{Edition}
use Rattle.plan_file.specs.declared.Edition.TheVariants.{First, Second}
use Rattle.carry_plan.specs.Direction.{Asks}

-- no word is both
not_both : (word : List ℕ) → word ≡ text "forward" → word ≡ text "back" → ⊥
not_both word p q = omega (arith, ap length (sym p ∙ q))

pub same_way : (a b : Option Edition) (count : ℕ) (word : List ℕ) → Asks a count word → Asks b count word → a ≡ b
same_way (Some Second) (Some Second) count word h g = refl
same_way (Some Second) (Some First) count word h g = absurd (not_both word h.1 g.1)
same_way (Some Second) None count word h g = absurd (g.0 h.0 h.1)
same_way (Some First) (Some Second) count word h g = absurd (not_both word g.1 h.1)
same_way (Some First) (Some First) count word h g = refl
same_way (Some First) None count word h g = absurd (g.1 h.0 h.1)
same_way None (Some Second) count word h g = absurd (h.0 g.0 g.1)
same_way None (Some First) count word h g = absurd (h.1 g.0 g.1)
same_way None None count word h g = refl
