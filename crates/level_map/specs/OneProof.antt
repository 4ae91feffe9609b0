-- That cuts fall has at most one proof, so a struct may keep it.
use Rattle.std.specs.Prelude.{ℕ, List, [], ◌∷◌}
use Rattle.std.specs.Coded.{×_prop, le_prop, Coded-set, coded_ℕ}
use Rattle.level_map.specs.Cuts.{Falling}

pub Falling-prop : (s : List ℕ) (e : ℕ) → IsProp (Falling s e)
Falling-prop [] e = Coded-set coded_ℕ e 0
Falling-prop (a ∷ s) e = ×_prop le_prop (Falling-prop s a)
