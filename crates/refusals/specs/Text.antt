-- A refusal as text.
use Rattle.std.specs.Prelude.{List, ℕ, ◌++◌, codes, decimal}
use Rattle.refusals.specs.Refusals.{Numbered}

-- refused 8 row 0 entry 1
abbrev pub refusal_text : Numbered → List ℕ
refusal_text r =
    codes "refused " ++ (decimal r.number ++ (codes " row " ++ (decimal r.row ++ (codes " entry " ++ decimal r.entry))))
