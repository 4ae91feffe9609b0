-- The cuts that the search answers. No promise of an entry for users mentions them.
use Rattle.std.specs.Prelude.{ℕ, ◌≡◌, List, Some, None, take}
use Rattle.std.specs.Prelude as code
use Rattle.std.proofs.Math.Option.{Option, none}
use Rattle.level_map.specs.declared.cuts.Cuts.{Cuts}
use Rattle.level_map.specs.Cuts.{levels_of_cuts, CutsOf}

-- The starts of the groups, least urgent group first.
abbrev pub starts_in : Cuts → List ℕ
starts_in c = take c.used c.starts

-- The levels of the groups, one per entry.
abbrev pub levels_in : Cuts → List ℕ
levels_in c = levels_of_cuts (starts_in c) c.count

-- The answer of the search: the cuts of the map, or that there is no map.
abbrev pub CutAnswer : Option (List ℕ) → ℕ → ℕ → code.Option Cuts → Type 0
CutAnswer found n most (Some c) = CutsOf found n most (starts_in c) × (c.count ≡ n)
CutAnswer found n most None = found ≡ none
