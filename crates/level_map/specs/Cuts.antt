-- Where the search cuts a node into the groups of its map. No promise of an entry for users mentions it.
use Rattle.std.specs.Prelude.{ℕ, suc, ◌+◌, ◌-◌, ◌≤◌, ◌<◌, ◌≡◌, List, [], ◌∷◌, ◌++◌, length, replicate, ltb}
use Rattle.std.proofs.Math.Option.{Option, some}
use Rattle.level_map.specs.Assignments.{one, levels_used}

-- How many entries have a level below `l`: those that are more urgent than its group.
abbrev pub before : ℕ → List ℕ → ℕ
before l [] = 0
before l (x ∷ xs) = one (ltb x l) + before l xs

-- The starts of groups, least urgent group first. The first group ends just before `end`. Every other group ends just
-- before the start that precedes its own in this list. The last group starts at 0.
abbrev pub Falling : List ℕ → ℕ → Type 0
Falling [] end = end ≡ 0
Falling (a ∷ s) end = (a < end) × Falling s a

-- The levels of these groups, one per entry.
abbrev pub levels_of_cuts : List ℕ → ℕ → List ℕ
levels_of_cuts [] end = []
levels_of_cuts (a ∷ s) end = levels_of_cuts s a ++ replicate (end - a) (suc (length s))

-- The map `found` of n entries has the groups that start at s. Its levels are those of the groups, one level per group, and
-- there are at most `most`.
pub record CutsOf (found : Option (List ℕ)) (n most : ℕ) (s : List ℕ) : Type 0 where
  pub levels : found ≡ some (levels_of_cuts s n)
  pub counted : levels_used (levels_of_cuts s n) ≡ length s
  pub within : length s ≤ most
  pub falling : Falling s n
