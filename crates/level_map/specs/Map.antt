-- The map: the choice among all maps of a node (docs/SPEC.md, 'The map').
use Rattle.std.specs.Prelude.{ℕ, zero, suc, ◌-◌, ◌≤◌, ◌<◌, ◌≡◌, ◌⊎◌, Bool, true, false, List, [], ◌∷◌, ◌++◌, map, length, replicate}
use Rattle.std.proofs.Math.Option.{Option, none, some}
use Rattle.task_model.specs.declared.Entry.{Entry}
use Rattle.completion.specs.Test.{completion_test, is_on_time}
use Rattle.level_map.specs.Assignments.{level_of, EntryTest, size_of, levels_used}

-- A map of n entries: one level per entry. Along the list, levels begin at 1, never fall, and have no gap.
pub record IsMap (n : ℕ) (m : List ℕ) : Type 0 where
  pub each : length m ≡ n
  pub begins : 0 < n → level_of m 0 ≡ 1
  pub rising : (i : ℕ) → suc i < n → level_of m i ≤ level_of m (suc i)
  pub gapless : (i : ℕ) → suc i < n → level_of m (suc i) ≤ suc (level_of m i)

-- The map m is preferred to a map a with the same number of levels. Compare their groups from the least urgent one upward:
-- at the first difference in size, the group of m is longer.
abbrev pub Longer : List ℕ → List ℕ → Type 0
Longer a m = (l : ℕ) × (size_of l a < size_of l m) × ((j : ℕ) → l < j → size_of j a ≡ size_of j m)

-- The choice among the passing maps with at most `most` levels: one with the fewest levels. If several have as few, the one
-- with the longest least urgent group; then with the longest group on the next more urgent level, and so on.
pub record Chosen (Passes : List ℕ → Type 0) (most n : ℕ) (m : List ℕ) : Type 0 where
  pub is_map : IsMap n m
  pub passes : Passes m
  pub within : levels_used m ≤ most
  pub fewest : (a : List ℕ) → IsMap n a → Passes a → levels_used a ≤ most → levels_used m ≤ levels_used a
  pub longest : (a : List ℕ) → IsMap n a → Passes a → levels_used a ≡ levels_used m → (a ≡ m) ⊎ Longer a m

-- From here on, the same choice as a computation.

-- f s ++ f (s - 1) ++ .. ++ f 1, for group sizes from the longest down.
unfoldable pub from_longest : ℕ → (ℕ → List (List ℕ)) → List (List ℕ)
from_longest zero f = []
from_longest (suc s) f = f (suc s) ++ from_longest s f

-- All maps of n entries with c levels, in order of preference: first those with the longest least urgent group. The
-- remaining entries are mapped to the more urgent levels, again in order of preference.
unfoldable pub maps_with : ℕ → ℕ → List (List ℕ)
maps_with zero zero = [] ∷ []
maps_with zero (suc n) = []
maps_with (suc c) n = from_longest n (λ s. map (λ m. m ++ replicate s (suc c)) (maps_with c (n - s)))

-- All maps of n entries with at most `most` levels, in order of preference: fewest levels first.
unfoldable pub maps : ℕ → ℕ → List (List ℕ)
maps zero n = maps_with zero n
maps (suc most) n = maps most n ++ maps_with (suc most) n

-- The first map of a list that passes.
unfoldable pub first_of : (List ℕ → Bool) → List (List ℕ) → Option (List ℕ)
first_of passes [] = none
first_of passes (m ∷ ms) = elim (passes m) [ true ↦ some m | false ↦ first_of passes ms ]

-- No entry before position n is late under a test.
unfoldable pub none_late_to : EntryTest → List Entry → List ℕ → ℕ → Bool
none_late_to test es a zero = true
none_late_to test es a (suc n) = elim (none_late_to test es a n) [
  | true ↦ is_on_time (test es (level_of a) n)
  | false ↦ false
]

-- A map passes if no entry is late.
unfoldable pub pass_test : EntryTest → List Entry → List ℕ → Bool
pass_test test es a = none_late_to test es a (length es)

-- The map of a node under a test, or none if no map passes.
unfoldable pub map_under : EntryTest → List Entry → ℕ → Option (List ℕ)
map_under test es most = first_of (pass_test test es) (maps most (length es))

-- The map of a node: that under the completion time test.
abbrev pub the_map : List Entry → ℕ → Option (List ℕ)
the_map es most = map_under completion_test es most
