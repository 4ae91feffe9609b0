-- The map, the answer for mapping and promise 3 depend on the test only by its verdicts: on time or late.
use Prim.Native.Nat.{ℕ, zero, suc}
use mathlib.Core.Path.{◌≡◌, ◌∙◌, refl, sym, ap, ap₂, fun_ext}
use mathlib.Core.Bool.{true, false}
use mathlib.Core.Logic.{◌↔◌, inl, inr, ⊎_elim}
use mathlib.Core.List.{List}
use lib.ListN.{length}
use Rattle.task_model.specs.declared.Entry.{Entry}
use Rattle.task_model.specs.Limits.{Node}
use Rattle.completion.specs.Test.{is_on_time}
use Rattle.refusals.specs.Answers.{Answer}
use Rattle.level_map.specs.Assignments.{level_of, EntryTest, NoneLateUnder, PassingUnder}
use Rattle.level_map.specs.Map.{Chosen, first_of, maps, none_late_to, pass_test, map_under}
use Rattle.level_map.specs.Answer.{levels_under, held_check_under, held_answer_under, MappingUnder, BestMapOrNoneUnder}

-- Two tests have the same verdicts on these entries, under all levels.
abbrev pub SameVerdicts : EntryTest → EntryTest → List Entry → Type 0
SameVerdicts s t es = (level : ℕ → ℕ) (i : ℕ) → is_on_time (s es level i) ≡ is_on_time (t es level i)

module _ (s t : EntryTest) (es : List Entry) (same : SameVerdicts s t es) where
  none_late_verdicts : (a : List ℕ) (n : ℕ) → none_late_to s es a n ≡ none_late_to t es a n
  unfolding none_late_to
  none_late_verdicts a zero = refl
  none_late_verdicts a (suc n) =
      ap₂ (λ earlier own. elim earlier [ true ↦ own | false ↦ false ]) (none_late_verdicts a n) (same (level_of a) n)

  pass_verdicts : (a : List ℕ) → pass_test s es a ≡ pass_test t es a
  unfolding pass_test
  pass_verdicts a = none_late_verdicts a (length es)

  pub map_verdicts : (most : ℕ) → map_under s es most ≡ map_under t es most
  unfolding map_under
  map_verdicts most = ap (λ passes. first_of passes (maps most (length es))) (fun_ext pass_verdicts)

  none_late_same : (a : List ℕ) → NoneLateUnder s es a → NoneLateUnder t es a
  none_late_same a h i l = sym (same (level_of a) i) ∙ h i l

  passing_same : (most : ℕ) (a : List ℕ) → PassingUnder s es most a → PassingUnder t es most a
  passing_same most a p = record { assignment = p.assignment; in_time = none_late_same a p.in_time }

-- So are the levels that are written, the checks and the answer.
module _ (s t : EntryTest) (n : Node) (same : SameVerdicts s t n.entries) where
  pub levels_verdicts : levels_under s n ≡ levels_under t n
  unfolding levels_under
  levels_verdicts = rw (map_verdicts s t n.entries same n.levels)

  pub held_check_verdicts : (room : ℕ) → held_check_under s n room ≡ held_check_under t n room
  unfolding held_check_under
  held_check_verdicts room = rw (map_verdicts s t n.entries same n.levels)

  pub held_answer_verdicts : (room : ℕ) → held_answer_under s n room ≡ held_answer_under t n room
  unfolding held_answer_under
  held_answer_verdicts room = rw (held_check_verdicts room, levels_verdicts)

-- the choice is the same among maps that pass by equivalent conditions
chosen_same : (P Q : List ℕ → Type 0) → ((a : List ℕ) → P a → Q a) → ((a : List ℕ) → Q a → P a) → (most n : ℕ) (m : List ℕ)
    → Chosen P most n m → Chosen Q most n m
chosen_same P Q to from most n m c =
    record {
      is_map = c.is_map;
      passes = to m c.passes;
      within = c.within;
      fewest = λ a is_map passes within. c.fewest a is_map (from a passes) within;
      longest = λ a is_map passes used. c.longest a is_map (from a passes) used;
    }

back : (s t : EntryTest) (es : List Entry) → SameVerdicts s t es → SameVerdicts t s es
back s t es same level i = sym (same level i)

module _ (s t : EntryTest) (es : List Entry) (same : SameVerdicts s t es) (most : ℕ) where
  mapping_same : (count : ℕ) (m : List ℕ) → MappingUnder s es most count m → MappingUnder t es most count m
  mapping_same count m h =
      record {
        passing = passing_same s t es same most m h.passing;
        chosen =
            chosen_same (NoneLateUnder s es) (NoneLateUnder t es) (none_late_same s t es same)
            (none_late_same t s es (back s t es same)) most (length es) m h.chosen;
        counted = h.counted;
        fewest = λ a p. h.fewest a (passing_same t s es (back s t es same) most a p);
      }

  best_same : (a : Answer ℕ) (m : List ℕ) → BestMapOrNoneUnder s es most a m → BestMapOrNoneUnder t es most a m
  best_same a m h =
      record {
        refusal = (
          λ r l p. h.refusal.0 r l (passing_same t s es (back s t es same) most l p),
          λ none. h.refusal.1 (λ l p. none l (passing_same s t es same most l p)),
        );
        given = ⊎_elim (λ r. inl r) (λ g. inr (g.0, g.1, mapping_same g.0 m g.2)) h.given;
      }

-- So is promise 3: the same answers with the same maps keep it.
pub best_verdicts : (s t : EntryTest) (es : List Entry) → SameVerdicts s t es → (most : ℕ) (a : Answer ℕ) (m : List ℕ)
    → BestMapOrNoneUnder s es most a m ↔ BestMapOrNoneUnder t es most a m
best_verdicts s t es same most a m = (best_same s t es same most a m, best_same t s es (back s t es same) most a m)
