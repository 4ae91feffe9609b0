-- The search is exact, for any test with the one law that it needs: its cuts give the first passing map in order of
-- preference.
use Prim.Native.Nat.{ℕ, ◌≤◌, ◌<◌}
use mathlib.Core.Path.{◌≡◌, sym, ◌∙◌, ap}
use mathlib.Core.Bool.{Bool, true}
use mathlib.Core.Option.{none, some, map, none-ne-some}
use mathlib.Core.List.{List}
use mathlib.Core.Logic.{◌⊎◌, inl, inr, ⊎_elim, ◌↔◌}
use native.Mathlib.Omega.{arith}
use Rattle.level_map.specs.Assignments.{Assignment}
use Rattle.level_map.specs.Map.{Chosen, maps, first_of}
use Rattle.level_map.specs.Cuts.{levels_of_cuts, CutsOf}
use Rattle.level_map.proofs.Tests.{by-test}
use Rattle.level_map.proofs.Levels.{rising_wider, assignment_rising, rising_assignment}
use Rattle.level_map.proofs.Maps.{map_full}
use Rattle.level_map.proofs.Search.{greedy}
use Rattle.level_map.proofs.Optimal.{InTime, Best, search_best, unique}
use Rattle.level_map.proofs.Choice.{choice_none, choice_first}

pub wider : {c n : ℕ} {a : List ℕ} (most : ℕ) → c ≤ most → Assignment n c a → Assignment n most a
wider {c} {n} {a} most h s = rising_assignment n most a s.each (rising_wider 1 c 1 most a (omega arith) h (assignment_rising s))

chosen_same : {P Q : List ℕ → Type 0} {most n : ℕ} {g : List ℕ} → ((a : List ℕ) → P a ↔ Q a) → Chosen P most n g → Chosen Q most n g
chosen_same f x =
    record {
      is_map = x.is_map;
      passes = (f _).0 x.passes;
      within = x.within;
      fewest = λ a i p l. x.fewest a i ((f a).1 p) l;
      longest = λ a i p e. x.longest a i ((f a).1 p) e;
    }

-- A test of the maps of n entries that goes by their groups, with the one law by which the greedy choice is the best one.
pub record GroupTest (n : ℕ) : Type 1 where
  -- the entry at i is on time in the group from a up to, and without, e; it stays so when the group loses entries at its
  -- end
  pub ok : ℕ → ℕ → ℕ → Bool
  pub shrink : (i a e e' : ℕ) → a ≤ i → i < e' → e' ≤ e → e ≤ n → ok i a e ≡ true → ok i a e' ≡ true
  -- an assignment passes exactly if each entry is on time in its group
  pub Passes : List ℕ → Type 0
  pub grouped : (hi : ℕ) (a : List ℕ) → Assignment n hi a → Passes a ↔ InTime ok n a
  -- what passes is computed
  pub test : List ℕ → Bool
  pub tested : (a : List ℕ) → test a ≡ true ↔ Passes a

module _ {n : ℕ} (t : GroupTest n) (most : ℕ) where
  -- The search finds cuts whose levels are the first map that passes, and the best; or no map and no assignment passes.
  pub exact_cases : ((s : List ℕ) × (greedy t.ok most n ≡ some s) × CutsOf (first_of t.test (maps most n)) n most s
      × Best t.Passes most n (levels_of_cuts s n))
      ⊎ ((greedy t.ok most n ≡ none) × (first_of t.test (maps most n) ≡ none)
      × ((a : List ℕ) → Assignment n most a → t.Passes a → ⊥))
  exact_cases =
      elim (search_best t.ok n t.shrink t.Passes t.grouped most) [
        | inl r ↦ inl (
          r.0,
          r.1,
          record {
            levels =
                choice_first t.test n most (levels_of_cuts r.0 n) (chosen_same (λ a. ((t.tested a).1, (t.tested a).0)) r.5.chosen);
            counted = r.4;
            within = r.3;
            falling = r.2;
          },
          r.5,
        )
        | inr r ↦ inr (
          r.0,
          choice_none t.test n most
              (λ c m i l.
              by-test (t.test m)
              (λ q. absurd (r.1 m (wider most l i.assignment) ((t.tested m).0 q)))
              (λ q. q)),
          r.1,
        )
      ]

  pub exact : first_of t.test (maps most n) ≡ map (λ s. levels_of_cuts s n) (greedy t.ok most n)
  exact = ⊎_elim (λ r. rw (r.1, r.2.levels)) (λ r. rw (r.0, r.1)) exact_cases

  pub exact_best : (m : List ℕ) → first_of t.test (maps most n) ≡ some m → Best t.Passes most n m
  exact_best m p =
      ⊎_elim
      (λ r. let e : levels_of_cuts r.0 n ≡ m = cc r.2.levels in rw e at r.3)
      (λ r. absurd (none-ne-some m (sym r.1 ∙ p)))
      exact_cases

  pub exact_none : first_of t.test (maps most n) ≡ none ↔ ((a : List ℕ) → Assignment n most a → t.Passes a → ⊥)
  exact_none = (
    λ p. ⊎_elim (λ r. absurd (none-ne-some _ (sym p ∙ r.2.levels))) (λ r. r.2) exact_cases,
    λ f. ⊎_elim (λ r. absurd (f _ r.3.assignment r.3.chosen.passes)) (λ r. r.1) exact_cases,
  )

  pub exact_chosen : (m : List ℕ) → first_of t.test (maps most n) ≡ some m ↔ Chosen t.Passes most n m
  exact_chosen m = (
    λ p. (exact_best m p).chosen,
    λ x.
        ⊎_elim
        (λ r. r.2.levels ∙ ap some (unique t.Passes most n m (levels_of_cuts r.0 n) x r.3.chosen))
        (λ r. absurd (r.2 m (wider most x.within (map_full x.is_map).assignment) x.passes))
        exact_cases,
  )
