-- The theorems of the map of a node.
use Prim.Native.Nat.{ℕ, zero, suc, ◌≤◌, ◌<◌}
use mathlib.Core.Path.{◌≡◌, ◌∙◌, refl, sym, ap}
use mathlib.Core.Bool.{Bool, true, false≢true}
use mathlib.Core.Option.{none, some}
use mathlib.Core.List.{List, [], ◌++◌}
use mathlib.Core.Logic.{◌⊎◌, inl, inr, by_cases, ⊎_elim, ◌↔◌}
use native.Mathlib.Omega.{arith}
use native.Mathlib.Decide.{dec_lt, dec_le}
use lib.ListN.{length, take, drop}
use lib.Seq.{take_at}
use borrow.Author.Tests.{le-leb, lt-leb}
use Rattle.task_model.specs.declared.Entry.{Entry}
use Rattle.task_model.specs.Limits.{Node, AllHold}
use Rattle.refusals.specs.Refusals.{Numbered, at}
use Rattle.refusals.specs.Answers.{gives, refuses, left}
use Rattle.completion.specs.Test.{completion_test, is_on_time}
use Rattle.level_map.specs.Assignments.{level_of, Assignment, NoneLate, Passing, levels_used}
use Rattle.level_map.specs.Map.{IsMap, Chosen, maps, maps_with, first_of, none_late_to, pass_test, map_under, the_map}
use Rattle.level_map.specs.Answer.{is_some, map_of, levels_under, held_check_under, held_answer, held_answer_under, Mapping, NodeBestMapOrNone}
use Rattle.level_map.specs.Groups.{added, on_time_in}
use Rattle.level_map.specs.Cuts.{levels_of_cuts, CutsOf}
use Rattle.level_map.proofs.Tests.{by-test}
use Rattle.level_map.proofs.Search.{greedy}
use Rattle.level_map.proofs.Optimal.{least_urgent, Best}
use Rattle.level_map.proofs.Choice.{first_left}
use Rattle.level_map.proofs.Exact.{GroupTest, wider, exact_cases, exact_best, exact_none, exact_chosen}
use Rattle.level_map.proofs.Grouping.{grouped, loses_end}

late_to : (es : List Entry) (a : List ℕ) (n : ℕ) → none_late_to completion_test es a n ≡ true
    → (i : ℕ) → i < n → is_on_time (completion_test es (level_of a) i) ≡ true
unfolding none_late_to
late_to es a zero p i h = absurd (omega arith)
late_to es a (suc n) p i h =
    by-test (none_late_to completion_test es a n)
    (λ q. by_cases (dec_lt i n)
    (λ y. late_to es a n q i y)
    (λ z. let e : i ≡ n = omega arith in rw e (rw (q, none_late_to) at p)))
    (λ q. absurd (false≢true (rw (q, none_late_to) at p)))

late_of : (es : List Entry) (a : List ℕ) (n : ℕ) → ((i : ℕ) → i < n → is_on_time (completion_test es (level_of a) i) ≡ true)
    → none_late_to completion_test es a n ≡ true
unfolding none_late_to
late_of es a zero f = refl
late_of es a (suc n) f = rw (late_of es a n (λ i h. f i (omega arith)), none_late_to) (f n (omega arith))

-- The test of a map answers true exactly if no entry is late.
pub pass_none_late : (es : List Entry) (a : List ℕ) → pass_test completion_test es a ≡ true ↔ NoneLate es a
unfolding pass_test
pass_none_late es a = (late_to es a (length es), late_of es a (length es))

-- What the search asks of the entry at i, in the group from `first` up to `end`.
abbrev pub asked : List Entry → ℕ → ℕ → ℕ → Bool
asked es i first end = on_time_in es (added end) i first end

-- The test of a node's maps.
abbrev pub node_test : (es : List Entry) → AllHold es → (n : ℕ) → length es ≡ n → GroupTest n
node_test es hold n e =
    record {
      ok = asked es;
      shrink = λ i a k k' lo up h fits t. loses_end es hold i a k k' lo up h (omega arith) t;
      Passes = NoneLate es;
      grouped = rw (← e) (grouped es);
      test = pass_test completion_test es;
      tested = pass_none_late es;
    }

-- The map of n entries is the first of the maps, in order of preference, that passes.
pub map_first : (es : List Entry) (n : ℕ) → length es ≡ n → (most : ℕ) → the_map es most ≡ first_of (pass_test completion_test es) (maps most n)
unfolding map_under
map_first es n e most = rw e

not_both : {c : ℕ} {r : Numbered} → gives c ≡ refuses r → ⊥
not_both p = let z : ◌≡◌ {A = ℕ} 0 1 = cc in omega arith

module _ (es : List Entry) (hold : AllHold es) (most : ℕ) where
  -- The search finds cuts whose levels are the map, and the best; or there is no map, and no assignment passes.
  pub map_cases : ((s : List ℕ) × (greedy (asked es) most (length es) ≡ some s) × CutsOf (the_map es most) (length es) most s
      × Best (NoneLate es) most (length es) (levels_of_cuts s (length es)))
      ⊎ ((greedy (asked es) most (length es) ≡ none) × (the_map es most ≡ none)
      × ((a : List ℕ) → Assignment (length es) most a → NoneLate es a → ⊥))
  unfolding map_under
  map_cases =
      exact_cases (node_test es hold (length es) refl) most

  -- The map is best: the choice, with the fewest levels of all passing assignments.
  pub map_best : (m : List ℕ) → the_map es most ≡ some m → Best (NoneLate es) most (length es) m
  unfolding map_under
  map_best =
      exact_best (node_test es hold (length es) refl) most

  -- A list of levels is the map exactly if it is the choice of 'The map'. So there is one choice at most.
  pub map_chosen : (m : List ℕ) → the_map es most ≡ some m ↔ Chosen (NoneLate es) most (length es) m
  unfolding map_under
  map_chosen =
      exact_chosen (node_test es hold (length es) refl) most

  -- There is no map exactly if no assignment lets every entry end by its deadline.
  pub map_none : the_map es most ≡ none ↔ ((a : List ℕ) → Passing es most a → ⊥)
  unfolding map_under
  map_none =
      let e = exact_none (node_test es hold (length es) refl) most in
      ((λ p a x. e.0 p a x.assignment x.in_time), λ f. e.1 (λ a s t. f a (record { assignment = s; in_time = t })))

  -- The k least urgent groups of the map hold at least as many entries as those of any passing map.
  pub map_holding : (g : List ℕ) → the_map es most ≡ some g → (m : List ℕ) → IsMap (length es) m → NoneLate es m
      → (k : ℕ) → least_urgent k m ≤ least_urgent k g
  map_holding g p = (map_best g p).holding

  pub mapping : (m : List ℕ) → the_map es most ≡ some m → Mapping es most (levels_used m) m
  mapping m p =
      let b = map_best m p in
      record {
        passing = record { assignment = b.assignment; in_time = b.chosen.passes };
        chosen = b.chosen;
        counted = refl;
        fewest = λ a x. b.fewest a x.assignment x.in_time;
      }

-- With fewer levels a node keeps its map, if that uses few enough, and has none otherwise; with more it keeps its map.
module _ (es : List Entry) (hold : AllHold es) (most fewer : ℕ) (h : fewer ≤ most) where
  pub map_fewer : (m : List ℕ) → the_map es most ≡ some m → levels_used m ≤ fewer → the_map es fewer ≡ some m
  map_fewer m p few =
      let x = (map_chosen es hold most m).0 p in
      (map_chosen es hold fewer m).1
      (record {
        is_map = x.is_map;
        passes = x.passes;
        within = few;
        fewest = λ a i t l. x.fewest a i t (omega arith);
        longest = x.longest;
      })

  pub map_too_few : (m : List ℕ) → the_map es most ≡ some m → fewer < levels_used m → the_map es fewer ≡ none
  map_too_few m p many =
      let x = (map_chosen es hold most m).0 p in
      ⊎_elim
      (λ r.
      let c = r.3.chosen in
      absurd (omega (arith, c.within, x.fewest (levels_of_cuts r.0 (length es)) c.is_map c.passes (omega (arith, c.within)))))
      (λ r. r.1)
      (map_cases es hold fewer)

  pub none_fewer : the_map es most ≡ none → the_map es fewer ≡ none
  none_fewer p =
      (map_none es hold fewer).1
      (λ a x. (map_none es hold most).0 p a (record { assignment = wider most h x.assignment; in_time = x.in_time }))

  pub map_more : (m : List ℕ) → the_map es fewer ≡ some m → the_map es most ≡ some m
  map_more m p =
      ⊎_elim
      (λ r.
      let g = levels_of_cuts r.0 (length es) in
      by_cases (dec_le (levels_used g) fewer)
      (λ few. r.2.levels ∙ sym (map_fewer g r.2.levels few) ∙ p)
      (λ z. absurd (false≢true (ap is_some (sym (map_too_few g r.2.levels (omega arith)) ∙ p)))))
      (λ r. absurd (false≢true (ap is_some (sym (none_fewer r.1) ∙ p))))
      (map_cases es hold most)

  -- So the search for fewer levels finds the same cuts, if they are few enough.
  pub cuts_fewer : (s : List ℕ) → CutsOf (the_map es most) (length es) most s → length s ≤ fewer
      → CutsOf (the_map es fewer) (length es) fewer s
  cuts_fewer s x few =
      record {
        levels = map_fewer _ x.levels (omega (arith, x.counted));
        counted = x.counted;
        within = few;
        falling = x.falling;
      }

-- What a node at hand is answered: 10, or by its map.
module _ (n : Node) (room : ℕ) where
  pub held_short : room < length n.entries → held_answer n room ≡ refuses (at 10 0 0)
  unfolding held_answer_under held_check_under
  held_short h = rw (lt-leb (length n.entries) room h)

  pub held_map : length n.entries ≤ room → (m : List ℕ) → the_map n.entries n.levels ≡ some m
      → (held_answer n room ≡ gives (levels_used m)) × (map_of n ≡ m)
  unfolding held_answer_under held_check_under levels_under
  held_map h m p = ((rw (le-leb (length n.entries) room h, p)), (rw p))

  pub held_none : length n.entries ≤ room → the_map n.entries n.levels ≡ none → held_answer n room ≡ refuses (at 11 0 0)
  unfolding held_answer_under held_check_under
  held_none h p = rw (le-leb (length n.entries) room h, p)

-- Promise 3 of docs/SPEC.md holds of the answer, and of what is read from the buffer's start.
pub best_map_or_none : (n : Node) → AllHold n.entries → (buffer : List ℕ)
    → NodeBestMapOrNone n buffer (held_answer n (length buffer)) (left (held_answer n (length buffer)) (map_of n) buffer)
best_map_or_none n hold buffer fits =
    ⊎_elim
    (λ r.
    let m = levels_of_cuts r.0 (length n.entries) in
    let h = held_map n (length buffer) fits m r.2.levels in
    let d = mapping n.entries hold n.levels m r.2.levels in
    let front : take (length n.entries) (m ++ drop (length m) buffer) ≡ m =
    take_at m (drop (length m) buffer) (length n.entries) d.passing.assignment.each in
    rw (h.0, h.1, front)
    (record {
      refusal = ((λ p. absurd (not_both p)), λ f. absurd (f m d.passing));
      given = inr (levels_used m, refl, d);
    }))
    (λ r.
    rw (held_none n (length buffer) fits r.1)
    (record { refusal = ((λ p a x. r.2 a x.assignment x.in_time), λ f. refl); given = inl refl }))
    (map_cases n.entries hold n.levels)

first_empty : (most : ℕ) → first_of (pass_test completion_test []) (maps most 0) ≡ some []
unfolding maps maps_with first_of pass_test none_late_to
first_empty zero = refl
first_empty (suc most) = first_left (pass_test completion_test []) (maps most 0) (maps_with (suc most) 0) [] (first_empty most)

-- An empty node gets the empty map, with 0 levels.
pub map_empty : (most : ℕ) → the_map [] most ≡ some []
unfolding map_under
map_empty most = first_empty most

pub answer_empty : (most room : ℕ) → held_answer (record { levels = most; entries = [] }) room ≡ gives 0
answer_empty most room = (held_map (record { levels = most; entries = [] }) room (omega arith) [] (map_empty most)).0
