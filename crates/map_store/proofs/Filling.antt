-- A store is filled group by group.
use Prim.Native.Nat.{ℕ, zero, suc, ◌+◌, ◌-◌, ◌*◌, ◌≤◌, ◌<◌}
use mathlib.Core.Path.{◌≡◌, ◌∙◌, refl, sym, ap}
use mathlib.Core.Logic.{by_cases}
use mathlib.Core.Option.{none, some}
use mathlib.Core.List.{List, ◌∷◌, ◌++◌}
use native.Mathlib.Omega.{arith}
use native.Mathlib.Decide.{dec_lt}
use lib.ListN.{length, get_or, length-append, length-replicate, get_or-append, get_or-eq_default}
use lib.Seq.{get_or-drop, drop_at, ext_get_or}
use Rattle.task_model.specs.declared.Entry.{Entry}
use Rattle.task_model.specs.Limits.{most_entries, Node}
use Rattle.node_words.specs.Lists.{zeros}
use Rattle.completion.specs.Group.{group_level}
use Rattle.completion.specs.Test.{completion_test, time_in}
use Rattle.level_map.specs.Assignments.{EntryTest, level_of, levels_used}
use Rattle.level_map.specs.Map.{map_under}
use Rattle.level_map.specs.Cuts.{Falling, levels_of_cuts, before}
use Rattle.level_map.proofs.Levels.{before_length}
use Rattle.level_map.proofs.Cutting.{length-levels}
use Rattle.level_map.proofs.Grouping.{cut_level, cut_timed}
use Rattle.map_store.specs.Store.{store_size, levels_at, times_at, padded, times_under, keeping, store_under}
use Rattle.map_store.specs.Putting.{Put, Agrees}
use Rattle.map_store.proofs.Lists.{length-up_to, get_or-up_to, get_or-zeros, length-padded, get_or-padded}

-- the store by the map that the search finds
module _ (test : EntryTest) (n : Node) where
  pub store_some : (m : List ℕ) → map_under test n.entries n.levels ≡ some m → store_under test n ≡ keeping test n.entries (some m)
  unfolding store_under
  store_some m p = ap (keeping test n.entries) p

  pub store_none : map_under test n.entries n.levels ≡ none → store_under test n ≡ zeros store_size
  unfolding store_under keeping
  store_none p = ap (keeping test n.entries) p

-- what a store with the map m has at each place
module _ (test : EntryTest) (es : List Entry) (n : ℕ) (many : length es ≡ n) (m : List ℕ) (sized : length m ≡ n) (few : n ≤ most_entries) where
  pub length-times : length (times_under test es m) ≡ n
  unfolding times_under
  length-times = length-up_to _ (length es) ∙ many

  pub times_at_lem : (i : ℕ) → i < n → get_or (times_under test es m) i 0 ≡ time_in (test es (level_of m) i)
  unfolding times_under
  times_at_lem i h = get_or-up_to _ (length es) i (omega arith)

  levels_long : length (padded m) ≡ most_entries
  levels_long = length-padded m (omega arith)

  times_long : length (padded (times_under test es m)) ≡ most_entries
  times_long = length-padded (times_under test es m) (omega (arith, length-times))

  pub keeping_size : length (keeping test es (some m)) ≡ store_size
  unfolding keeping
  keeping_size = omega (arith, length-append (padded m) (padded (times_under test es m)), levels_long, times_long)

  pub keeping_level : (j : ℕ) → j < most_entries → get_or (keeping test es (some m)) (levels_at + j) 0 ≡ get_or m j 0
  unfolding keeping
  keeping_level j h =
      sym (get_or-drop 2 (1 ∷ levels_used m ∷ (padded m ++ padded (times_under test es m))) j 0)
      ∙ get_or-append (padded m) (padded (times_under test es m)) 0 j (omega (arith, levels_long))
      ∙ get_or-padded m j

  pub keeping_time : (j : ℕ) → get_or (keeping test es (some m)) (times_at + j) 0 ≡ get_or (times_under test es m) j 0
  unfolding keeping
  keeping_time j =
      sym (get_or-drop times_at (1 ∷ levels_used m ∷ (padded m ++ padded (times_under test es m))) j 0)
      ∙ ap (λ l. get_or l j 0) (drop_at (padded m) (padded (times_under test es m)) most_entries levels_long)
      ∙ get_or-padded (times_under test es m) j

  -- words that are stored, but for what lies between the first words and the end of the entries
  blank : (k j : ℕ) → get_or (1 ∷ levels_used m ∷ zeros (2 * most_entries)) (2 + k + j) 0 ≡ 0
  blank k j =
      let e : 2 + k + j ≡ 2 + (k + j) = omega arith in
      rw e (sym (get_or-drop 2 (1 ∷ levels_used m ∷ zeros (2 * most_entries)) (k + j) 0) ∙ get_or-zeros (2 * most_entries) (k + j))

  heads : (k : ℕ) → k < levels_at → get_or (1 ∷ levels_used m ∷ zeros (2 * most_entries)) k 0 ≡ get_or (keeping test es (some m)) k 0
  unfolding keeping
  heads zero h = refl
  heads (suc zero) h = refl
  heads (suc (suc k)) h = absurd (omega arith)

  -- with the first two words stored and zeros behind them, all that lies beyond the entries is right
  pub agrees_begin : Agrees (keeping test es (some m)) 0 n (1 ∷ levels_used m ∷ zeros (2 * most_entries))
  agrees_begin =
      record {
        sized = omega (arith, length-replicate {A = ℕ} (2 * most_entries) 0);
        heads = heads;
        levels = λ j h. absurd (omega arith);
        times = λ j h. absurd (omega arith);
        levels_beyond = λ j l h. blank 0 j ∙ sym (keeping_level j h ∙ get_or-eq_default m 0 (omega arith));
        times_beyond = λ j l h.
            blank most_entries j
            ∙ sym (keeping_time j ∙ get_or-eq_default (times_under test es m) 0 (omega (arith, length-times)));
      }

-- the levels and the times of one group more
pub agrees_next : (due : List ℕ) (first end count : ℕ) (f g : ℕ → ℕ) (w w' w'' : List ℕ) → first ≤ end → end ≤ count → count ≤ most_entries
    → ((j : ℕ) → first ≤ j → j < end → f j ≡ get_or due (levels_at + j) 0)
    → ((j : ℕ) → first ≤ j → j < end → g j ≡ get_or due (times_at + j) 0)
    → Agrees due first count w → Put levels_at first end f w w' → Put times_at first end g w' w'' → Agrees due end count w''
agrees_next due first end count f g w w' w'' up inside few level time a p q =
    record {
      sized = q.sized ∙ p.sized ∙ a.sized;
      heads = λ k h. q.low k (omega arith) ∙ p.low k (omega arith) ∙ a.heads k h;
      levels = λ j h.
          q.low (levels_at + j) (omega arith)
          ∙ by_cases (dec_lt j first)
          (λ y. p.low (levels_at + j) (omega arith) ∙ a.levels j y)
          (λ z. p.here j (omega arith) h ∙ level j (omega arith) h);
      times = λ j h.
          by_cases (dec_lt j first)
          (λ y. q.low (times_at + j) (omega arith) ∙ p.high (times_at + j) (omega arith) ∙ a.times j y)
          (λ z. q.here j (omega arith) h ∙ time j (omega arith) h);
      levels_beyond = λ j l h.
          q.low (levels_at + j) (omega arith) ∙ p.high (levels_at + j) (omega arith) ∙ a.levels_beyond j l h;
      times_beyond = λ j l h.
          q.high (times_at + j) (omega arith) ∙ p.high (times_at + j) (omega arith) ∙ a.times_beyond j l h;
    }

-- after the last group, all words are right
pub agrees_all : (due w : List ℕ) (count : ℕ) → length due ≡ store_size → Agrees due count count w → w ≡ due
agrees_all due w count long a =
    ext_get_or 0 w due (a.sized ∙ sym long)
    (λ i h.
    by_cases (dec_lt i levels_at)
    (λ y. a.heads i y)
    (λ z.
    by_cases (dec_lt i times_at)
    (λ y.
    let e : levels_at + (i - levels_at) ≡ i = omega arith in
    rw e at (within (i - levels_at) (omega arith)).0)
    (λ x.
    let e : times_at + (i - times_at) ≡ i = omega arith in
    rw e at (within (i - times_at) (omega (arith, a.sized))).1)))
  where
    within : (j : ℕ) → j < most_entries
        → (get_or w (levels_at + j) 0 ≡ get_or due (levels_at + j) 0) × (get_or w (times_at + j) 0 ≡ get_or due (times_at + j) 0)
    within j h =
        by_cases (dec_lt j count)
        (λ y. (a.levels j y, a.times j y))
        (λ z. (a.levels_beyond j (omega arith) h, a.times_beyond j (omega arith) h))

-- the words of one group are due at their places: its level, and the times in it
module _ (es : List Entry) (n : ℕ) (many : length es ≡ n) (s : List ℕ) (f : Falling s n) (few : n ≤ most_entries) (l first end : ℕ)
    (p : first ≡ before l (levels_of_cuts s n)) (q : end ≡ before (suc l) (levels_of_cuts s n)) (j : ℕ) (lo : first ≤ j) (hi : j < end) where
  abbrev m : List ℕ
  m = levels_of_cuts s n

  sized : length m ≡ n
  sized = length-levels s n f

  low : before l m ≤ j
  low = omega arith

  high : j < before (suc l) m
  high = omega arith

  inside : j < n
  inside = omega (arith, high, before_length (suc l) m, sized)

  pub level_due : l ≡ get_or (keeping completion_test es (some (levels_of_cuts s n))) (levels_at + j) 0
  level_due =
      sym (keeping_level completion_test es n many m sized few j (omega (arith, inside))
      ∙ (rw many at (cut_level es s (rw many f) l j (rw many low) (rw many high))))

  pub time_due : time_in (completion_test es (group_level first (end - 1)) j)
      ≡ get_or (keeping completion_test es (some (levels_of_cuts s n))) (times_at + j) 0
  time_due =
      rw (p, q)
      (sym (keeping_time completion_test es n many m sized few j
      ∙ times_at_lem completion_test es n many m sized few j inside
      ∙ ap time_in (rw many at (cut_timed es s (rw many f) l j (rw many low) (rw many high)))))
