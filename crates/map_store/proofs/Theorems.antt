-- The theorems of a store: what is asked of the store of a node is what is worked out afresh from the node.
use Prim.Native.Nat.{ℕ, ◌+◌, ◌*◌, ◌%◌, ◌≤◌, ◌<◌}
use mathlib.Core.Path.{◌≡◌, ◌∙◌, refl, sym, ap}
use mathlib.Core.Bool.{Bool, true, false, false≢true}
use mathlib.Core.Logic.{◌⊎◌, inl, inr, ⊎_elim}
use mathlib.Core.Option.{Option, none, some}
use mathlib.Core.List.{List, [], ◌∷◌}
use native.Mathlib.Omega.{arith}
use native.Mathlib.Nat.{mod-eq_of_lt}
use lib.ListN.{length, get_or}
use lib.Dec.{leb, ltb}
use borrow.Author.Tests.{le-leb, ltb-true}
use Rattle.refusals.specs.Refusals.{Numbered, Outcome, accepted, at, ◌and_then◌, must_hold}
use Rattle.refusals.proofs.Outcomes.{both_accepted, demanded, giving_same, left_same}
use Rattle.refusals.specs.Answers.{giving, left}
use Rattle.task_model.specs.declared.Entry.{Entry}
use Rattle.task_model.specs.Limits.{most_entries, Node, AllHold, NodeHolds}
use Rattle.node_words.specs.Lists.{zeros}
use Rattle.completion.specs.Test.{completion_test, time_in}
use Rattle.level_map.specs.Assignments.{level_of, levels_used, Assignment}
use Rattle.level_map.specs.Map.{the_map}
use Rattle.level_map.specs.Answer.{is_some, levels_in, map_of, levels_under, held_check, held_check_under, held_answer, held_answer_under}
use Rattle.level_map.proofs.Theorems.{mapping, map_empty}
use Rattle.map_store.specs.Store.{store_size, levels_at, up_to, padded, times_under, keeping, store_of, has_map, stored_used, stored_levels, stored_time}
use Rattle.map_store.specs.Asking.{map_check, map_asked, time_check, time_asked, fresh_time_check, fresh_time}
use Rattle.map_store.proofs.Lists.{up_to-list}
use Rattle.map_store.proofs.Filling.{store_some, store_none, keeping_size, keeping_level, keeping_time, times_at_lem}
use Rattle.map_store.proofs.Asking.{has_one, has_none}

-- there is a map or there is none
pub by_map : (o : Option (List ℕ)) → ((m : List ℕ) × (o ≡ some m)) ⊎ (o ≡ none)
by_map none = inr refl
by_map (some m) = inl (m, refl)

-- Every store of a node within the limits has all its words,
pub store_size_lem : (n : Node) → AllHold n.entries → length n.entries ≤ most_entries → length (store_of n) ≡ store_size
store_size_lem n hold few =
    let es = n.entries in
    ⊎_elim
    (λ y.
    ap length (store_some completion_test n y.0 y.1)
    ∙ keeping_size completion_test es (length es) refl y.0 (mapping es hold n.levels y.0 y.1).passing.assignment.each few)
    (λ p. ap length (store_none completion_test n p))
    (by_map (the_map es n.levels))

-- and that of a node without entries has a map, of 0 levels.
pub store_empty : (levels : ℕ) → store_of (record { levels = levels; entries = [] }) ≡ 1 ∷ zeros (1 + 2 * most_entries)
unfolding keeping padded times_under up_to
store_empty levels = store_some completion_test (record { levels = levels; entries = [] }) [] (map_empty levels)

-- The store of a node, and the map m of the node.
pub record Stores (n : Node) (m : List ℕ) : Type 0 where
  pub found : the_map n.entries n.levels ≡ some m
  pub has : has_map (store_of n) n.levels ≡ true
  pub used : stored_used (store_of n) ≡ levels_used m
  pub levels : stored_levels (store_of n) (length n.entries) ≡ m
  pub times : (i : ℕ) → i < length n.entries → stored_time (store_of n) i ≡ time_in (completion_test n.entries (level_of m) i)

-- Neither has a map.
pub record Lacks (n : Node) : Type 0 where
  pub none : the_map n.entries n.levels ≡ none
  pub has : has_map (store_of n) n.levels ≡ false

module _ (n : Node) (holds : NodeHolds n) where
  abbrev es : List Entry
  es = n.entries

  module _ (m : List ℕ) (p : the_map n.entries n.levels ≡ some m) where
    stored : store_of n ≡ keeping completion_test es (some m)
    stored = store_some completion_test n m p

    fits : Assignment (length es) n.levels m
    fits = (mapping es holds.each n.levels m p).passing.assignment

    one : get_or (store_of n) 0 0 ≡ 1
    unfolding keeping
    one = ap (λ l. get_or l 0 0) stored

    count : get_or (store_of n) 1 0 ≡ levels_used m
    unfolding keeping
    count = ap (λ l. get_or l 1 0) stored

    -- whether it is one on so many levels
    pub stored_on : (levels : ℕ) (b : Bool) → leb (levels_used m) levels ≡ b → has_map (store_of n) levels ≡ b
    stored_on levels b q = has_one (store_of n) levels one ∙ rw count q

    level_byte : (i : ℕ) → i < length m → get_or (store_of n) (levels_at + i) 0 % 256 ≡ get_or m i 0
    level_byte i h =
        let k : i < length es = omega (arith, fits.each) in
        ap (λ x. x % 256)
        (ap (λ l. get_or l (levels_at + i) 0) stored
        ∙ keeping_level completion_test es (length es) refl m fits.each holds.few_entries i (omega (arith, holds.few_entries)))
        ∙ mod-eq_of_lt (omega (arith, fits.high i k, holds.few_levels))

    pub store_kept : Stores n m
    unfolding stored_levels
    store_kept =
        record {
          found = p;
          has = stored_on n.levels true (le-leb _ _ (mapping es holds.each n.levels m p).chosen.within);
          used = count;
          levels = ap (λ k. stored_levels (store_of n) k) (sym fits.each) ∙ up_to-list _ m level_byte;
          times = λ i h.
              ap (λ l. stored_time l i) stored
              ∙ keeping_time completion_test es (length es) refl m fits.each holds.few_entries i
              ∙ times_at_lem completion_test es (length es) refl m fits.each holds.few_entries i h;
        }

  pub stored_none : the_map n.entries n.levels ≡ none → (levels : ℕ) → has_map (store_of n) levels ≡ false
  stored_none p levels =
      has_none (store_of n) levels (λ q. let z : get_or (store_of n) 0 0 ≡ 0 = ap (λ l. get_or l 0 0) (store_none completion_test n p) in omega arith)

  -- The store has the map of the node, with its count of levels, its levels and its times; or both have none.
  pub store_right : ((m : List ℕ) × Stores n m) ⊎ Lacks n
  store_right =
      ⊎_elim
      (λ y. inl (y.0, store_kept y.0 y.1))
      (λ p. inr (record { none = p; has = stored_none p n.levels }))
      (by_map (the_map es n.levels))

  -- So asking is refused, and answered, exactly as mapping the node is, and leaves the same in the buffer.
  pub store_has : has_map (store_of n) n.levels ≡ is_some (the_map n.entries n.levels)
  store_has =
      ⊎_elim
      (λ y. y.1.has ∙ sym (ap is_some y.1.found))
      (λ z. z.has ∙ sym (ap is_some z.none))
      store_right

  pub map_check_lem : (room : ℕ) → map_check (store_of n) n.levels (length n.entries) room ≡ held_check n room
  unfolding map_check held_check_under
  map_check_lem room = ap (λ b. must_hold (leb (length es) room) (at 10 0 0) and_then must_hold b (at 11 0 0)) store_has

  map_levels : (m : List ℕ) → the_map n.entries n.levels ≡ some m → map_of n ≡ m
  unfolding levels_under
  map_levels m p = ap levels_in p

  -- with both checks accepted there is a map
  kept_if : (o : Outcome) (r : Numbered) → o and_then must_hold (is_some (the_map n.entries n.levels)) r ≡ accepted → (m : List ℕ) × Stores n m
  kept_if o r p =
      ⊎_elim
      (λ y. y)
      (λ z. absurd (false≢true (sym (ap is_some z.none) ∙ demanded (is_some (the_map n.entries n.levels)) r (both_accepted o _ p).1)))
      store_right

  pub map_answer_lem : (room : ℕ) → map_asked (store_of n) n.levels (length n.entries) room ≡ held_answer n room
  unfolding map_asked held_answer_under held_check_under
  map_answer_lem room =
      ap (λ o. giving o (stored_used (store_of n))) (map_check_lem room)
      ∙ giving_same _ _ _ (λ a. let y = kept_if _ _ a in y.1.used ∙ ap levels_used (sym (map_levels y.0 y.1.found)))

  pub map_written : (room : ℕ) (buffer : List ℕ)
      → left (held_answer n room) (stored_levels (store_of n) (length n.entries)) buffer
      ≡ left (held_answer n room) (map_of n) buffer
  unfolding held_answer_under held_check_under
  map_written room buffer =
      left_same _ _ _ _ buffer (λ a. let y = kept_if _ _ a in y.1.levels ∙ sym (map_levels y.0 y.1.found))

  -- Asking for a time is refused, and answered, exactly as if the map were found and the entry timed under it.
  pub time_check_lem : (i : ℕ) → time_check (store_of n) n.levels (length n.entries) i ≡ fresh_time_check completion_test n i
  unfolding time_check fresh_time_check
  time_check_lem i = ap (λ b. must_hold (ltb i (length es)) (at 12 0 0) and_then must_hold b (at 11 0 0)) store_has

  pub time_answer_lem : (i : ℕ) → time_asked (store_of n) n.levels (length n.entries) i ≡ fresh_time completion_test n i
  unfolding time_asked fresh_time fresh_time_check
  time_answer_lem i =
      ap (λ o. giving o (stored_time (store_of n) i)) (time_check_lem i)
      ∙ giving_same _ _ _
      (λ a.
      let y = kept_if _ _ a in
      y.1.times i (ltb-true i (length es) (demanded (ltb i (length es)) _ (both_accepted _ _ a).0))
      ∙ ap (λ m. time_in (completion_test es (level_of m) i)) (sym (map_levels y.0 y.1.found)))
