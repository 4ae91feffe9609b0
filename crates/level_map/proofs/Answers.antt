-- The program's answer, and the levels that it writes, agree with the map of the node.
use Prim.Native.Nat.{ℕ, ◌≤◌, ◌<◌}
use mathlib.Core.Path.{◌≡◌, refl, sym, ◌∙◌, ap}
use mathlib.Core.Option.{none}
use mathlib.Core.List.{List, ◌++◌}
use native.Mathlib.Omega.{arith}
use lib.ListN.{length, drop}
use Rattle.task_model.specs.Limits.{Node, AllHold}
use Rattle.refusals.specs.Refusals.{at}
use Rattle.refusals.specs.Answers.{Answer, gives, refuses, left}
use Rattle.level_map.specs.Map.{the_map}
use Rattle.level_map.specs.Answer.{held_answer, map_of, NodeBestMapOrNone}
use Rattle.level_map.specs.Cuts.{levels_of_cuts, CutsOf}
use Rattle.level_map.proofs.Cutting.{length-levels}
use Rattle.level_map.proofs.Theorems.{held_short, held_map, held_none, best_map_or_none}

-- The answer `a`, with the buffer `before` the call and `after` it, is right: by the definition, and so by promise 3.
pub record Right (n : Node) (a : Answer ℕ) (before after : List ℕ) : Type 0 where
  pub answered : a ≡ held_answer n (length before)
  pub written : after ≡ left a (map_of n) before
  pub best : NodeBestMapOrNone n before a after

module _ (n : Node) (all : AllHold n.entries) (before : List ℕ) where
  right : (a : Answer ℕ) (after : List ℕ) → a ≡ held_answer n (length before) → after ≡ left a (map_of n) before → Right n a before after
  right a after p q = record { answered = p; written = q; best = rw (q, p) (best_map_or_none n all before) }

  -- 10, and the buffer is untouched
  pub right_short : length before < length n.entries → Right n (refuses (at 10 0 0)) before before
  right_short h = right _ before (sym (held_short n (length before) h)) refl

  -- no map: 11, and the buffer is untouched
  pub right_none : length n.entries ≤ length before → the_map n.entries n.levels ≡ none
      → Right n (refuses (at 11 0 0)) before before
  right_none h p = right _ before (sym (held_none n (length before) h p)) refl

  -- a map by its cuts: the count of groups, and a level for each entry
  pub right_map : (count : ℕ) (s after : List ℕ) → length n.entries ≡ count → count ≤ length before
      → CutsOf (the_map n.entries n.levels) count n.levels s
      → after ≡ levels_of_cuts s count ++ drop count before → Right n (gives (length s)) before after
  right_map count s after e fits r q =
      let h = held_map n (length before) (omega arith) (levels_of_cuts s count) r.levels in
      right (gives (length s)) after (sym (h.0 ∙ ap gives r.counted)) (rw (h.1, length-levels s count r.falling) q)
