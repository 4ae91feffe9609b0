use Rattle.std.proofs.Common.{◌≡◌, ℕ, List, [], ◌∷◌, ◌++◌, ◌+◌, ◌-◌, ◌≤◌, ◌<◌, ◌∙◌, refl, sym, ap, arith, length, take, drop, replicate}
use lib.ListN.{set, length-set}
use Rattle.std.proofs.lemmas.List.{length-take-le, take_more_set, drop-set-lt, drop-drop, drop-replicate}
use Rattle.task_model.specs.Limits.{most_entries}
use Rattle.node_words.specs.declared.held.HeldEntries.{HeldEntries}
use Rattle.node_words.specs.Held.{held_entries}
use Rattle.node_words.proofs.Entries.{length-entries}
use Rattle.completion.specs.Test.{completion_test}
use Rattle.level_map.specs.Map.{maps, first_of, pass_test, the_map}
use Rattle.level_map.proofs.Exact.{GroupTest}
use Rattle.level_map.proofs.Theorems.{node_test, map_first}
use Rattle.level_map.proofs.Loop.{reached_next, reached_full, reached_stop, reached_end}
use Rattle.level_map.proofs.find_cuts.Goals as goal

-- the test of groups of a node's entries, and their map by it
abbrev test_of : (n : HeldEntries) → GroupTest n.count
test_of n = node_test (held_entries n) n.held n.count (length-entries _ 0 _)

map_of : (n : HeldEntries) (most : ℕ) → the_map (held_entries n) most ≡ first_of (pass_test completion_test (held_entries n)) (maps most n.count)
map_of n most = map_first _ _ (length-entries _ 0 _) most

-- the array of starts, of which `used` are in use
module _ (starts : List ℕ) (used : ℕ) where
  many : used ≤ length starts → length (take used starts) ≡ used
  many h = length-take-le used starts h

  -- one more start
  module _ (a : ℕ) (h : used < length starts) where
    more : take (used + 1) (set starts used a) ≡ take used starts ++ (a ∷ [])
    more = take_more_set starts used a h

    still_clear : drop used starts ≡ replicate (most_entries - used) 0
        → drop (used + 1) (set starts used a) ≡ replicate (most_entries - (used + 1)) 0
    still_clear e =
        let rest : most_entries - used - 1 ≡ most_entries - (used + 1) = omega arith in
        drop-set-lt (used + 1) starts used a (omega arith)
        ∙ sym (drop-drop 1 used starts)
        ∙ ap (drop 1) e
        ∙ drop-replicate 1 (most_entries - used) 0
        ∙ ap (λ n. replicate n 0) rest

pub returns-then-most-used : goal.returns-then-most-used
returns-then-most-used c =
    let n = c.args.node.now in
    let l = c.loop-end in
    let cuts = many l.starts l.used (omega (arith, l.invariant.size)) in
    map_of n c.args.most ∙ reached_full (test_of n) _ (take l.used l.starts) l.end l.invariant.reached (omega (arith, cuts)) (omega arith)

pub returns-in_err-start : goal.returns-in_err-start
returns-in_err-start c =
    let n = c.args.node.now in
    let l = c.loop-end in
    let cuts = many l.starts l.used (omega (arith, l.invariant.size)) in
    rw c.from_residual.ensures
    (map_of n c.args.most ∙ reached_stop (test_of n) _ (take l.used l.starts) l.end l.invariant.reached (omega (arith, cuts)) (omega arith) c.in_err-start.ensures)

pub loop-end-preserved : goal.loop-end-preserved
loop-end-preserved c =
    let n = c.args.node.now in
    let l = c.loop-end in
    let a = c.in_ok-start.start in
    let least = c.in_ok-start.ensures in
    let cuts = many l.starts l.used (omega (arith, l.invariant.size)) in
    record {
      reached = rw (more l.starts l.used a (omega (arith, l.invariant.size)))
          (reached_next (test_of n) _ (take l.used l.starts) l.end l.invariant.reached _ (omega (arith, cuts)) (omega arith) least);
      within = omega arith;
      few = omega (arith, least.0);
      size = length-set l.starts l.used a ∙ l.invariant.size;
      clear = still_clear l.starts l.used a (omega (arith, l.invariant.size)) l.invariant.clear;
    }

pub invariant_of-result : goal.invariant_of-result
invariant_of-result c =
    let n = c.args.node.now in
    let l = c.loop-end in
    record {
      few = n.few;
      full = omega (arith, l.invariant.size);
      falling = (reached_end (test_of n) c.args.most (take l.used l.starts) l.end l.invariant.reached (omega arith)).falling;
      clear = l.invariant.clear;
    }

pub returns : goal.returns
returns c =
    let n = c.args.node.now in
    let l = c.loop-end in
    (rw (map_of n c.args.most) (reached_end (test_of n) c.args.most (take l.used l.starts) l.end l.invariant.reached (omega arith)), refl)
