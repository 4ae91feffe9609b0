use Rattle.std.proofs.Common.{rules, tests, zero-le, suc, ◌≡◌, ◌∙◌, sym, ap, ◌≤◌, ◌<◌, ℕ, ◌+◌, ◌-◌, take, drop, arith, Option, Some, None, List, length, get_or-take, get_or-drop, length-take, length-drop}
use mathlib.Core.Logic.{by_cases}
use native.Mathlib.Decide.{dec_le}
use lib.ListN.{get_or}
use Rattle.std.specs.Option.{MatchOption, unwrap_or}
use Rattle.std.specs.List.{AllWithin, HoldsAt}
use Rattle.std.proofs.lemmas.Iterator.{IsFirst-from_position, YieldsList-from_slice}
use Rattle.level_map.specs.Assignments.{level_of}
use Rattle.level_timing.specs.Levels.{LastOf}
use Rattle.level_timing.proofs.group_last.Goals as goal

-- the levels after the one at i, of `count`
module _ (a : List ℕ) (i count : ℕ) (here : i < count) (few : count ≤ length a) where
  abbrev rest : List ℕ
  rest = take (count - (i + 1)) (drop (i + 1) a)

  many : length rest ≡ count - (i + 1)
  many = omega (arith, length-take (count - (i + 1)) (drop (i + 1) a), length-drop (i + 1) a)

  abbrev Same : ℕ → Type 0
  Same x = x ≡ level_of a i

  abbrev Other : ℕ → Type 0
  Other x = x ≡ level_of a i → ⊥

  at : (k : ℕ) → i + 1 + k < count → get_or rest k 0 ≡ level_of a (i + 1 + k)
  at k p = get_or-take (count - (i + 1)) (drop (i + 1) a) k 0 (omega arith) ∙ get_or-drop (i + 1) a k 0

  -- k of them are the level at i, and the next is another, or there is none
  last_of : (k : ℕ) → i + k < count → AllWithin Same rest 0 k → (i + 1 + k < count → HoldsAt Other rest k) → LastOf count a i (i + k)
  last_of k inside same other = record {
    within = omega arith;
    inside = inside;
    same = λ j p q. by_cases (dec_le j i)
        (λ y. let e : j ≡ i = omega arith in ap (level_of a) e)
        (λ n. let e : i + 1 + (j - (i + 1)) ≡ j = omega arith in rw e at (sym (at (j - (i + 1)) (omega arith)) ∙ same (j - (i + 1)) 0 zero-le (omega arith)));
    other = λ p e. let next : i + 1 + k ≡ suc (i + k) = omega arith in other (omega arith) 0 (at k (omega arith) ∙ (ap (level_of a) next ∙ e));
  }

  last_found : (r : Option ℕ) (k : ℕ) → MatchOption r (AllWithin Same rest 0 (length rest)) (λ j. (j < length rest) × HoldsAt Other rest j × AllWithin Same rest 0 j)
      → k ≡ unwrap_or r (length rest) → LastOf count a i (i + k)
  last_found None k f e = rw e (last_of (length rest) (omega (arith, many)) f (λ p. absurd (omega (arith, many))))
  last_found (Some j) k f e = rw e (last_of j (omega (arith, f.0, many)) f.2 (λ p. f.1))

pub returns : goal.returns
returns c =
    let a = c.args.levels.now in
    let i : ℕ = c.args.i in
    last_found a i c.args.count (omega arith) (omega arith) c.position-more.result _
    (IsFirst-from_position _ _ _ (λ x. x ≡ level_of a i → ⊥) (λ x. x ≡ level_of a i) c.position-more.ensures.ran (YieldsList-from_slice _ c.iter.ensures.rest) (λ x q k. search (rules, tests)) (λ x q k. search (rules, tests)))
    c.unwrap_or.ensures
