-- The search answers with the map that `Chosen` defines, for any test of an entry in its group.
use Prim.Native.Nat.{ℕ, zero, suc, ◌+◌, ◌-◌, ◌≤◌, ◌<◌, zero-le}
use mathlib.Core.Path.{◌≡◌, sym, ◌∙◌, ap}
use mathlib.Core.Bool.{Bool, true}
use mathlib.Core.Option.{none, some, none-ne-some}
use mathlib.Core.List.{List, [], ◌∷◌}
use mathlib.Core.Logic.{◌⊎◌, inl, inr, by_cases, ◌↔◌}
use native.Mathlib.Omega.{arith}
use native.Mathlib.Decide.{dec_lt, dec_le, ℕ_discrete}
use lib.ListN.{length, get_or}
use lib.Dec.{ltb}
use borrow.Author.Tests.{ltb-true, ltb-false}
use Rattle.level_map.specs.Assignments.{level_of, Assignment, size_of, levels_used}
use Rattle.level_map.specs.Map.{IsMap, Longer, Chosen}
use Rattle.level_map.specs.Cuts.{Falling, levels_of_cuts}
use Rattle.level_map.proofs.Tests.{by-test}
use Rattle.level_map.proofs.Search.{group_ok, greedy, group_each, group_of, Cuts, greedy_cases, greedy_more, Leads, leads}
use Rattle.level_map.specs.Cuts.{before}
use Rattle.level_map.proofs.Levels.{above, Rising, before_suc, above_before, before_zero, before_length, rising_wider, before_none, before_all, own_low, own_high, own_level, same_before, used_levels, used_le, starts, length-starts, starts_map, assignment_rising, rising_assignment}
use Rattle.level_map.proofs.Maps.{Full, full_used, full_map, map_full}
use Rattle.level_map.proofs.Cutting.{rising_levels, before_low, before_top, before_levels, full_cuts}

-- How many entries the k least urgent groups of a map hold together.
abbrev pub least_urgent : ℕ → List ℕ → ℕ
least_urgent k m = above (levels_used m - k) m

module _ (ok : ℕ → ℕ → ℕ → Bool) where
  -- Every entry is on time in its group: the entries of its level, after those of the more urgent levels.
  abbrev pub InTime : ℕ → List ℕ → Type 0
  InTime n a = (i : ℕ) → i < n → ok i (before (level_of a i) a) (before (suc (level_of a i)) a) ≡ true

  group_at : {a a' e e' : ℕ} → a ≡ a' → e ≡ e' → group_ok ok a' e' ≡ true → group_ok ok a e ≡ true
  group_at p q t = rw (p, q) t

  group_empty : (a e : ℕ) → e ≤ a → group_ok ok a e ≡ true
  group_empty a e h = group_of ok a e (λ j lo hi. absurd (omega arith))

  -- every group passes: the same as that every entry is on time
  abbrev Groups : List ℕ → Type 0
  Groups a = (l : ℕ) → group_ok ok (before l a) (before (suc l) a) ≡ true

  groups_of : (L n : ℕ) (a : List ℕ) → length a ≡ n → Rising 1 L a → InTime n a → Groups a
  groups_of L n a e r t l =
      group_of ok (before l a) (before (suc l) a)
      (λ j lo hi.
      let o = own_level 1 L l a j r lo hi in
      rw o at (t j (omega (arith, before_length (suc l) a))))

  in_time-of : (L n : ℕ) (a : List ℕ) → length a ≡ n → Rising 1 L a → Groups a → InTime n a
  in_time-of L n a e r g i h =
      group_each ok (before (level_of a i) a) (before (suc (level_of a i)) a) (g (level_of a i)) i
      (own_low 1 L a i r) (own_high 1 L a i r (omega arith))

  -- the cuts of an assignment
  starts_cuts : (hi : ℕ) (a : List ℕ) → Rising 1 hi a → Groups a → (l : ℕ) → Cuts ok (starts a l) (before (suc l) a)
  starts_cuts hi a r g zero = before_none 1 hi 1 a r (omega arith)
  starts_cuts hi a r g (suc l) =
      by-test (ltb 0 (size_of (suc l) a))
      (λ q. rw q (omega (arith, ltb-true 0 (size_of (suc l) a) q, before_suc (suc l) a), g (suc l), starts_cuts hi a r g l))
      (λ q.
      let e : before (suc (suc l)) a ≡ before (suc l) a = omega (arith, ltb-false 0 (size_of (suc l) a) q, before_suc (suc l) a) in
      rw (q, e) (starts_cuts hi a r g l))

  cuts_of : (hi n : ℕ) (a : List ℕ) → Assignment n hi a → InTime n a → Cuts ok (starts a hi) n
  cuts_of hi n a s t =
      let r = assignment_rising s in
      let e : before (suc hi) a ≡ n = before_all 1 hi (suc hi) a r (omega arith) ∙ s.each in
      rw e at (starts_cuts hi a r (groups_of hi n a s.each r t) hi)

  falling : (s : List ℕ) (e : ℕ) → Cuts ok s e → Falling s e
  falling [] e c = c
  falling (a ∷ s) e c = (c.0, falling s a c.2)

  -- the groups of cuts
  groups_levels : (s : List ℕ) (e : ℕ) → Cuts ok s e → Groups (levels_of_cuts s e)
  groups_levels [] e c l = group_empty 0 0 (omega arith)
  groups_levels (a ∷ s) e c l =
      by_cases (dec_le l (length s))
      (λ y. group_at (before_low a e s l (omega arith)) (before_low a e s (suc l) (omega arith)) (groups_levels s a c.2 l))
      (λ z. by_cases (ℕ_discrete l (suc (length s)))
      (λ y.
      group_at
      (before_low a e s l (omega arith) ∙ before_top s a l (falling s a c.2) (omega arith))
      (before_top (a ∷ s) e (suc l) (falling (a ∷ s) e c) (omega arith))
      c.1)
      (λ z'.
      group_empty _ _
      (omega (arith, before_top (a ∷ s) e (suc l) (falling (a ∷ s) e c) (omega arith), before_top (a ∷ s) e l (falling (a ∷ s) e c) (omega arith)))))

-- where two lists of levels first differ, from the least urgent level upward
differ : (g m : List ℕ) → ((l : ℕ) → before l g ≤ before l m)
    → (l : ℕ) → ((j : ℕ) → l ≤ j → before j g ≡ before j m)
    → ((j : ℕ) → before j g ≡ before j m) ⊎ ((x : ℕ) × (before x g < before x m) × ((j : ℕ) → x < j → before j g ≡ before j m))
differ g m le zero h = inl (λ j. h j zero-le)
differ g m le (suc l) h =
    by_cases (ℕ_discrete (before l g) (before l m))
    (λ y. differ g m le l (λ j k. by_cases (ℕ_discrete l j) (λ e. rw (← e) y) (λ z. h j (omega arith))))
    (λ z. inr (l, omega (arith, le l), h))

before_shift : (hi : ℕ) (a : List ℕ) → Rising 1 hi a → (c j : ℕ) → before (suc (c - suc j)) a ≡ before (c - j) a
before_shift hi a r c j =
    by_cases (dec_lt j c)
    (λ y. let e : suc (c - suc j) ≡ c - j = omega arith in rw e)
    (λ z.
    let e : c - suc j ≡ 0 = omega arith in
    let e' : c - j ≡ 0 = omega arith in
    rw (e, e') (before_none 1 hi 1 a r (omega arith) ∙ sym (before_zero a)))

-- What holds of the best map: it is the choice, an assignment, no passing assignment uses fewer levels, and its k least
-- urgent groups hold at least as many entries as those of any passing map.
pub record Best (Passes : List ℕ → Type 0) (most n : ℕ) (g : List ℕ) : Type 0 where
  pub chosen : Chosen Passes most n g
  pub assignment : Assignment n most g
  pub fewest : (a : List ℕ) → Assignment n most a → Passes a → levels_used g ≤ levels_used a
  pub holding : (m : List ℕ) → IsMap n m → Passes m → (k : ℕ) → least_urgent k m ≤ least_urgent k g

-- What passes is what is on time in its groups, and an entry that is on time stays so when its group loses entries at
-- its end.
module _ (ok : ℕ → ℕ → ℕ → Bool) (n : ℕ)
    (shrink : (i a e e' : ℕ) → a ≤ i → i < e' → e' ≤ e → e ≤ n → ok i a e ≡ true → ok i a e' ≡ true)
    (Passes : List ℕ → Type 0) (grouped : (hi : ℕ) (a : List ℕ) → Assignment n hi a → Passes a ↔ InTime ok n a) where
  lead_of : (hi : ℕ) (a : List ℕ) → Assignment n hi a → Passes a → (L : ℕ) → hi ≤ L → Leads ok (starts a hi) L n
  lead_of hi a s t L h =
      leads ok n shrink (starts a hi) L n n (cuts_of ok hi n a s ((grouped hi a s).0 t)) (omega arith) (omega arith)
      (omega (arith, length-starts a hi, used_le hi a))

  -- where the search finds nothing, no assignment passes
  pub none_passes : (L : ℕ) → greedy ok L n ≡ none → (a : List ℕ) → Assignment n L a → Passes a → ⊥
  none_passes L q a s t =
      let l = lead_of L a s t L (omega arith) in
      none-ne-some l.0 (sym q ∙ l.1)

  module _ (L : ℕ) (s : List ℕ) (q : greedy ok L n ≡ some s) (c : Cuts ok s n) (h : length s ≤ L) where
    abbrev g : List ℕ
    g = levels_of_cuts s n

    g_falls : Falling s n
    g_falls = falling ok s n c

    g_rising : Rising 1 (length s) g
    g_rising = rising_levels s n

    g_map : Full (length s) n g
    g_map = full_cuts s n g_falls

    g_long : length g ≡ n
    g_long = g_map.assignment.each

    g_used : levels_used g ≡ length s
    g_used = full_used g_map

    -- the answer has no more groups than any passing list of levels, and they start no later
    few : (hi : ℕ) (a : List ℕ) → Assignment n hi a → Passes a
        → (length s ≤ levels_used a) × ((j : ℕ) → get_or s j 0 ≤ get_or (starts a hi) j 0)
    few hi a r t =
        let d = lead_of hi a r t (L + hi) (omega arith) in
        let p = greedy_more ok L (L + hi) n s q (omega arith) in
        let e : d.0 ≡ s = cc d.1 in (
          omega (arith, d.3, length-starts a hi, used_levels 1 hi a (omega arith) (assignment_rising r), ap length e),
          (rw e at d.4),
        )

    lead : (k : ℕ) (m : List ℕ) → Full k n m → Passes m → (j : ℕ) → before (length s - j) g ≤ before (k - j) m
    lead k m i t j =
        omega (arith, before_levels s n g_falls j, (few k m i.assignment t).1 j, starts_map k m i.full k (omega arith) j)

    lead_all : (m : List ℕ) → Full (length s) n m → Passes m → (l : ℕ) → before l g ≤ before l m
    lead_all m i t l =
        by_cases (dec_le l (length s))
        (λ y.
        let e : length s - (length s - l) ≡ l = omega arith in
        rw e at (lead (length s) m i t (length s - l)))
        (λ z.
        omega (
          arith,
          before_top s n l g_falls (omega arith),
          before_all 1 (length s) l m (assignment_rising i.assignment) (omega arith),
          i.assignment.each,
        ))

    longest : (m : List ℕ) → Full (length s) n m → Passes m → (m ≡ g) ⊎ Longer m g
    longest m i t =
        let r = assignment_rising i.assignment in
        let e = i.assignment.each in
        elim (differ g m (lead_all m i t) (suc (length s))
        (λ j y. before_top s n j g_falls y ∙ sym (before_all 1 (length s) j m r y ∙ e))) [
          | inl f ↦ inl (sym (same_before (length s) (length s) g m g_rising r (g_long ∙ sym e) f))
          | inr r ↦ inr (
            r.0,
            omega (arith, before_suc r.0 m, before_suc r.0 g, r.2 (suc r.0) (omega arith)),
            λ j y. omega (arith, before_suc j m, before_suc j g, r.2 j y, r.2 (suc j) (omega arith)),
          )
        ]

    holding : (k : ℕ) (m : List ℕ) → Full k n m → Passes m → (j : ℕ) → above (k - j) m ≤ above (length s - j) g
    holding k m i t zero =
        omega (
          arith,
          above_before (k - 0) m,
          before_all 1 k (suc (k - 0)) m (assignment_rising i.assignment) (omega arith),
        )
    holding k m i t (suc j) =
        omega (
          arith,
          above_before (k - suc j) m,
          above_before (length s - suc j) g,
          i.assignment.each,
          g_long,
          before_shift k m (assignment_rising i.assignment) k j,
          before_shift (length s) g g_rising (length s) j,
          lead k m i t j,
        )

    best : Best Passes L n g
    best =
        record {
          chosen =
              record {
                is_map = full_map g_map;
                passes = (grouped (length s) g g_map.assignment).1
                    (in_time-of ok (length s) n g g_long g_rising (groups_levels ok s n c));
                within = omega (arith, g_used);
                fewest = λ a i t l. omega (arith, g_used, (few (levels_used a) a (map_full i).assignment t).0);
                longest = λ a i t e. longest a (rw (e ∙ g_used) at (map_full i)) t;
              };
          assignment =
              rising_assignment n L g g_long (rising_wider 1 (length s) 1 L g (omega arith) h g_rising);
          fewest = λ a r t. omega (arith, g_used, (few L a r t).0);
          holding = λ m i t k. rw g_used (holding (levels_used m) m (map_full i) t k);
        }

  -- The search's answer: the levels of the cuts that it finds are the best map, and where it finds none, no assignment
  -- passes.
  pub search_best : (L : ℕ)
      → ((s : List ℕ) × (greedy ok L n ≡ some s) × Falling s n × (length s ≤ L) × (levels_used (levels_of_cuts s n) ≡ length s)
      × Best Passes L n (levels_of_cuts s n))
      ⊎ ((greedy ok L n ≡ none) × ((a : List ℕ) → Assignment n L a → Passes a → ⊥))
  search_best L =
      elim (greedy_cases ok L n) [
        | inl r ↦ inl (
          r.0,
          r.1,
          falling ok r.0 n r.2,
          r.3,
          g_used L r.0 r.1 r.2 r.3,
          best L r.0 r.1 r.2 r.3,
        )
        | inr r ↦ inr (r, none_passes L r)
      ]

clash : (m g : List ℕ) → Longer m g → Longer g m → ⊥
clash m g p r =
    by_cases (dec_lt p.0 r.0)
    (λ lt. omega (arith, p.2 r.0 lt))
    (λ ge. by_cases (dec_lt r.0 p.0)
    (λ lt. omega (arith, r.2 p.0 lt))
    (λ ge'. let z : p.0 ≡ r.0 = omega arith in omega (arith, rw z at p.1)))

preferred : (m g : List ℕ) → (m ≡ g) ⊎ Longer m g → (g ≡ m) ⊎ Longer g m → m ≡ g
preferred m g (inl p) r = p
preferred m g (inr p) (inl r) = sym r
preferred m g (inr p) (inr r) = absurd (clash m g p r)

-- There is one choice, whatever passes.
pub unique : (Passes : List ℕ → Type 0) (most n : ℕ) (g m : List ℕ) → Chosen Passes most n g → Chosen Passes most n m → m ≡ g
unique P L n g m x y =
    let l : levels_used g ≤ levels_used m = x.fewest m y.is_map y.passes y.within in
    let r : levels_used m ≤ levels_used g = y.fewest g x.is_map x.passes x.within in
    preferred m g (x.longest m y.is_map y.passes (omega arith)) (y.longest g x.is_map x.passes (omega arith))
