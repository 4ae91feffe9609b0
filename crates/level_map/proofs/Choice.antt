-- The computed choice: the maps are listed in order of preference, so the first that passes is the chosen one.
use Prim.Native.Nat.{ℕ, zero, suc, ◌-◌, ◌≤◌, ◌<◌}
use mathlib.Core.Path.{◌≡◌, refl, sym, ◌∙◌, ap}
use mathlib.Core.Bool.{Bool, true, false}
use mathlib.Core.Option
use mathlib.Core.Option.{none, some}
use mathlib.Core.List.{List, [], ◌∷◌, ◌++◌, map}
use mathlib.Core.Logic.{◌⊎◌, inl, inr, by_cases}
use native.Mathlib.Omega.{arith}
use native.Mathlib.Decide.{dec_lt, dec_le, ℕ_discrete}
use lib.ListN.{replicate, take}
use lib.Seq.{take_at}
use Rattle.level_map.specs.Assignments.{Assignment, size_of, levels_used}
use Rattle.level_map.specs.Map.{Longer, Chosen, from_longest, maps_with, maps, first_of}
use Rattle.level_map.proofs.Tests.{by-test}
use Rattle.level_map.proofs.LastGroup.{size_append, size_above, size_last, joined_full, full_apart, full_none}
use Rattle.level_map.proofs.Maps.{Full, full_empty, full_used, full_map, map_full}
use Rattle.level_map.proofs.Levels.{assignment_rising}

-- the first of a list that passes
first_right : (p : List ℕ → Bool) (xs ys : List (List ℕ)) → first_of p xs ≡ none → first_of p (xs ++ ys) ≡ first_of p ys
unfolding first_of
first_right p [] ys h = refl
first_right p (x ∷ xs) ys h =
    by-test (p x)
    (λ q. let z : some x ≡ none = rw (q, first_of) at h in let k : ◌≡◌ {A = ℕ} 0 1 = cc in absurd (omega arith))
    (λ q. rw (q, first_of) (first_right p xs ys (rw (q, first_of) at h)))

pub first_left : (p : List ℕ → Bool) (xs ys : List (List ℕ)) (a : List ℕ) → first_of p xs ≡ some a → first_of p (xs ++ ys) ≡ some a
unfolding first_of
first_left p [] ys a h = let k : ◌≡◌ {A = ℕ} 0 1 = cc in absurd (omega arith)
first_left p (x ∷ xs) ys a h =
    by-test (p x)
    (λ q. rw (q, first_of) (rw (q, first_of) at h))
    (λ q. rw (q, first_of) (first_left p xs ys a (rw (q, first_of) at h)))

first_map : (p : List ℕ → Bool) (f : List ℕ → List ℕ) (xs : List (List ℕ))
    → first_of p (map f xs) ≡ Option.map f (first_of (λ m. p (f m)) xs)
unfolding first_of
first_map p f [] = refl
first_map p f (x ∷ xs) =
    by-test (p (f x))
    (λ q. rw (q, first_of))
    (λ q. rw (q, first_of) (first_map p f xs))

module _ (p : List ℕ → Bool) (f : ℕ → List (List ℕ)) where
  longest_none : (k : ℕ) → ((s : ℕ) → 1 ≤ s → s ≤ k → first_of p (f s) ≡ none) → first_of p (from_longest k f) ≡ none
  unfolding from_longest first_of
  longest_none zero h = refl
  longest_none (suc k) h =
      first_right p (f (suc k)) (from_longest k f) (h (suc k) (omega arith) (omega arith))
      ∙ longest_none k (λ s l u. h s l (omega arith))

  longest_at : (k s : ℕ) (a : List ℕ) → 1 ≤ s → s ≤ k → first_of p (f s) ≡ some a
      → ((r : ℕ) → s < r → r ≤ k → first_of p (f r) ≡ none) → first_of p (from_longest k f) ≡ some a
  unfolding from_longest
  longest_at zero s a l u q h = absurd (omega arith)
  longest_at (suc k) s a l u q h =
      by_cases (ℕ_discrete s (suc k))
      (λ e. first_left p (f (suc k)) (from_longest k f) a (rw e at q))
      (λ z.
      first_right p (f (suc k)) (from_longest k f) (h (suc k) (omega arith) (omega arith))
      ∙ longest_at k s a l (omega arith) q (λ r lo hi. h r lo (omega arith)))

-- of maps with the same last group, the rest decides
same_last : (c n s : ℕ) (m b a : List ℕ) → Assignment (n - s) c m → Assignment (n - s) c b → a ≡ b ++ replicate s (suc c)
    → (m ++ replicate s (suc c) ≡ a) ⊎ Longer (m ++ replicate s (suc c)) a
    → (m ≡ b) ⊎ Longer m b
same_last c n s m b a x y q (inl e) =
    inl (sym (take_at m (replicate s (suc c)) (n - s) x.each)
    ∙ ap (take (n - s)) (e ∙ q)
    ∙ take_at b (replicate s (suc c)) (n - s) y.each)
same_last c n s m b a x y q (inr l) =
    let u = replicate s (suc c) in
    inr (
      l.0,
      omega (arith, l.1, size_append l.0 m u, size_append l.0 b u, ap (size_of l.0) q),
      λ j h. omega (arith, l.2 j h, size_append j m u, size_append j b u, ap (size_of j) q),
    )

-- a map whose last group is longer is preferred
longer_last : (c n : ℕ) (a m : List ℕ) → Full (suc c) n a → size_of (suc c) a < size_of (suc c) m → (m ≡ a) ⊎ Longer m a → ⊥
longer_last c n a m i h (inl e) = omega (arith, ap (size_of (suc c)) e)
longer_last c n a m i h (inr l) =
    by_cases (dec_lt l.0 (suc c))
    (λ y. omega (arith, l.2 (suc c) y))
    (λ z. by_cases (ℕ_discrete l.0 (suc c))
    (λ e. omega (arith, rw e at l.1))
    (λ z'. omega (arith, l.1, size_above 1 (suc c) l.0 a (assignment_rising i.assignment) (omega arith))))

-- where no map with c levels passes, none is found
maps_fail : (c n : ℕ) (p : List ℕ → Bool) → ((m : List ℕ) → Full c n m → p m ≡ false) → first_of p (maps_with c n) ≡ none
unfolding maps_with first_of
maps_fail zero zero p h =
    rw (h [] (full_empty 0 refl), first_of)
maps_fail zero (suc n) p h = refl
maps_fail (suc c) n p h =
    longest_none p _ n
    (λ s l u.
    first_map p (λ m. m ++ replicate s (suc c)) (maps_with c (n - s))
    ∙ ap (Option.map (λ m. m ++ replicate s (suc c)))
    (maps_fail c (n - s) (λ m. p (m ++ replicate s (suc c))) (λ m i. h (m ++ replicate s (suc c)) (joined_full c n s l u m i))))

-- a map that is preferred to every other that passes is the first
maps_first : (c n : ℕ) (p : List ℕ → Bool) (a : List ℕ) → Full c n a → p a ≡ true
    → ((m : List ℕ) → Full c n m → p m ≡ true → (m ≡ a) ⊎ Longer m a) → first_of p (maps_with c n) ≡ some a
unfolding maps_with first_of
maps_first zero n p a i q h =
    let t = full_none n a i in
    rw (t.0, t.1) (rw (rw t.1 at q, first_of))
maps_first (suc c) n p a i q h =
    let t = full_apart c n a i in
    let s = size_of (suc c) a in
    let b = t.0 in
    longest_at p _ n s a t.3 t.4
    (first_map p (λ m. m ++ replicate s (suc c)) (maps_with c (n - s))
    ∙ ap (Option.map (λ m. m ++ replicate s (suc c)))
    (maps_first c (n - s) (λ m. p (m ++ replicate s (suc c))) b t.2 (sym (ap p t.1) ∙ q)
    (λ m k o.
    same_last c n s m b a k.assignment t.2.assignment t.1
    (h (m ++ replicate s (suc c)) (joined_full c n s t.3 t.4 m k) o)))
    ∙ ap some (sym t.1))
    (λ r lo hi.
    first_map p (λ m. m ++ replicate r (suc c)) (maps_with c (n - r))
    ∙ ap (Option.map (λ m. m ++ replicate r (suc c)))
    (maps_fail c (n - r) (λ m. p (m ++ replicate r (suc c)))
    (λ m k.
    by-test (p (m ++ replicate r (suc c)))
    (λ o.
    absurd (longer_last c n a (m ++ replicate r (suc c)) i
    (omega (arith, size_last c n r (omega arith) hi m k))
    (h (m ++ replicate r (suc c)) (joined_full c n r (omega arith) hi m k) o)))
    (λ o. o))))

module _ (p : List ℕ → Bool) (n : ℕ) where
  -- where no map passes, none is found
  pub choice_none : (most : ℕ) → ((c : ℕ) (m : List ℕ) → Full c n m → c ≤ most → p m ≡ false) → first_of p (maps most n) ≡ none
  unfolding maps
  choice_none zero h = maps_fail 0 n p (λ m i. h 0 m i (omega arith))
  choice_none (suc most) h =
      first_right p (maps most n) (maps_with (suc most) n) (choice_none most (λ c m i l. h c m i (omega arith)))
      ∙ maps_fail (suc most) n p (λ m i. h (suc most) m i (omega arith))

  -- a map with the fewest levels that is preferred to every other is the first
  choice_at : (most c : ℕ) (g : List ℕ) → c ≤ most → Full c n g → p g ≡ true
      → ((k : ℕ) (m : List ℕ) → Full k n m → k < c → p m ≡ false)
      → ((m : List ℕ) → Full c n m → p m ≡ true → (m ≡ g) ⊎ Longer m g) → first_of p (maps most n) ≡ some g
  unfolding maps
  choice_at zero c g l i q few long =
      let e : c ≡ 0 = omega arith in
      maps_first 0 n p g (rw e at i) q (rw e at long)
  choice_at (suc most) c g l i q few long =
      by_cases (dec_le c most)
      (λ y. first_left p (maps most n) (maps_with (suc most) n) g (choice_at most c g y i q few long))
      (λ z.
      let e : c ≡ suc most = omega arith in
      first_right p (maps most n) (maps_with (suc most) n) (choice_none most (λ k m j h. few k m j (omega arith)))
      ∙ maps_first (suc most) n p g (rw e at i) q (rw e at long))

  -- the choice is the first of the maps, in order of preference, that passes
  pub choice_first : (most : ℕ) (g : List ℕ) → Chosen (λ m. p m ≡ true) most n g → first_of p (maps most n) ≡ some g
  choice_first most g x =
      choice_at most (levels_used g) g x.within (map_full x.is_map) x.passes
      (λ k m i h.
      let e = full_used i in
      by-test (p m) (λ q. absurd (omega (arith, x.fewest m (full_map i) q (omega (arith, x.within))))) (λ q. q))
      (λ m i q. x.longest m (full_map i) q (full_used i))
