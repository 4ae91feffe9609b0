-- Every map is listed, and nothing else is.
use Prim.Native.Nat.{ℕ, zero, suc, ◌-◌, ◌≤◌}
use mathlib.Core.Path.{◌≡◌, refl}
use mathlib.Core.List.Memᴰ
use mathlib.Core.List.{
  List,
  [],
  ◌∷◌,
  ◌++◌,
  map,
  Memᴰ,
}
use mathlib.Core.Logic.{◌↔◌, by_cases, ⊎_elim}
use native.Mathlib.Omega.{arith}
use native.Mathlib.Decide.{dec_le, ℕ_discrete}
use lib.ListN.{replicate}
use Rattle.level_map.specs.Assignments.{size_of, levels_used}
use Rattle.level_map.specs.Map.{IsMap, from_longest, maps_with, maps}
use Rattle.level_map.proofs.Maps.{Full, full_empty, full_used, full_map, map_full}
use Rattle.level_map.proofs.LastGroup.{joined_full, full_apart, full_none}

module _ (f : List ℕ → List ℕ) where
  in_map : (b : List ℕ) (xs : List (List ℕ)) → Memᴰ b xs → Memᴰ (f b) (map f xs)
  in_map b [] h = absurd (Memᴰ.not-nil h)
  in_map b (x ∷ xs) h =
      ⊎_elim
      (λ e. Memᴰ.head (rw e))
      (λ t. Memᴰ.tail (in_map b xs t))
      (Memᴰ.cases_cons h)

  of_map : (m : List ℕ) (xs : List (List ℕ)) → Memᴰ m (map f xs) → (b : List ℕ) × (m ≡ f b) × Memᴰ b xs
  of_map m [] h = absurd (Memᴰ.not-nil h)
  of_map m (x ∷ xs) h =
      ⊎_elim
      (λ e. (x, e, Memᴰ.head refl))
      (λ t. let r = of_map m xs t in (r.0, r.1, Memᴰ.tail r.2))
      (Memᴰ.cases_cons h)

module _ (f : ℕ → List (List ℕ)) (m : List ℕ) where
  in_longest : (k s : ℕ) → 1 ≤ s → s ≤ k → Memᴰ m (f s) → Memᴰ m (from_longest k f)
  unfolding from_longest
  in_longest zero s l u h = absurd (omega arith)
  in_longest (suc k) s l u h =
      by_cases (ℕ_discrete s (suc k))
      (λ e. Memᴰ.append_left (from_longest k f) (rw e at h))
      (λ z. Memᴰ.append_right (f (suc k)) (in_longest k s l (omega arith) h))

  of_longest : (k : ℕ) → Memᴰ m (from_longest k f) → (s : ℕ) × (1 ≤ s) × (s ≤ k) × Memᴰ m (f s)
  unfolding from_longest
  of_longest zero h = absurd (Memᴰ.not-nil h)
  of_longest (suc k) h =
      ⊎_elim
      (λ t. (suc k, omega arith, omega arith, t))
      (λ t. let r = of_longest k t in (r.0, r.1, omega arith, r.3))
      (Memᴰ.append_cases (f (suc k)) h)

full_listed : (c n : ℕ) (m : List ℕ) → Full c n m → Memᴰ m (maps_with c n)
unfolding maps_with
full_listed zero zero m i = Memᴰ.head (full_none 0 m i).1
full_listed zero (suc n) m i = absurd (omega (arith, (full_none (suc n) m i).0))
full_listed (suc c) n m i =
    let t = full_apart c n m i in
    let s = size_of (suc c) m in
    in_longest _ m n s t.3 t.4
    (Memᴰ.cast t.1 (in_map (λ b. b ++ replicate s (suc c)) t.0 (maps_with c (n - s)) (full_listed c (n - s) t.0 t.2)))

listed_full : (c n : ℕ) (m : List ℕ) → Memᴰ m (maps_with c n) → Full c n m
unfolding maps_with
listed_full zero zero m h =
    rw (Memᴰ.eq_of_singleton h) (full_empty 0 refl)
listed_full zero (suc n) m h = absurd (Memᴰ.not-nil h)
listed_full (suc c) n m h =
    let r = of_longest _ m n h in
    let t = of_map (λ b. b ++ replicate r.0 (suc c)) m (maps_with c (n - r.0)) r.3 in
    rw t.1 (joined_full c n r.0 r.1 r.2 t.0 (listed_full c (n - r.0) t.0 t.2))

few_listed : (most n c : ℕ) (m : List ℕ) → c ≤ most → Full c n m → Memᴰ m (maps most n)
unfolding maps
few_listed zero n c m h i = let e : c ≡ 0 = omega arith in full_listed 0 n m (rw e at i)
few_listed (suc most) n c m h i =
    by_cases (dec_le c most)
    (λ y. Memᴰ.append_left (maps_with (suc most) n) (few_listed most n c m y i))
    (λ z.
    let e : c ≡ suc most = omega arith in
    Memᴰ.append_right (maps most n) (full_listed (suc most) n m (rw e at i)))

listed_few : (most n : ℕ) (m : List ℕ) → Memᴰ m (maps most n) → (c : ℕ) × (c ≤ most) × Full c n m
unfolding maps
listed_few zero n m h = (0, omega arith, listed_full 0 n m h)
listed_few (suc most) n m h =
    ⊎_elim
    (λ t. let r = listed_few most n m t in (r.0, omega arith, r.2))
    (λ t. (suc most, omega arith, listed_full (suc most) n m t))
    (Memᴰ.append_cases (maps most n) h)

-- What is listed is what is a map of n entries with at most `most` levels.
pub listed : (most n : ℕ) (m : List ℕ) → Memᴰ m (maps most n) ↔ (IsMap n m × (levels_used m ≤ most))
listed most n m = (
  λ h. let r = listed_few most n m h in (full_map r.2, omega (arith, full_used r.2)),
  λ h. few_listed most n (levels_used m) m h.1 (map_full h.0),
)
