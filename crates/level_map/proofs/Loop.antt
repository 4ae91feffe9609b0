-- The invariant of the loop that cuts off groups, and the answer at each of its exits, for any test of groups.
use Prim.Native.Nat.{ℕ, zero, suc, ◌-◌, ◌≤◌, ◌<◌}
use mathlib.Core.Path.{◌≡◌, refl, sym, ◌∙◌, ap}
use mathlib.Core.Bool.{Bool}
use mathlib.Core.Option.{Option, none, some, map, none-ne-some}
use mathlib.Core.List.{List, [], ◌∷◌, ◌++◌, append_assoc, append-nil}
use mathlib.Core.Logic.{⊎_elim}
use native.Mathlib.Omega.{arith}
use lib.ListN.{length, length-append}
use Rattle.std.proofs.Common.{Some, None}
use Rattle.level_map.specs.Map.{maps, first_of}
use Rattle.level_map.specs.Groups.{LeastStart}
use Rattle.level_map.specs.Cuts.{CutsOf}
use Rattle.level_map.proofs.Search.{onto, scan, greedy, Passes, scan_none, scan_some, greedy_zero}
use Rattle.level_map.proofs.Exact.{GroupTest, exact_cases}

-- cuts that are found, behind those that are made
abbrev pub behind : List ℕ → Option (List ℕ) → Option (List ℕ)
behind made x = map (λ s. made ++ s) x

past_none : (x : Option (List ℕ)) → x ≡ behind [] x
past_none none = refl
past_none (some s) = refl

past_onto : (made : List ℕ) (a : ℕ) (x : Option (List ℕ)) → behind made (onto a x) ≡ behind (made ++ (a ∷ [])) x
past_onto made a none = refl
past_onto made a (some s) = ap some (sym (append_assoc made (a ∷ []) s))

-- one group of the search
module _ (ok : ℕ → ℕ → ℕ → Bool) where
  greedy_full : (e : ℕ) → 0 < e → greedy ok 0 e ≡ none
  unfolding greedy
  greedy_full zero h = absurd (omega arith)
  greedy_full (suc e) h = refl

  greedy_stop : (k e : ℕ) → 0 < k → 0 < e → scan ok e 0 e ≡ none → greedy ok k e ≡ none
  unfolding greedy
  greedy_stop zero e h l p = absurd (omega arith)
  greedy_stop (suc k) zero h l p = absurd (omega arith)
  greedy_stop (suc k) (suc e) h l p = rw p

  greedy_next : (k e a : ℕ) → 0 < k → 0 < e → scan ok e 0 e ≡ some a → greedy ok k e ≡ onto a (greedy ok (k - 1) a)
  unfolding greedy
  greedy_next zero e a h l p = absurd (omega arith)
  greedy_next (suc k) zero a h l p = absurd (omega arith)
  greedy_next (suc k) (suc e) a h l p =
      let q : suc k - 1 ≡ k = omega arith in
      rw (p, q)

-- The groups that start at `cuts` are cut off, down to `end`, and what is left of the search gives the cuts of the whole.
abbrev pub Reached : (ℕ → ℕ → ℕ → Bool) → ℕ → ℕ → List ℕ → ℕ → Type 0
Reached ok most n cuts end = greedy ok most n ≡ behind cuts (greedy ok (most - length cuts) end)

module _ {n : ℕ} (t : GroupTest n) (most : ℕ) (cuts : List ℕ) where
  -- no cuts, no map
  no_cuts : greedy t.ok most n ≡ none → first_of t.test (maps most n) ≡ none
  no_cuts p =
      ⊎_elim
      (λ r. absurd (none-ne-some _ (sym p ∙ r.1)))
      (λ r. r.1)
      (exact_cases t most)

  module _ (end : ℕ) (reached : Reached t.ok most n cuts end) where
    pub reached_next : (a : ℕ) → length cuts < most → 0 < end → LeastStart (λ b. Passes t.ok b end) end (Some a)
        → Reached t.ok most n (cuts ++ a ∷ []) a
    reached_next a h l s =
        let q : most - length (cuts ++ a ∷ []) ≡ most - length cuts - 1 = omega (arith, length-append cuts (a ∷ [])) in
        reached
        ∙ ap (behind cuts) (greedy_next t.ok (most - length cuts) end a (omega arith) l (scan_some t.ok end a s.0 s.1 s.2))
        ∙ past_onto cuts a (greedy t.ok (most - length cuts - 1) a)
        ∙ rw q

    -- no level is left
    pub reached_full : most ≤ length cuts → 0 < end → first_of t.test (maps most n) ≡ none
    reached_full h l =
        let q : most - length cuts ≡ 0 = omega arith in
        no_cuts (reached ∙ rw (q, greedy_full t.ok end l))

    -- no group passes
    pub reached_stop : length cuts < most → 0 < end → LeastStart (λ b. Passes t.ok b end) end None
        → first_of t.test (maps most n) ≡ none
    reached_stop h l s =
        no_cuts (reached ∙ rw (greedy_stop t.ok (most - length cuts) end (omega arith) l (scan_none t.ok end s)))

    -- no entry is left
    pub reached_end : end ≤ 0 → CutsOf (first_of t.test (maps most n)) n most cuts
    reached_end h =
        let q : end ≡ 0 = omega arith in
        let found : greedy t.ok most n ≡ some cuts =
        reached ∙ rw (q, greedy_zero t.ok (most - length cuts), append-nil cuts) in
        ⊎_elim
        (λ r. let e : r.0 ≡ cuts = cc r.1 in rw e at r.2)
        (λ r. absurd (none-ne-some _ (sym r.0 ∙ found)))
        (exact_cases t most)
