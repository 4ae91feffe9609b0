-- The search, for any test `ok i a e` of the entry at i in the group from position a to just before e: what it finds, and
-- that no list of passing groups is ahead of it.
use Prim.Native.Nat.{ℕ, zero, suc, ◌+◌, ◌-◌, ◌≤◌, ◌<◌, zero-le}
use mathlib.Core.Path.{◌≡◌, refl, sym, ◌∙◌}
use mathlib.Core.Bool.{Bool, true, false, true≢false, false≢true}
use mathlib.Core.Option.{Option, none, some, none-ne-some}
use mathlib.Core.List.{List, [], ◌∷◌}
use mathlib.Core.Logic.{◌⊎◌, inl, inr, by_cases}
use native.Mathlib.Omega.{arith}
use native.Mathlib.Decide.{dec_lt}
use lib.ListN.{length, get_or}
use Rattle.level_map.proofs.Tests.{by-test}

abbrev pub onto : ℕ → Option (List ℕ) → Option (List ℕ)
onto a none = none
onto a (some s) = some (a ∷ s)

abbrev pub and_then : Option ℕ → (ℕ → Option (List ℕ)) → Option (List ℕ)
and_then none f = none
and_then (some a) f = f a

module _ (ok : ℕ → ℕ → ℕ → Bool) where
  -- The entries from i on, `d` of them, are on time in the group from `a` up to `e`.
  unfoldable pub all_ok : ℕ → ℕ → ℕ → ℕ → Bool
  all_ok zero i a e = true
  all_ok (suc d) i a e = elim (ok i a e) [ true ↦ all_ok d (suc i) a e | false ↦ false ]

  -- The group from `a` up to `e` passes.
  unfoldable pub group_ok : ℕ → ℕ → Bool
  group_ok a e = all_ok (e - a) a a e

  -- The least start from `a` on, `d` of them, of a passing group that ends before `e`.
  unfoldable pub scan : ℕ → ℕ → ℕ → Option ℕ
  scan zero a e = none
  scan (suc d) a e = elim (group_ok a e) [ true ↦ some a | false ↦ scan d (suc a) e ]

  -- The starts of the groups, least urgent first, at most `k` of them: the least start, then again for what is left.
  unfoldable pub greedy : ℕ → ℕ → Option (List ℕ)
  greedy zero zero = some []
  greedy zero (suc e) = none
  greedy (suc k) zero = some []
  greedy (suc k) (suc e) = and_then (scan (suc e) zero (suc e)) (λ a. onto a (greedy k a))

  -- a group passes exactly if each of its entries is on time
  all_ok_each : (d i a e : ℕ) → all_ok d i a e ≡ true → (j : ℕ) → i ≤ j → j < i + d → ok j a e ≡ true
  unfolding all_ok
  all_ok_each zero i a e h j lo hi = absurd (omega arith)
  all_ok_each (suc d) i a e h j lo hi =
      by-test (ok i a e)
      (λ q. by_cases (dec_lt i j)
      (λ lt. all_ok_each d (suc i) a e (rw (q, all_ok) at h) j lt (omega arith))
      (λ ge. let s : i ≡ j = omega arith in rw (← s) q))
      (λ q. absurd (false≢true (rw (q, all_ok) at h)))

  all_ok_of : (d i a e : ℕ) → ((j : ℕ) → i ≤ j → j < i + d → ok j a e ≡ true) → all_ok d i a e ≡ true
  unfolding all_ok
  all_ok_of zero i a e h = refl
  all_ok_of (suc d) i a e h =
      rw (h i (omega arith) (omega arith), all_ok) (all_ok_of d (suc i) a e (λ j lo hi. h j (omega arith) (omega arith)))

  pub group_each : (a e : ℕ) → group_ok a e ≡ true → (j : ℕ) → a ≤ j → j < e → ok j a e ≡ true
  unfolding group_ok
  group_each a e h j lo hi = all_ok_each (e - a) a a e h j lo (omega arith)

  pub group_of : (a e : ℕ) → ((j : ℕ) → a ≤ j → j < e → ok j a e ≡ true) → group_ok a e ≡ true
  unfolding group_ok
  group_of a e h = all_ok_of (e - a) a a e (λ j lo hi. h j lo (omega arith))

  -- the scan finds a passing start at or before each passing start
  pub scan_least : (d a e b : ℕ) → a ≤ b → b < a + d → group_ok b e ≡ true
      → (c : ℕ) × (scan d a e ≡ some c) × (c ≤ b) × (group_ok c e ≡ true)
  unfolding scan
  scan_least zero a e b lo hi p = absurd (omega arith)
  scan_least (suc d) a e b lo hi p =
      by-test (group_ok a e)
      (λ q. (a, (rw (q, scan)), lo, q))
      (λ q. by_cases (dec_lt a b)
      (λ lt. rw (q, scan) (scan_least d (suc a) e b lt (omega arith) p))
      (λ ge. let s : b ≡ a = omega arith in absurd (true≢false (sym (rw s at p) ∙ q))))

  pub scan_cases : (d a e : ℕ)
      → ((c : ℕ) × (scan d a e ≡ some c) × (a ≤ c) × (c < a + d) × (group_ok c e ≡ true)) ⊎ (scan d a e ≡ none)
  unfolding scan
  scan_cases zero a e = inr refl
  scan_cases (suc d) a e =
      by-test (group_ok a e)
      (λ q. inl (a, (rw (q, scan)), (omega arith), (omega arith), q))
      (λ q. rw (q, scan) (elim (scan_cases d (suc a) e) [
        | inl r ↦ inl (r.0, r.1, (omega arith), (omega arith), r.4)
        | inr r ↦ inr r
      ]))

  -- what a scan of all starts finds, by the groups that pass
  abbrev pub Passes : ℕ → ℕ → Type 0
  Passes a e = (i : ℕ) → a ≤ i → i < e → ok i a e ≡ true

  pub scan_none : (e : ℕ) → ((b : ℕ) → b < e → Passes b e → ⊥) → scan e 0 e ≡ none
  scan_none e f =
      elim (scan_cases e 0 e) [
        | inl r ↦ absurd (f r.0 (omega arith) (group_each r.0 e r.4))
        | inr r ↦ r
      ]

  pub scan_some : (e a : ℕ) → a < e → Passes a e → ((b : ℕ) → b < a → Passes b e → ⊥) → scan e 0 e ≡ some a
  scan_some e a h p f =
      let r = scan_least e 0 e a zero-le (omega arith) (group_of a e p) in
      by_cases (dec_lt r.0 a)
      (λ y. absurd (f r.0 y (group_each r.0 e r.3)))
      (λ z. let s : r.0 ≡ a = omega arith in rw s at r.1)

  -- Group starts, least urgent first: passing groups, each before the last, that cover the entries up to `e`.
  abbrev pub Cuts : List ℕ → ℕ → Type 0
  Cuts [] e = e ≡ 0
  Cuts (a ∷ s) e = (a < e) × (group_ok a e ≡ true) × Cuts s a

  pub greedy_zero : (k : ℕ) → greedy k 0 ≡ some []
  unfolding greedy
  greedy_zero zero = refl
  greedy_zero (suc k) = refl

  pub greedy_cases : (k e : ℕ)
      → ((g : List ℕ) × (greedy k e ≡ some g) × Cuts g e × (length g ≤ k)) ⊎ (greedy k e ≡ none)
  unfolding greedy
  greedy_cases zero zero = inl ([], refl, refl, zero-le)
  greedy_cases zero (suc e) = inr refl
  greedy_cases (suc k) zero = inl ([], refl, refl, zero-le)
  greedy_cases (suc k) (suc e) =
      elim (scan_cases (suc e) zero (suc e)) [
        | inl r ↦ rw r.1 (elim (greedy_cases k r.0) [
          | inl t ↦ inl (r.0 ∷ t.0, (rw t.1), ((omega arith), r.4, t.2), (omega arith))
          | inr t ↦ inr (rw t)
        ])
        | inr r ↦ inr (rw r)
      ]

  -- more levels change nothing once there are enough
  pub greedy_more : (k k' e : ℕ) (g : List ℕ) → greedy k e ≡ some g → k ≤ k' → greedy k' e ≡ some g
  unfolding greedy
  greedy_more zero k' zero g q h = greedy_zero k' ∙ q
  greedy_more zero k' (suc e) g q h = absurd (none-ne-some g q)
  greedy_more (suc k) zero e g q h = absurd (omega arith)
  greedy_more (suc k) (suc k') zero g q h = q
  greedy_more (suc k) (suc k') (suc e) g q h =
      elim (scan_cases (suc e) zero (suc e)) [
        | inl r ↦ rw r.1 (elim (greedy_cases k r.0) [
          | inl t ↦ rw (greedy_more k k' r.0 t.0 t.1 (omega arith)) (rw (r.1, t.1) at q)
          | inr t ↦ absurd (none-ne-some g (rw (r.1, t) at q))
        ])
        | inr r ↦ absurd (none-ne-some g (rw r at q))
      ]

  cuts_first : (s : List ℕ) (e : ℕ) → Cuts s e → get_or s 0 0 ≤ e
  cuts_first [] e c = zero-le
  cuts_first (a ∷ s) e c = omega arith

  cuts_fall : (s : List ℕ) (e : ℕ) → Cuts s e → (j : ℕ) → get_or s (suc j) 0 ≤ get_or s j 0
  cuts_fall [] e c j = zero-le
  cuts_fall (a ∷ s) e c zero = cuts_first s a c.2
  cuts_fall (a ∷ s) e c (suc j) = cuts_fall s a c.2 j

  -- The search with at most `k` groups up to `e` leads the cuts `s`: it has no more groups, and each starts no later.
  abbrev pub Leads : List ℕ → ℕ → ℕ → Type 0
  Leads s k e =
      (g : List ℕ) × (greedy k e ≡ some g) × Cuts g e × (length g ≤ length s) × ((j : ℕ) → get_or g j 0 ≤ get_or s j 0)

  -- The one law that the search needs: an entry that is on time stays so when its group loses entries at its end.
  module _ (n : ℕ) (shrink : (i a e e' : ℕ) → a ≤ i → i < e' → e' ≤ e → e ≤ n → ok i a e ≡ true → ok i a e' ≡ true) where
    group_shrink : (a e e' : ℕ) → e' ≤ e → e ≤ n → group_ok a e ≡ true → group_ok a e' ≡ true
    group_shrink a e e' h b p = group_of a e' (λ j lo hi. shrink j a e e' lo hi h b (group_each a e p j lo (omega arith)))

    -- it leads every list of passing groups, of as many entries or of more
    pub leads : (s : List ℕ) (k e e' : ℕ) → Cuts s e' → e' ≤ n → e ≤ e' → length s ≤ k → Leads s k e
    unfolding greedy
    leads [] k e e' c b h l =
        let z : e ≡ 0 = omega arith in
        ([], (rw z (greedy_zero k)), z, zero-le, λ j. zero-le)
    leads (a ∷ s) zero e e' c b h l = absurd (omega arith)
    leads (a ∷ s) (suc k) zero e' c b h l = ([], refl, refl, zero-le, λ j. zero-le)
    leads (a ∷ s) (suc k) (suc e) e' c b h l =
        by_cases (dec_lt a (suc e))
        (λ lt.
        let r = scan_least (suc e) zero (suc e) a zero-le (omega arith) (group_shrink a e' (suc e) h b c.1) in
        let t = leads s k r.0 a c.2 (omega arith) r.2 (omega arith) in
        (r.0 ∷ t.0, (rw (r.1, t.1)), ((omega arith), r.3, t.2), (omega arith), elim [ zero ↦ r.2 | suc j ↦ t.4 j ]))
        (λ ge.
        let t = leads s (suc k) (suc e) a c.2 (omega arith) (omega arith) (omega arith) in (
          t.0,
          t.1,
          t.2,
          (omega arith),
          elim [
            | zero ↦ omega (arith, cuts_first t.0 (suc e) t.2)
            | suc j ↦ omega (arith, cuts_fall t.0 (suc e) t.2 j, t.4 j)
          ],
        ))
