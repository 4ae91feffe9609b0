-- What the tests of a file's header and of a row say about their numbers.
use Prim.Native.Nat.{ℕ, ◌≤◌}
use mathlib.Core.Path.{◌≡◌, ◌∙◌, refl, sym, ap}
use mathlib.Core.Logic.{⊎_elim}
use mathlib.Core.Bool.{Bool, true, false, ◌&&◌, true≢false}
use mathlib.Core.List.{List, [], ◌∷◌, ◌++◌}
use native.Mathlib.Omega.{arith}
use lib.ListN.{length, get_or, take, drop}
use lib.Dec.{eqb}
use lib.Pointwise.{pointwise}
use borrow.Author.Tests.{leb-true, le-leb, eqb-true, eq-eqb}
use Rattle.plan_file.specs.Plan.{most_nodes}
use Rattle.task_model.proofs.Tests.{and_true, true_or_false, decided}
use Rattle.task_model.proofs.Laws.{sizes_true, sizes_hold}
use Rattle.plan_file.specs.declared.Edition.{Edition}
use Rattle.plan_file.specs.declared.Edition.TheVariants.{First, Second}
use Rattle.plan_file.specs.declared.Row.{Row}
use Rattle.plan_file.specs.Encoding.{opening_bytes}
use Rattle.plan_file.specs.Decoding.{opening_test, edition_of}
use Rattle.plan_file.specs.Check.{opens_test, count_test, zeros_test, row_test}

-- 2
module _ (ed : Edition) (f : List ℕ) where
  pub record Opens : Type 0 where
    pub first : get_or f 0 0 ≡ get_or (opening_bytes ed) 0 0
    pub second : get_or f 1 0 ≡ get_or (opening_bytes ed) 1 0
    pub third : get_or f 2 0 ≡ get_or (opening_bytes ed) 2 0
    pub fourth : get_or f 3 0 ≡ get_or (opening_bytes ed) 3 0

  pub opens_true : Opens → opening_test ed f ≡ true
  unfolding opening_test
  opens_true h =
      rw (eq-eqb _ _ h.first, eq-eqb _ _ h.second, eq-eqb _ _ h.third, eq-eqb _ _ h.fourth)

  pub opens_hold : opening_test ed f ≡ true → Opens
  unfolding opening_test
  opens_hold p =
      let p1 = and_true _ _ p in
      let p2 = and_true _ _ p1.0 in
      let p3 = and_true _ _ p2.0 in
      record {
        first = eqb-true _ _ p3.0;
        second = eqb-true _ _ p3.1;
        third = eqb-true _ _ p2.1;
        fourth = eqb-true _ _ p1.1;
      }

  pub opens_false : (Opens → ⊥) → opening_test ed f ≡ false
  opens_false n = decided (opening_test ed f) opens_hold n

-- the edition, and the test of both openings
module _ (f : List ℕ) where
  pub edition_second : opening_test Second f ≡ true → edition_of f ≡ Second
  unfolding edition_of
  edition_second p = rw (p, edition_of)

  pub edition_first : opening_test Second f ≡ false → edition_of f ≡ First
  unfolding edition_of
  edition_first p = rw (p, edition_of)

  pub opens_first : opening_test First f ≡ true → opens_test f ≡ true
  opens_first p = rw p

  pub opens_else : opening_test First f ≡ false → opens_test f ≡ opening_test Second f
  opens_else p = rw p

  -- a file opens with the bytes of its edition, where it opens with those of one
  pub opens_edition : opens_test f ≡ true → opening_test (edition_of f) f ≡ true
  opens_edition p =
      ⊎_elim
      (λ q. rw (edition_second q) q)
      (λ q.
      rw (edition_first q)
      (⊎_elim (λ s. s) (λ s. absurd (true≢false (sym p ∙ opens_else s ∙ q))) (true_or_false (opening_test First f))))
      (true_or_false (opening_test Second f))

  pub opens_known : (ed : Edition) → Opens ed f → opens_test f ≡ true
  opens_known First h = opens_first (opens_true First f h)
  opens_known Second h =
      ⊎_elim opens_first (λ q. opens_else q ∙ opens_true Second f h) (true_or_false (opening_test First f))

  -- and with no others
  pub edition_opens : (ed : Edition) → Opens ed f → edition_of f ≡ ed
  edition_opens Second h = edition_second (opens_true Second f h)
  edition_opens First h = edition_first (opens_false Second f (λ g. omega (arith, h.fourth, g.fourth)))

-- a file that begins with the opening bytes opens so, and no other
starts_opens : (ed : Edition) (f rest : List ℕ) → f ≡ opening_bytes ed ++ rest → Opens ed f
starts_opens First f rest e = record {
  first = ap (λ l. get_or l 0 0) e;
  second = ap (λ l. get_or l 1 0) e;
  third = ap (λ l. get_or l 2 0) e;
  fourth = ap (λ l. get_or l 3 0) e;
}
starts_opens Second f rest e = record {
  first = ap (λ l. get_or l 0 0) e;
  second = ap (λ l. get_or l 1 0) e;
  third = ap (λ l. get_or l 2 0) e;
  fourth = ap (λ l. get_or l 3 0) e;
}

opens_starts : (ed : Edition) (f : List ℕ) → 4 ≤ length f → Opens ed f → f ≡ opening_bytes ed ++ drop 4 f
opens_starts ed [] l h = absurd (omega arith)
opens_starts ed (a ∷ []) l h = absurd (omega arith)
opens_starts ed (a ∷ b ∷ []) l h = absurd (omega arith)
opens_starts ed (a ∷ b ∷ c ∷ []) l h = absurd (omega arith)
opens_starts First (a ∷ b ∷ c ∷ d ∷ f) l h = rw (h.first, h.second, h.third, h.fourth)
opens_starts Second (a ∷ b ∷ c ∷ d ∷ f) l h = rw (h.first, h.second, h.third, h.fourth)

pub starts_tested : (ed : Edition) (f rest : List ℕ) (r : Bool) → 4 ≤ length f
    → (r ≡ true → f ≡ opening_bytes ed ++ rest) × ((rest : List ℕ) → f ≡ opening_bytes ed ++ rest → r ≡ true)
    → r ≡ opening_test ed f
starts_tested ed f rest r l s =
    ⊎_elim
    (λ (p : r ≡ true). p ∙ sym (opens_true ed f (starts_opens ed f rest (s.0 p))))
    (λ (p : r ≡ false).
    p ∙ sym (decided (opening_test ed f) (opens_hold ed f) (λ h. true≢false (sym (s.1 _ (opens_starts ed f l h)) ∙ p))))
    (true_or_false r)

-- 4
module _ (least : ℕ) (r : Row) where
  pub record RowHolds : Type 0 where
    pub rises : least ≤ r.number
    pub some_levels : 1 ≤ r.levels
    pub few_levels : r.levels ≤ 64
    pub few_entries : r.count ≤ 64

  pub row_true : RowHolds → row_test least r ≡ true
  unfolding row_test
  row_true h =
      rw (
        le-leb least r.number h.rises,
        sizes_true r.levels r.count h.some_levels h.few_levels h.few_entries,
      )

  pub row_holds : row_test least r ≡ true → RowHolds
  unfolding row_test
  row_holds p =
      let p1 = and_true _ _ p in
      let s = sizes_hold p1.1 in
      record { rises = leb-true _ _ p1.0; some_levels = s.0; few_levels = s.1; few_entries = s.2 }

-- 3
module _ (f : List ℕ) where
  pub record Counted : Type 0 where
    pub some : 1 ≤ get_or f 4 0
    pub few : get_or f 4 0 ≤ most_nodes
    pub zero5 : get_or f 5 0 ≡ 0
    pub zero6 : get_or f 6 0 ≡ 0
    pub zero7 : get_or f 7 0 ≡ 0

  pub counted_true : Counted → (count_test (get_or f 4 0) && zeros_test f) ≡ true
  unfolding count_test zeros_test
  counted_true h =
      rw (le-leb 1 (get_or f 4 0) h.some, le-leb (get_or f 4 0) most_nodes h.few, h.zero5, h.zero6, h.zero7)

  pub counted_hold : (count_test (get_or f 4 0) && zeros_test f) ≡ true → Counted
  unfolding count_test zeros_test
  counted_hold p =
      let p1 = and_true _ _ p in
      let c1 = and_true _ _ p1.0 in
      let z1 = and_true _ _ p1.1 in
      let z2 = and_true _ _ z1.0 in
      record {
        some = leb-true _ _ c1.0;
        few = leb-true _ _ c1.1;
        zero5 = eqb-true _ _ z2.0;
        zero6 = eqb-true _ _ z2.1;
        zero7 = eqb-true _ _ z1.1;
      }

-- the three zero bytes, compared as a slice
three_tested : (x y z : Bool) → (x && (y && (z && true))) ≡ (x && y && z)
three_tested false y z = refl
three_tested true false z = refl
three_tested true true false = refl
three_tested true true true = refl

pub zeros_tested : (f : List ℕ) → 8 ≤ length f → pointwise eqb (take 3 (drop 5 f)) (0 ∷ 0 ∷ 0 ∷ []) ≡ zeros_test f
unfolding zeros_test
zeros_tested [] l = absurd (omega arith)
zeros_tested (a ∷ []) l = absurd (omega arith)
zeros_tested (a ∷ b ∷ []) l = absurd (omega arith)
zeros_tested (a ∷ b ∷ c ∷ []) l = absurd (omega arith)
zeros_tested (a ∷ b ∷ c ∷ d ∷ []) l = absurd (omega arith)
zeros_tested (a ∷ b ∷ c ∷ d ∷ e ∷ []) l = absurd (omega arith)
zeros_tested (a ∷ b ∷ c ∷ d ∷ e ∷ x ∷ []) l = absurd (omega arith)
zeros_tested (a ∷ b ∷ c ∷ d ∷ e ∷ x ∷ y ∷ []) l = absurd (omega arith)
zeros_tested (a ∷ b ∷ c ∷ d ∷ e ∷ x ∷ y ∷ z ∷ f) l = three_tested (eqb x 0) (eqb y 0) (eqb z 0)
