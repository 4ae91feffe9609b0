-- What a fill of a part of a list leaves.
use Prim.Native.Nat.{ℕ, ◌+◌, ◌-◌, ◌≤◌, ◌<◌}
use mathlib.Core.Path.{◌≡◌, ◌∙◌, refl, sym}
use mathlib.Core.List.{List, ◌++◌}
use mathlib.Core.Logic.{by_cases}
use native.Mathlib.Decide.{dec_lt}
use native.Mathlib.Omega.{arith}
use lib.ListN.{length, get_or, replicate, drop, length-append, length-drop, get_or-append}
use lib.Seq.{ext_get_or}
use borrow.Rule.Slice.PartMut.{put_mid}
use Rattle.std.proofs.Common.{rules}
use Rattle.std.proofs.lemmas.List.{places, get_or-append_right, get_or-drop}

-- The list `new` is `old`, but from position a to just before e each element is v.
pub record Filled (a e v : ℕ) (old new : List ℕ) : Type 0 where
  pub sized : length new ≡ length old
  pub here : (k : ℕ) → a ≤ k → k < e → get_or new k 0 ≡ v
  pub low : (k : ℕ) → k < a → get_or new k 0 ≡ get_or old k 0
  pub high : (k : ℕ) → e ≤ k → get_or new k 0 ≡ get_or old k 0

module _ (a e v : ℕ) (old : List ℕ) (h : a ≤ e) (b : e ≤ length old) where
  sized_mid : length (put_mid a (e - a) old (replicate (e - a) v)) ≡ length old
  sized_mid = search (rules, places)

  here_mid : (k : ℕ) → a ≤ k → k < e → get_or (put_mid a (e - a) old (replicate (e - a) v)) k 0 ≡ v
  here_mid k l u = search (rules, places)

  low_mid : (k : ℕ) → k < a → get_or (put_mid a (e - a) old (replicate (e - a) v)) k 0 ≡ get_or old k 0
  low_mid k l = search (rules, places)

  high_mid : (k : ℕ) → e ≤ k → get_or (put_mid a (e - a) old (replicate (e - a) v)) k 0 ≡ get_or old k 0
  high_mid k l = search (rules, places)

  pub filled_mid : (part : List ℕ) → part ≡ replicate (e - a) v → Filled a e v old (put_mid a (e - a) old part)
  filled_mid part p = rw p (record { sized = sized_mid; here = here_mid; low = low_mid; high = high_mid })

-- The first n elements of `out` are those of m, and the others those of `old`.
pub record Written (m old : List ℕ) (n : ℕ) (out : List ℕ) : Type 0 where
  pub sized : length out ≡ length old
  pub low : (k : ℕ) → k < n → get_or out k 0 ≡ get_or m k 0
  pub high : (k : ℕ) → n ≤ k → get_or out k 0 ≡ get_or old k 0

module _ (m old : List ℕ) where
  pub written_none : Written m old 0 old
  written_none = record { sized = refl; low = λ k h. absurd (omega arith); high = λ k h. refl }

  -- one part more, with one value
  pub written_next : (a e v : ℕ) (out new : List ℕ) → Written m old a out → Filled a e v out new
      → ((k : ℕ) → a ≤ k → k < e → get_or m k 0 ≡ v) → a ≤ e → Written m old e new
  written_next a e v out new w f value h =
      record {
        sized = f.sized ∙ w.sized;
        low = λ k u.
            by_cases (dec_lt k a)
            (λ y. f.low k y ∙ w.low k y)
            (λ z. f.here k (omega arith) u ∙ sym (value k (omega arith) u));
        high = λ k l. f.high k l ∙ w.high k (omega arith);
      }

  pub written_all : (n : ℕ) (out : List ℕ) → length m ≡ n → n ≤ length old → Written m old n out → out ≡ m ++ drop n old
  written_all n out sized fits w =
      ext_get_or 0 out (m ++ drop n old)
      (omega (arith, w.sized, length-append m (drop n old), length-drop n old))
      (λ k h.
      by_cases (dec_lt k n)
      (λ y. w.low k y ∙ sym (get_or-append m (drop n old) 0 k (omega arith)))
      (λ z.
      let there : n + (k - n) ≡ k = omega arith in
      w.high k (omega arith)
      ∙ sym (get_or-append_right m (drop n old) n k 0 sized (omega arith) ∙ (rw there at (get_or-drop n old (k - n) 0)))))
