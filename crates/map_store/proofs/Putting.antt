-- Laws of words that are stored into a store, one by one or all with one value.
use Prim.Native.Nat.{ℕ, ◌+◌, ◌≤◌, ◌<◌}
use mathlib.Core.Path.{◌≡◌, ◌∙◌}
use mathlib.Core.Logic.{by_cases}
use mathlib.Core.List.{List}
use native.Mathlib.Omega.{arith}
use native.Mathlib.Decide.{dec_lt}
use lib.ListN.{length, set, length-set}
use lib.Seq.{get_or-set_same, get_or-set_other}
use Rattle.level_map.proofs.Filled.{Filled}
use Rattle.map_store.specs.Putting.{Put}

module _ (at first : ℕ) (f : ℕ → ℕ) (old : List ℕ) where
  -- one word more
  pub put_next : (j v : ℕ) (w : List ℕ) → first ≤ j → at + j < length old → v ≡ f j → Put at first j f old w
      → Put at first (j + 1) f old (set w (at + j) v)
  put_next j v w l h e p =
      let inside : at + j < length w = omega (arith, p.sized) in
      record {
        sized = length-set w (at + j) v ∙ p.sized;
        here = λ k lo up.
            by_cases (dec_lt k j)
            (λ y. get_or-set_other w (at + j) (at + k) v 0 (λ q. omega arith) ∙ p.here k lo y)
            (λ z. let q : k ≡ j = omega arith in rw q (get_or-set_same w (at + j) v 0 inside ∙ e));
        low = λ k u. get_or-set_other w (at + j) k v 0 (λ q. omega arith) ∙ p.low k u;
        high = λ k u. get_or-set_other w (at + j) k v 0 (λ q. omega arith) ∙ p.high k (omega arith);
      }

-- a part that is filled with one value
pub put_filled : (at first end v : ℕ) (old new : List ℕ) → Filled (at + first) (at + end) v old new → Put at first end (λ j. v) old new
put_filled at first end v old new f =
    record {
      sized = f.sized;
      here = λ j l u. f.here (at + j) (omega arith) (omega arith);
      low = f.low;
      high = f.high;
    }
