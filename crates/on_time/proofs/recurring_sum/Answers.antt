use Rattle.std.proofs.Common.{◌≡◌, ℕ, ◌+◌, ◌≤◌, min, sym, arith}
use Rattle.completion.specs.Demand.{sum_to}
use Rattle.completion.proofs.Sums.{sum_to-none, sum_to-more, sum_to-step, sum_to-all}
use Rattle.on_time.proofs.recurring_sum.Goals as goal

-- a sum that is cut at m, one number after the other
module _ (f : ℕ → ℕ) (m : ℕ) where
  cut_none : 0 ≡ min (sum_to f 0) m
  cut_none = omega (arith, sum_to-none f)

  -- a sum of 64 bits that would be too large is cut first at its greatest number
  cut_step : (k c p s x : ℕ) → m ≤ 18446744073709551615 → c ≡ min (sum_to f k) m → p ≡ f k → s ≡ min (c + p) 18446744073709551615 → x ≡ min s m
      → x ≡ min (sum_to f (k + 1)) m
  cut_step k c p s x few h q w r = omega (arith, sum_to-more f k)

  cut_all : (k n c : ℕ) → c ≡ min (sum_to f k) m → k ≡ n → c ≡ min (sum_to f n) m
  cut_all k n c h e = rw (← e) h

pub loop-position-init : goal.loop-position-init
loop-position-init c = record {
  little = omega arith;
  short = omega arith;
  utilisation = rw c.default-sum.ensures.0 (sym (sum_to-none _));
  runs = rw c.default-sum.ensures.1.0 (sym (sum_to-none _));
  jitter = rw c.default-sum.ensures.1.1 (cut_none _ _);
}

pub loop-position-preserved : goal.loop-position-preserved
loop-position-preserved c =
    let d : ℕ = c.args.limit in
    let part = c.recurring_part-part.ensures in
    let at = c.entry.ensures in
    let i = c.loop-position.invariant in
    record {
      little = omega (arith, i.little, part.small);
      short = omega (arith, i.short, part.small);
      utilisation = sum_to-step _ _ _ _ i.utilisation (rw at at part.parts.0);
      runs = sum_to-step _ _ _ _ i.runs (rw at at part.parts.1);
      jitter = cut_step _ _ _ _ _ _ _ (omega arith) i.jitter (rw at at part.parts.2) c.saturating_add.ensures c.min.ensures;
    }

pub returns : goal.returns
returns c =
    let i = c.loop-position.invariant in
    (sum_to-all _ _ _ _ i.utilisation (omega arith), sum_to-all _ _ _ _ i.runs (omega arith), cut_all _ _ _ _ _ i.jitter (omega arith))
