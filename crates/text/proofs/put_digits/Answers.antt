use Prim.Native.Nat.{ℕ, ◌+◌, ◌*◌, ◌^◌, ◌≤◌, ◌<◌, max}
use mathlib.Core.Path.{◌≡◌, ◌∙◌, refl, ap}
use mathlib.Core.List.{List, ◌++◌}
use native.Mathlib.Omega.{arith}
use lib.ListN.{length, take, drop}
use Rattle.std.specs.Fmt.{decimal as printed}
use Rattle.text.specs.Text.{written}
use Rattle.text.specs.Decimal.{decimal}
use Rattle.text.proofs.Numbers.{decimal_one, decimal_printed, decimal_some, decimal_exact}
use Rattle.text.proofs.Writing.{written_byte, written_whole}
use Rattle.text.proofs.put_digits.Goals as goal

-- with the end of the digits known, the library leaves them right behind `at`
module _ (n k : ℕ) (fits : n < 2 ^ 64) (p : 10 ^ k ≤ max n 1) (q : max n 1 < 10 * 10 ^ k) where
  count : length (decimal n) ≡ k + 1
  count = decimal_exact k n p q

  room : length (printed n) ≡ k + 1
  room = ap length (decimal_printed n fits) ∙ count

  whole : (old new : List ℕ) (at start : ℕ) → start + length (printed n) ≡ at + k + 1 → drop start new ≡ printed n ++ drop (at + k + 1) old
      → take start new ≡ take start old → new ≡ written old at (decimal n)
  whole old new at start e d t =
      let here : start ≡ at = omega (arith, room) in
      let end : at + k + 1 ≡ at + length (decimal n) = omega (arith, count) in
      written_whole old new (decimal n) at (rw here at t) (rw here at d ∙ rw (decimal_printed n fits, end))

pub bounds-out-at : goal.bounds-out-at
bounds-out-at c = omega (arith, decimal_some c.args.n)

pub returns-then-n-lt10 : goal.returns-then-n-lt10
returns-then-n-lt10 c =
    let a = c.args in
    let d = decimal_one a.n (omega arith) in
    rw d
    (record {
      digits = written_byte a.out.now a.at (48 + a.n) (omega (arith, decimal_some a.n));
      after = refl;
    })

pub write_digits-requires : goal.write_digits-requires
write_digits-requires c =
    let p = rw c.max.ensures at c.ilog10.ensures.power_le in
    let q = rw c.max.ensures at c.ilog10.ensures.next_power_gt in
    omega (arith, count c.args.n _ c.ranges.n.fits p q, room c.args.n _ c.ranges.n.fits p q)

pub returns : goal.returns
returns c =
    let p = rw c.max.ensures at c.ilog10.ensures.power_le in
    let q = rw c.max.ensures at c.ilog10.ensures.next_power_gt in
    let d = c.write_digits.ensures in
    record {
      digits = whole c.args.n _ c.ranges.n.fits p q _ _ _ _ d.start d.written d.before;
      after = omega (arith, count c.args.n _ c.ranges.n.fits p q);
    }
