-- The numbers of refusals.
use Prim.Native.Nat.{ℕ}
use mathlib.Core.Path.{◌≡◌}
use native.Mathlib.Omega.{arith}
use Rattle.refusals.specs.declared.Refusal.{Refusal}
use Rattle.refusals.specs.declared.Refusal.TheVariants.{
  ShortFile,
  OpeningBytes,
  NodeCount,
  Row,
  Offset,
  FileLength,
  Kind,
  Times,
  NoSuchNode,
  ShortBuffer,
  NoMap,
  OutsideList,
  FullList,
  Jitter,
  JitterLost,
  Repeat,
}
use Rattle.refusals.specs.Refusals.{Numbered, at, numbered}

-- A number with its places, field by field.
pub by_fields : (n : Numbered) (number row entry : ℕ) → number ≡ n.number → row ≡ n.row → entry ≡ n.entry → at number row entry ≡ n
by_fields n number row entry p q r = rw (p, q, r)

-- No refusal has the number 0: to a caller from C, 0 says that nothing was refused.
pub number_some : (r : Refusal) → (numbered r).number ≡ 0 → ⊥
number_some ShortFile p = omega arith
number_some OpeningBytes p = omega arith
number_some NodeCount p = omega arith
number_some (Row row) p = omega arith
number_some (Offset row) p = omega arith
number_some FileLength p = omega arith
number_some (Kind row position) p = omega arith
number_some (Times row position) p = omega arith
number_some NoSuchNode p = omega arith
number_some ShortBuffer p = omega arith
number_some NoMap p = omega arith
number_some OutsideList p = omega arith
number_some FullList p = omega arith
number_some (Jitter row position) p = omega arith
number_some (JitterLost row position) p = omega arith
number_some (Repeat row position) p = omega arith
