-- A line while it is written: its text so far, and a bound on its length.
use Prim.Native.Nat.{ℕ, ◌+◌, ◌≤◌, zero-le}
use mathlib.Core.Path.{◌≡◌}
use mathlib.Core.List.{List, [], ◌++◌}
use native.Mathlib.Omega.{arith}
use lib.ListN.{length, length-append}
use Rattle.text.specs.declared.Cursor.{Cursor}
use Rattle.text.specs.Text.{Wrote, Upto}
use Rattle.text.proofs.Numbers.{decimal_8, decimal_16, decimal_32, decimal_64}
use Rattle.text.proofs.Writing.{wrote_then, wrote_none}

module _ {o : Cursor} {most : ℕ} {t : List ℕ} {n : Cursor} (u : Upto o most t n) (fits : o.at + most ≤ length o.out.now) where
  -- what follows has room, and is one with what stands
  pub upto_room : (k : ℕ) → o.at + most + k ≤ length o.out.now → n.at + k ≤ length n.out.now
  upto_room k h = omega (arith, u.wrote.kept, u.wrote.after, u.short)

  pub upto_append : {s : List ℕ} {m : Cursor} {k : ℕ} → Upto n k s m → Upto o (most + k) (t ++ s) m
  upto_append {s} v =
      record {
        wrote = wrote_then u.wrote (omega (arith, u.wrote.kept, u.wrote.after, u.short)) v.wrote;
        short = omega (arith, length-append t s, u.short, v.short);
      }

-- how long a number of so many bits can be
pub ruleset digits_fit = (decimal_8, decimal_16, decimal_32, decimal_64)

-- a text that was written in so many bytes
pub upto_by : {o n : Cursor} {t : List ℕ} {most : ℕ} → Wrote o t n → n.at ≤ o.at + most → Upto o most t n
upto_by w h = record { wrote = w; short = omega (arith, w.after) }

-- the same text by another name
pub upto_same : {o n : Cursor} {t s : List ℕ} {most : ℕ} → t ≡ s → Upto o most t n → Upto o most s n
upto_same e u = rw e at u

-- nothing is written
pub upto_none : (o : Cursor) (most : ℕ) → Upto o most [] o
upto_none o most = record { wrote = wrote_none o; short = zero-le }

pub upto_more : {o n : Cursor} {t : List ℕ} {most : ℕ} (m : ℕ) → most ≤ m → Upto o most t n → Upto o m t n
upto_more m h u = record { wrote = u.wrote; short = omega (arith, u.short) }
