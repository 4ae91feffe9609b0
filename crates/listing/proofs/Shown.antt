-- The line of a refused file is the refusal as text (`Display` in the crate refusals), and the end of the line.
use Prim.Native.Nat.{ℕ, ◌^◌, ◌<◌}
use mathlib.Core.Path.{◌≡◌}
use mathlib.Core.List.{List, ◌++◌, append_assoc}
use Rattle.refusals.specs.Refusals.{Numbered}
use Rattle.refusals.specs.Text.{refusal_text}
use Rattle.text.specs.Text.{text}
use Rattle.text.specs.Decimal.{decimal}
use Rattle.text.proofs.Numbers.{decimal_printed}
use Rattle.listing.specs.Lines.{refused_line}

three_fields : (x a y b z c w : List ℕ) → (x ++ (a ++ (y ++ (b ++ (z ++ c))))) ++ w ≡ (x ++ a) ++ (y ++ b) ++ (z ++ c) ++ w
three_fields x a y b z c w = simp append_assoc

pub refused_shown : (r : Numbered) → r.number < 2 ^ 64 → r.row < 2 ^ 64 → r.entry < 2 ^ 64 → refusal_text r ++ text "\n" ≡ refused_line r
unfolding refused_line
refused_shown r n w e =
    rw (decimal_printed r.number n, decimal_printed r.row w, decimal_printed r.entry e)
    (three_fields (text "refused ") (decimal r.number) (text " row ") (decimal r.row) (text " entry ") (decimal r.entry) (text "\n"))
