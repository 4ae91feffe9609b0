-- Decimal numbers without leading zeros.
use Rattle.std.specs.Prelude.{ℕ, zero, suc, ◌+◌, ◌-◌, ◌*◌, ◌/◌, ◌%◌, true, false, List, [], ◌∷◌, ◌++◌, ltb}
use Prim.Native.String.{String}
use Rattle.text.specs.Text.{text}

-- The digits of n in reading order, or only the last `most` of them. The digit d is the byte 48 + d.
unfoldable pub digits : ℕ → ℕ → List ℕ
digits zero n = []
digits (suc most) n =
    elim (ltb n 10) [
      | true ↦ (48 + n) ∷ []
      | false ↦ digits most (n / 10) ++ (48 + n % 10) ∷ []
    ]

-- All digits of n: there are at most n + 1 of them.
unfoldable pub decimal : ℕ → List ℕ
decimal n = digits (suc n) n

-- Reads on: the number that these digits form after digits that form n.
unfoldable pub read_on : ℕ → List ℕ → ℕ
read_on n [] = n
read_on n (d ∷ ds) = read_on (n * 10 + (d - 48)) ds

-- The number that digits form.
unfoldable pub number : List ℕ → ℕ
number ds = read_on 0 ds

-- A label and a number.
abbrev pub field : String → ℕ → List ℕ
field label n = text label ++ decimal n
