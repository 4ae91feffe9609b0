-- The part of a program's input that was read.
use Rattle.std.specs.Prelude.{ℕ, ◌≡◌, List, length, take}
use Rattle.plan_file.specs.declared.input.Input.{Input}

-- The input was read into the first n bytes of the array: all of it, or as many of its first bytes as the array has room
-- for.
abbrev pub ReadOf : List ℕ → List ℕ → ℕ → Type 0
ReadOf input array n = take (length array) input ≡ take n array

-- The same of what a program has read of its input.
abbrev pub InputOf : List ℕ → Input → Type 0
InputOf input read = ReadOf input read.array.now read.count
