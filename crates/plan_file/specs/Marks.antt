-- The size of the table of marks for a file. A reader need not believe this: no public entry uses it.
use Rattle.std.specs.Prelude.{ℕ}

-- How many marks the check of numbers keeps for a file.
abbrev pub file_marks : ℕ
file_marks = 2048
