-- The size of the table of marks. A reader need not believe this: no public entry uses it.
use Rattle.std.specs.Prelude.{ℕ}

-- How many marks there are.
abbrev pub mark_count : ℕ
mark_count = 1024
