-- The node of a session as a plan of its own.
use Rattle.std.specs.Prelude.{ℕ, [], ◌∷◌, length}
use Rattle.task_model.specs.Limits.{Node}
use Rattle.plan_file.specs.Plan.{Plan}

-- The plan whose only row is this node, under a given number.
abbrev pub one_row : ℕ → Node → Plan
one_row number n =
    record {
      rows = record { number = number; levels = n.levels; count = length n.entries } ∷ [];
      entries = n.entries;
    }
