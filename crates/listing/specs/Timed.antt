-- What an entry's line says about the entry, and where the line occurs.
use Rattle.std.specs.Prelude.{ℕ, ◌≡◌, List, ◌++◌}
use Rattle.task_model.specs.declared.Entry.{Entry}
use Rattle.task_model.specs.Limits.{entry_at}
use Rattle.completion.specs.Test.{on_time, completion_test}
use Rattle.completion.specs.Right.{RightTiming}
use Rattle.level_map.specs.Assignments.{level_of}
use Rattle.listing.specs.Lines.{entry_line}
use Rattle.listing.specs.Listing.{entry_text}

-- The entry at i has a line with its completion time and its rounds under the map m. Both are right: the time is the least,
-- and at most D - J; the rounds are within their bound.
pub record TimedLine (es : List Entry) (m : List ℕ) (i : ℕ) : Type 0 where
  pub time : ℕ
  pub rounds : ℕ
  pub line : entry_text es m i ≡ entry_line (entry_at es i).number (level_of m i) time rounds
  pub tested : completion_test es (level_of m) i ≡ on_time time rounds
  pub right : RightTiming es (level_of m) i (on_time time rounds)

-- The text `part` occurs in `whole`, with some text before it and some text after it.
pub record StandsIn (whole part : List ℕ) : Type 0 where
  pub before : List ℕ
  pub after : List ℕ
  pub joined : whole ≡ before ++ part ++ after
