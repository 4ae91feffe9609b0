-- The cases of docs/SPEC.md, 'An entry number once in a node': every line of the table holds.
use Prim.Native.Nat.{ℕ}
use mathlib.Core.Path.{◌≡◌, refl}
use mathlib.Core.List.{List, [], ◌∷◌}
use lib.ListN.{set}
use Rattle.refusals.specs.Refusals.{at, accepted, refused}
use Rattle.refusals.specs.Answers.{refuses}
use Rattle.task_model.specs.declared.Entry.{Entry}
use Rattle.task_model.specs.Limits.{Node}
use Rattle.task_model.specs.Checks.{kind_test, times_test, jitter_test, entry_check, entries_by, has_number, number_check, body_by, size_test, node_check_by}
use Rattle.node_words.specs.Words.{entry_from}
use Rattle.byte_words.specs.Bytes.{word_at, words_from}
use Rattle.plan_file.specs.declared.Edition.TheVariants.{First, Second}
use Rattle.plan_file.specs.Plan.{entry_count, row_of}
use Rattle.plan_file.specs.Decoding.{opening_test, edition_of, rows_from, entries_at, plan_in}
use Rattle.plan_file.specs.Check.{count_test, zeros_test, row_test, rows_check, contents_check, bodies_by, header_by, layout_check, file_check, written_check, writer_check, plan_check}
use Rattle.plan_file.proofs.Examples.{case_p}
use Rattle.converter.specs.Conversion.{convert_check, convert_answer}
use Rattle.session.specs.Operations.{changing, asking, inserting, removing, replacing, timing, others_check, change_check_by, query_check_by, operation_check_by, lent_check_by, step_check, step_check_by, node_after, node_after_by, changed}
use Rattle.listing.specs.Lines.{refused_line}
use Rattle.listing.specs.Listing.{listing, listing_under}

-- Two nodes, 3 and 7, each with 1 level and the tasks 1 and 2 of 1/9/9.
abbrev pub two_nodes : List ℕ
two_nodes =
    0x4C ∷ 0x4D ∷ 0x50 ∷ 0x31 ∷ 2 ∷ 0 ∷ 0 ∷ 0
    ∷ 3 ∷ 0 ∷ 1 ∷ 2 ∷ 24 ∷ 0 ∷ 0 ∷ 0
    ∷ 7 ∷ 0 ∷ 1 ∷ 2 ∷ 64 ∷ 0 ∷ 0 ∷ 0
    ∷ 1 ∷ 0 ∷ 1 ∷ 0 ∷ 1 ∷ 0 ∷ 0 ∷ 0 ∷ 9 ∷ 0 ∷ 0 ∷ 0 ∷ 9 ∷ 0 ∷ 0 ∷ 0 ∷ 0 ∷ 0 ∷ 0 ∷ 0
    ∷ 2 ∷ 0 ∷ 1 ∷ 0 ∷ 1 ∷ 0 ∷ 0 ∷ 0 ∷ 9 ∷ 0 ∷ 0 ∷ 0 ∷ 9 ∷ 0 ∷ 0 ∷ 0 ∷ 0 ∷ 0 ∷ 0 ∷ 0
    ∷ 1 ∷ 0 ∷ 1 ∷ 0 ∷ 1 ∷ 0 ∷ 0 ∷ 0 ∷ 9 ∷ 0 ∷ 0 ∷ 0 ∷ 9 ∷ 0 ∷ 0 ∷ 0 ∷ 0 ∷ 0 ∷ 0 ∷ 0
    ∷ 2 ∷ 0 ∷ 1 ∷ 0 ∷ 1 ∷ 0 ∷ 0 ∷ 0 ∷ 9 ∷ 0 ∷ 0 ∷ 0 ∷ 9 ∷ 0 ∷ 0 ∷ 0 ∷ 0 ∷ 0 ∷ 0 ∷ 0 ∷ []

-- A task of 1/9/9 with a number, and with another C.
abbrev pub task : ℕ → ℕ → Entry
task number c = record { number = number; kind = 1; calls = 0; wcet = c; period = 9; deadline = 9; blocking = 0; jitter = 0 }

-- A session with 2 levels and the tasks 1, 2 and 3.
abbrev pub three : Node
three = record { levels = 2; entries = task 1 1 ∷ task 2 1 ∷ task 3 1 ∷ [] }

-- Memory that no operation made: the third has the number of the first.
abbrev pub forged : Node
forged = record { levels = 2; entries = task 1 1 ∷ task 2 1 ∷ task 1 1 ∷ [] }

pub record NumberCases : Type 0 where
  -- P, whose entries have the numbers 1, 2 and 3 in bytes 16, 36 and 56
  pub second : file_check (set case_p 36 1) ≡ refused (at 16 0 1)
  pub third : file_check (set case_p 56 1) ≡ refused (at 16 0 2)
  pub three_equal : file_check (set (set case_p 36 1) 56 1) ≡ refused (at 16 0 1)
  pub section : file_check (set (set case_p 36 1) 38 2) ≡ refused (at 16 0 1)
  -- a number that differs only in its high byte
  pub high : file_check (set (set case_p 36 1) 37 8) ≡ accepted
  -- a field of the same node comes first
  pub field : file_check (set (set case_p 36 1) 58 3) ≡ refused (at 7 0 2)
  -- two nodes may share numbers
  pub shared : file_check two_nodes ≡ accepted
  pub last_node : file_check (set two_nodes 84 1) ≡ refused (at 16 1 1)
  -- a repeat in node 3 comes before a field of node 7, and after one of node 3
  pub before_field : file_check (set (set two_nodes 44 1) 66 3) ≡ refused (at 16 0 1)
  pub after_field : file_check (set (set two_nodes 84 1) 46 3) ≡ refused (at 7 0 1)
  -- to the writer, and going over
  pub written : plan_check Second (plan_in (set two_nodes 84 1)) ≡ refused (at 16 1 1)
  pub forward : convert_answer Second (set case_p 36 1) 0 ≡ refuses (at 16 0 1)
  pub back : convert_answer First (set case_p 36 1) 0 ≡ refuses (at 16 0 1)
  pub listed : listing (set case_p 36 1) ≡ refused_line (at 16 0 1)
  -- insert: a number that is there, one that is not, and one that was removed before
  pub insert_taken : step_check (changing (inserting 0 (task 3 1))) three ≡ refused (at 16 0 0)
  pub insert_new : step_check (changing (inserting 0 (task 4 1))) three ≡ accepted
  pub insert_gone : step_check (changing (inserting 0 (task 3 1))) (node_after (changing (removing 2)) three) ≡ accepted
  -- 12 and the fields come first
  pub insert_outside : step_check (changing (inserting 4 (task 3 1))) three ≡ refused (at 12 0 0)
  pub insert_field : step_check (changing (inserting 3 (task 3 0))) three ≡ refused (at 8 0 3)
  -- replace: the entry's own number, and that of another entry
  pub replace_own : step_check (changing (replacing 1 (task 2 5))) three ≡ accepted
  pub replace_other : step_check (changing (replacing 1 (task 3 1))) three ≡ refused (at 16 0 1)
  -- memory that no operation made
  pub lent : step_check (changing (removing 0)) forged ≡ refused (at 16 0 2)
  pub lent_timed : step_check (asking (timing 0 0 0)) forged ≡ refused (at 16 0 2)

pub number_cases : NumberCases
unfolding kind_test times_test jitter_test entry_check entries_by has_number number_check body_by size_test node_check_by entry_from entry_count row_of word_at words_from rows_from entries_at opening_test edition_of count_test zeros_test row_test rows_check contents_check bodies_by header_by layout_check file_check written_check writer_check convert_check convert_answer listing_under others_check change_check_by query_check_by operation_check_by lent_check_by step_check_by node_after_by changed
number_cases =
    record {
      second = refl;
      third = refl;
      three_equal = refl;
      section = refl;
      high = refl;
      field = refl;
      shared = refl;
      last_node = refl;
      before_field = refl;
      after_field = refl;
      written = refl;
      forward = refl;
      back = refl;
      listed = refl;
      insert_taken = refl;
      insert_new = refl;
      insert_gone = refl;
      insert_outside = refl;
      insert_field = refl;
      replace_own = refl;
      replace_other = refl;
      lent = refl;
      lent_timed = refl;
    }
