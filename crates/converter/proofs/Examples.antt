-- Case P in both editions, a plan with J in its last entry only, and what conversions of them and of damaged ones answer.
use Prim.Native.Nat.{ℕ}
use mathlib.Core.Path.{◌≡◌, refl}
use mathlib.Core.List.{List, [], ◌∷◌, ◌++◌}
use lib.ListN.{set}
use Rattle.refusals.specs.Refusals.{at, accepted}
use Rattle.refusals.specs.Answers.{gives, refuses}
use Rattle.task_model.specs.Checks.{kind_test, times_test, jitter_test, entry_check, entries_by, has_number, number_check, body_by, size_test}
use Rattle.node_words.specs.Words.{entry_from}
use Rattle.byte_words.specs.Bytes.{low, word_at, words_from}
use Rattle.plan_file.specs.declared.Edition.TheVariants.{First, Second}
use Rattle.plan_file.specs.Plan.{entry_count, row_of}
use Rattle.plan_file.specs.Encoding.{header_bytes, row_bytes, field_bytes, entry_bytes, contents_bytes, bodies_bytes, encoding}
use Rattle.plan_file.specs.Decoding.{opening_test, edition_of, rows_from, entries_at, plan_in}
use Rattle.plan_file.specs.Check.{count_test, zeros_test, row_test, contents_check, bodies_by, header_by, layout_check, file_check}
use Rattle.plan_file.specs.Limits.{longest}
use Rattle.plan_file.proofs.Examples.{case_p}
use Rattle.converter.specs.Conversion.{loss_check, convert_check, convert_answer}

-- Case P in the second edition: 4 bytes more for each of its three entries.
abbrev pub second_p : List ℕ
second_p =
    0x4C ∷ 0x4D ∷ 0x50 ∷ 0x32 ∷ 1 ∷ 0 ∷ 0 ∷ 0
    ∷ 7 ∷ 0 ∷ 2 ∷ 3 ∷ 16 ∷ 0 ∷ 0 ∷ 0
    ∷ 1 ∷ 0 ∷ 1 ∷ 0 ∷ 20 ∷ 0 ∷ 0 ∷ 0 ∷ 100 ∷ 0 ∷ 0 ∷ 0 ∷ 100 ∷ 0 ∷ 0 ∷ 0 ∷ 0 ∷ 0 ∷ 0 ∷ 0 ∷ 0 ∷ 0 ∷ 0 ∷ 0
    ∷ 2 ∷ 0 ∷ 1 ∷ 0 ∷ 30 ∷ 0 ∷ 0 ∷ 0 ∷ 145 ∷ 0 ∷ 0 ∷ 0 ∷ 145 ∷ 0 ∷ 0 ∷ 0 ∷ 0 ∷ 0 ∷ 0 ∷ 0 ∷ 0 ∷ 0 ∷ 0 ∷ 0
    ∷ 3 ∷ 0 ∷ 1 ∷ 0 ∷ 68 ∷ 0 ∷ 0 ∷ 0 ∷ 150 ∷ 0 ∷ 0 ∷ 0 ∷ 150 ∷ 0 ∷ 0 ∷ 0 ∷ 0 ∷ 0 ∷ 0 ∷ 0 ∷ 0 ∷ 0 ∷ 0 ∷ 0 ∷ []

-- Two nodes, 3 and 7, each with 1 level and two entries of 1/9/9, and J 8 on the last entry of node 7.
abbrev pub last_jitter : List ℕ
last_jitter =
    0x4C ∷ 0x4D ∷ 0x50 ∷ 0x32 ∷ 2 ∷ 0 ∷ 0 ∷ 0
    ∷ 3 ∷ 0 ∷ 1 ∷ 2 ∷ 24 ∷ 0 ∷ 0 ∷ 0
    ∷ 7 ∷ 0 ∷ 1 ∷ 2 ∷ 72 ∷ 0 ∷ 0 ∷ 0
    ∷ 1 ∷ 0 ∷ 1 ∷ 0 ∷ 1 ∷ 0 ∷ 0 ∷ 0 ∷ 9 ∷ 0 ∷ 0 ∷ 0 ∷ 9 ∷ 0 ∷ 0 ∷ 0 ∷ 0 ∷ 0 ∷ 0 ∷ 0 ∷ 0 ∷ 0 ∷ 0 ∷ 0
    ∷ 2 ∷ 0 ∷ 1 ∷ 0 ∷ 1 ∷ 0 ∷ 0 ∷ 0 ∷ 9 ∷ 0 ∷ 0 ∷ 0 ∷ 9 ∷ 0 ∷ 0 ∷ 0 ∷ 0 ∷ 0 ∷ 0 ∷ 0 ∷ 0 ∷ 0 ∷ 0 ∷ 0
    ∷ 3 ∷ 0 ∷ 1 ∷ 0 ∷ 1 ∷ 0 ∷ 0 ∷ 0 ∷ 9 ∷ 0 ∷ 0 ∷ 0 ∷ 9 ∷ 0 ∷ 0 ∷ 0 ∷ 0 ∷ 0 ∷ 0 ∷ 0 ∷ 0 ∷ 0 ∷ 0 ∷ 0
    ∷ 4 ∷ 0 ∷ 1 ∷ 0 ∷ 1 ∷ 0 ∷ 0 ∷ 0 ∷ 9 ∷ 0 ∷ 0 ∷ 0 ∷ 9 ∷ 0 ∷ 0 ∷ 0 ∷ 0 ∷ 0 ∷ 0 ∷ 0 ∷ 8 ∷ 0 ∷ 0 ∷ 0 ∷ []

pub record Conversions : Type 0 where
  -- buffers that always suffice
  pub most_forward : longest Second ≡ 49416
  pub most_back : longest First ≡ 41224
  -- case P there and back, each into a buffer of just its length
  pub forward_bytes : encoding Second (plan_in case_p) ≡ second_p
  pub forward : convert_answer Second case_p 88 ≡ gives 88
  pub back_bytes : encoding First (plan_in second_p) ≡ case_p
  pub back : convert_answer First second_p 76 ≡ gives 76
  -- one byte less
  pub short_forward : convert_answer Second case_p 87 ≡ refuses (at 10 0 0)
  pub short_back : convert_answer First second_p 75 ≡ refuses (at 10 0 0)
  -- a file of the edition asked for, even if the buffer is too short
  pub is_second : convert_answer Second second_p 0 ≡ refuses (at 2 0 0)
  pub is_first : convert_answer First case_p 0 ≡ refuses (at 2 0 0)
  -- the file's own checks come first
  pub own : convert_answer First (set case_p 18 3) 0 ≡ refuses (at 7 0 0)
  pub own_jitter : convert_answer First (set last_jitter 116 9) 0 ≡ refuses (at 14 1 1)
  -- J in the last entry of the last node only; the place is told before the buffer's 10
  pub accepts : file_check last_jitter ≡ accepted
  pub last : convert_answer First last_jitter 0 ≡ refuses (at 15 1 1)
  pub first : convert_answer First (set last_jitter 68 1) 0 ≡ refuses (at 15 0 1)
  -- J in the fourth entry of the only node
  pub fourth : convert_answer First (set (second_p ++ (4 ∷ 0 ∷ 1 ∷ 0 ∷ 1 ∷ 0 ∷ 0 ∷ 0 ∷ 9 ∷ 0 ∷ 0 ∷ 0 ∷ 9 ∷ 0 ∷ 0 ∷ 0 ∷ 0 ∷ 0 ∷ 0 ∷ 0 ∷ 1 ∷ 0 ∷ 0 ∷ 0 ∷ [])) 11 4) 100
      ≡ refuses (at 15 0 3)

pub conversions : Conversions
unfolding kind_test times_test jitter_test entry_check entries_by size_test entry_from entry_count row_of low header_bytes row_bytes field_bytes entry_bytes contents_bytes bodies_bytes encoding word_at words_from rows_from entries_at opening_test edition_of count_test zeros_test row_test contents_check body_by bodies_by has_number number_check header_by layout_check file_check loss_check convert_check convert_answer
conversions =
    record {
      most_forward = refl;
      most_back = refl;
      forward_bytes = refl;
      forward = refl;
      back_bytes = refl;
      back = refl;
      short_forward = refl;
      short_back = refl;
      is_second = refl;
      is_first = refl;
      own = refl;
      own_jitter = refl;
      accepts = refl;
      last = refl;
      first = refl;
      fourth = refl;
    }
