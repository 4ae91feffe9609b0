-- Case P as a file of the first edition, a node with a release jitter as one of the second, and the examples of the table
-- of refusals.
use Prim.Native.Nat.{ℕ}
use mathlib.Core.Path.{◌≡◌, refl}
use mathlib.Core.List.{List, [], ◌∷◌, ◌++◌}
use lib.ListN.{set}
use Rattle.refusals.specs.Refusals.{at, accepted, refused}
use Rattle.task_model.specs.Checks.{kind_test, times_test, jitter_test, entry_check, entries_by, has_number, number_check, body_by, size_test}
use Rattle.node_words.specs.Words.{entry_from}
use Rattle.plan_file.specs.declared.Edition.TheVariants.{First, Second}
use Rattle.plan_file.specs.Plan.{entry_count, row_of}
use Rattle.byte_words.specs.Bytes.{low, word_at, words_from}
use Rattle.plan_file.specs.Encoding.{header_bytes, row_bytes, field_bytes, entry_bytes, contents_bytes, bodies_bytes, encoding}
use Rattle.plan_file.specs.Decoding.{opening_test, edition_of, rows_from, entries_at, plan_in}
use Rattle.plan_file.specs.Check.{count_test, zeros_test, row_test, rows_check, contents_check, bodies_by, header_by, layout_check, file_check, written_check, writer_check, plan_check}
use Rattle.plan_file.specs.Find.{row_of_number, find_check}

-- One node, number 7, 2 levels, three entries of kind 1, with C/T/D 20/100/100, 30/145/145 and 68/150/150.
abbrev pub case_p : List ℕ
case_p =
    0x4C ∷ 0x4D ∷ 0x50 ∷ 0x31 ∷ 1 ∷ 0 ∷ 0 ∷ 0
    ∷ 7 ∷ 0 ∷ 2 ∷ 3 ∷ 16 ∷ 0 ∷ 0 ∷ 0
    ∷ 1 ∷ 0 ∷ 1 ∷ 0 ∷ 20 ∷ 0 ∷ 0 ∷ 0 ∷ 100 ∷ 0 ∷ 0 ∷ 0 ∷ 100 ∷ 0 ∷ 0 ∷ 0 ∷ 0 ∷ 0 ∷ 0 ∷ 0
    ∷ 2 ∷ 0 ∷ 1 ∷ 0 ∷ 30 ∷ 0 ∷ 0 ∷ 0 ∷ 145 ∷ 0 ∷ 0 ∷ 0 ∷ 145 ∷ 0 ∷ 0 ∷ 0 ∷ 0 ∷ 0 ∷ 0 ∷ 0
    ∷ 3 ∷ 0 ∷ 1 ∷ 0 ∷ 68 ∷ 0 ∷ 0 ∷ 0 ∷ 150 ∷ 0 ∷ 0 ∷ 0 ∷ 150 ∷ 0 ∷ 0 ∷ 0 ∷ 0 ∷ 0 ∷ 0 ∷ 0 ∷ []

pub record Table : Type 0 where
  pub taken : file_check case_p ≡ accepted
  pub edition : edition_of case_p ≡ First
  pub again : encoding First (plan_in case_p) ≡ case_p
  pub empty_file : file_check [] ≡ refused (at 1 0 0)
  pub first_byte : file_check (set case_p 0 0) ≡ refused (at 2 0 0)
  pub count33 : file_check (set case_p 4 33) ≡ refused (at 3 0 0)
  pub levels0 : file_check (set case_p 10 0) ≡ refused (at 4 0 0)
  pub offset17 : file_check (set case_p 12 17) ≡ refused (at 5 0 0)
  pub one_more : file_check (case_p ++ (0 ∷ [])) ≡ refused (at 6 0 0)
  pub kind3 : file_check (set case_p 18 3) ≡ refused (at 7 0 0)
  pub deadline5 : file_check (set (set case_p 40 6) 48 5) ≡ refused (at 8 0 1)
  pub ask8 : find_check case_p 8 ≡ refused (at 9 0 0)
  pub ask7 : find_check case_p 7 ≡ accepted

pub table : Table
unfolding kind_test times_test jitter_test entry_check entries_by size_test entry_from entry_count row_of low header_bytes row_bytes field_bytes entry_bytes contents_bytes bodies_bytes encoding word_at words_from rows_from entries_at opening_test edition_of count_test zeros_test row_test contents_check body_by bodies_by has_number number_check header_by layout_check file_check row_of_number find_check
table =
    record {
      taken = refl;
      edition = refl;
      again = refl;
      empty_file = refl;
      first_byte = refl;
      count33 = refl;
      levels0 = refl;
      offset17 = refl;
      one_more = refl;
      kind3 = refl;
      deadline5 = refl;
      ask8 = refl;
      ask7 = refl;
    }

-- One node, number 7, 2 levels, two entries of kind 1, with C/T/D/J 3/10/10/4 and 5/20/20/0.
abbrev pub late_start : List ℕ
late_start =
    0x4C ∷ 0x4D ∷ 0x50 ∷ 0x32 ∷ 1 ∷ 0 ∷ 0 ∷ 0
    ∷ 7 ∷ 0 ∷ 2 ∷ 2 ∷ 16 ∷ 0 ∷ 0 ∷ 0
    ∷ 1 ∷ 0 ∷ 1 ∷ 0 ∷ 3 ∷ 0 ∷ 0 ∷ 0 ∷ 10 ∷ 0 ∷ 0 ∷ 0 ∷ 10 ∷ 0 ∷ 0 ∷ 0 ∷ 0 ∷ 0 ∷ 0 ∷ 0 ∷ 4 ∷ 0 ∷ 0 ∷ 0
    ∷ 2 ∷ 0 ∷ 1 ∷ 0 ∷ 5 ∷ 0 ∷ 0 ∷ 0 ∷ 20 ∷ 0 ∷ 0 ∷ 0 ∷ 20 ∷ 0 ∷ 0 ∷ 0 ∷ 0 ∷ 0 ∷ 0 ∷ 0 ∷ 0 ∷ 0 ∷ 0 ∷ 0 ∷ []

pub record Editions : Type 0 where
  pub taken : file_check late_start ≡ accepted
  pub edition : edition_of late_start ≡ Second
  pub again : encoding Second (plan_in late_start) ≡ late_start
  pub third : file_check (set late_start 3 0x33) ≡ refused (at 2 0 0)
  pub jitter7 : file_check (set late_start 36 7) ≡ accepted
  pub jitter8 : file_check (set late_start 36 8) ≡ refused (at 14 0 0)
  pub deadline_first : file_check (set (set late_start 28 2) 36 8) ≡ refused (at 8 0 0)
  -- the opening of one edition, the body of the other
  pub as_first : file_check (set late_start 3 0x31) ≡ refused (at 6 0 0)
  pub as_second : file_check (set case_p 3 0x32) ≡ refused (at 6 0 0)
  -- a plan for the first edition has no J above zero
  pub for_second : plan_check Second (plan_in late_start) ≡ accepted
  pub for_first : plan_check First (plan_in late_start) ≡ refused (at 14 0 0)
  pub zero_for_first : plan_check First (plan_in (set late_start 36 0)) ≡ accepted

pub editions : Editions
unfolding kind_test times_test jitter_test entry_check entries_by size_test entry_from entry_count row_of low header_bytes row_bytes field_bytes entry_bytes contents_bytes bodies_bytes encoding word_at words_from rows_from entries_at opening_test edition_of count_test zeros_test row_test rows_check contents_check body_by bodies_by has_number number_check header_by layout_check file_check written_check writer_check
editions =
    record {
      taken = refl;
      edition = refl;
      again = refl;
      third = refl;
      jitter7 = refl;
      jitter8 = refl;
      deadline_first = refl;
      as_first = refl;
      as_second = refl;
      for_second = refl;
      for_first = refl;
      zero_for_first = refl;
    }
