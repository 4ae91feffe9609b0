-- What the reader and the finder answer, check by check.
use Prim.Native.Nat.{ℕ, ◌*◌, ◌≤◌, ◌<◌}
use mathlib.Core.Path.{◌≡◌, ◌∙◌}
use mathlib.Core.List.{List, ◌++◌}
use native.Mathlib.Omega.{arith}
use lib.ListN.{length, drop}
use borrow.Author.Tests.{le-leb, lt-leb, lt-ltb, le-ltb}
use Rattle.node_words.specs.Words.{entry_size, words_of}
use Rattle.byte_words.specs.Buffers.{over}
use Rattle.byte_words.proofs.Buffers.{over_start}
use Rattle.refusals.specs.Refusals.{Numbered, at, accepted, refused}
use Rattle.plan_file.specs.declared.Edition.{Edition}
use Rattle.plan_file.specs.Plan.{entry_count}
use Rattle.plan_file.specs.Encoding.{bodies_start}
use Rattle.plan_file.specs.Decoding.{edition_of, node_count, row_at, offset_at, rows_in, entries_at, entries_in}
use Rattle.plan_file.specs.Check.{file_check}
use Rattle.plan_file.specs.Find.{row_of_number, find_check}
use Rattle.plan_file.specs.Answers.{read_answer, find_answer}
use Rattle.refusals.specs.Answers.{gives, refuses}
use Rattle.plan_file.proofs.Contents.{length-rows, length-entries_at}
use Rattle.plan_file.proofs.Nodes.{node_at_lem}

module _ (f : List ℕ) (rows words : ℕ) where
  pub read_refused : (r : Numbered) → file_check f ≡ refused r → read_answer f rows words ≡ refuses r
  unfolding read_answer
  read_refused r p = rw p

  module _ (a : file_check f ≡ accepted) where
    pub read_few_rows : rows < node_count f → read_answer f rows words ≡ refuses (at 10 0 0)
    unfolding read_answer
    read_few_rows h = rw (a, lt-leb (length (rows_in f)) rows (omega (arith, length-rows f 0 (node_count f))))

    pub read_few_words : node_count f ≤ rows → words < entry_count (rows_in f) * entry_size → read_answer f rows words ≡ refuses (at 10 0 0)
    unfolding read_answer
    read_few_words h l =
        rw (
          a,
          le-leb (length (rows_in f)) rows (omega (arith, length-rows f 0 (node_count f))),
          lt-leb (length (entries_in f) * entry_size) words (omega (arith, length-entries_at (edition_of f) f (bodies_start (node_count f)) (entry_count (rows_in f)))),
        )

    pub read_filled : (ed : Edition) (nodes count : ℕ) → ed ≡ edition_of f → nodes ≡ node_count f → count ≡ entry_count (rows_in f)
        → nodes ≤ rows → count * entry_size ≤ words
        → read_answer f rows words ≡ gives (record { edition = ed; rows = nodes; entries = count })
    unfolding read_answer
    read_filled ed nodes count ee en ec h l =
        rw (
          a,
          ee,
          length-rows f 0 (node_count f),
          length-entries_at (edition_of f) f (bodies_start (node_count f)) (entry_count (rows_in f)),
          ← ec,
          ← en,
          le-leb nodes rows h,
          le-leb (count * entry_size) words l,
        )

-- the entries that are copied to a buffer's start are the file's
pub entries_left : (f : List ℕ) (ed : Edition) (k n : ℕ) → ed ≡ edition_of f → k ≡ bodies_start (node_count f) → n ≡ entry_count (rows_in f)
    → (old new : List ℕ) → new ≡ over old 0 (words_of (entries_at ed f k n))
    → new ≡ words_of (entries_in f) ++ drop (length (words_of (entries_in f))) old
entries_left f ed k n ee ek en old new e = (rw (ee, ek, en) at e) ∙ over_start old _

module _ (f : List ℕ) (number : ℕ) where
  pub find_refused : (r : Numbered) → file_check f ≡ refused r → find_answer f number ≡ refuses r
  unfolding find_answer find_check
  find_refused r p = rw p

  module _ (a : file_check f ≡ accepted) where
    pub find_missing : node_count f ≤ row_of_number number (rows_in f) → find_answer f number ≡ refuses (at 9 0 0)
    unfolding find_answer find_check
    find_missing h =
        rw (a, le-ltb (row_of_number number (rows_in f)) (length (rows_in f)) (omega (arith, length-rows f 0 (node_count f))))

    pub find_found : (i : ℕ) → i ≡ row_of_number number (rows_in f) → i < node_count f
        → find_answer f number ≡ gives (record { levels = (row_at f i).levels; count = (row_at f i).count })
    unfolding find_answer find_check
    find_found i e h =
        rw (
          a,
          ← e,
          length-rows f 0 (node_count f),
          lt-ltb i (node_count f) h,
          node_at_lem f a i h,
          length-entries_at (edition_of f) f (offset_at f i) (row_at f i).count,
        )
