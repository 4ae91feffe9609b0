-- Laws of the rows of a file and of a plan in memory, and of the entries of either: each is a run.
use Prim.Native.Nat.{ℕ, ◌+◌, ◌*◌, ◌≤◌, ◌<◌}
use mathlib.Core.Path.{◌≡◌, ◌∙◌, refl, sym, ap}
use mathlib.Core.List.{List, [], map}
use native.Mathlib.Omega.{arith}
use native.Mathlib.Numerals.{add-one}
use lib.ListN.{length, get_or, drop, length-map, get_or-map, drop_of_length-le}
use Rattle.node_words.specs.Words.{entry_of, entries_from}
use Rattle.plan_file.specs.Encoding.{row_length, header_length, entry_length}
use Rattle.plan_file.specs.declared.Edition.{Edition}
use Rattle.plan_file.specs.declared.Row.{Row}
use Rattle.plan_file.specs.Plan.{row_word, row_of}
use Rattle.byte_words.specs.Bytes.{word_at}
use Rattle.byte_words.proofs.Runs.{Run, AtHand, at_hand, run_length, run_get, run_hand}
use Rattle.plan_file.specs.Decoding.{row_at, rows_from, entry_in, entries_at}
use Rattle.plan_file.specs.Find.{no_row, row_in}
use Rattle.plan_file.proofs.Words.{row_word_lem}

pub rows_run : (f : List ℕ) → Run 1 (row_at f) (rows_from f)
unfolding rows_from
rows_run f = record { none = λ i. refl; more = λ i n. rw (add-one i) }

pub row_words_run : (f : List ℕ) → Run 1 (λ i. row_word (row_at f i)) (λ i n. map row_word (rows_from f i n))
row_words_run f = record { none = λ i. rw ((rows_run f).none i); more = λ i n. rw ((rows_run f).more i n) }

pub entries_run : (ed : Edition) (f : List ℕ) → Run (entry_length ed) (entry_in ed f) (entries_at ed f)
unfolding entries_at
entries_run ed f = record { none = λ k. refl; more = λ k n. refl }

pub words_entries_run : (ws : List ℕ) → Run 1 (entry_of ws) (entries_from ws)
unfolding entries_from
words_entries_run ws = record { none = λ j. refl; more = λ j n. rw (add-one j) }

pub length-rows : (f : List ℕ) (i n : ℕ) → length (rows_from f i n) ≡ n
length-rows f = run_length (rows_run f)

pub length-row_words : (f : List ℕ) (n : ℕ) → length (map row_word (rows_from f 0 n)) ≡ n
length-row_words f = run_length (row_words_run f) 0

pub length-entries_at : (ed : Edition) (f : List ℕ) (k n : ℕ) → length (entries_at ed f k n) ≡ n
length-entries_at ed f = run_length (entries_run ed f)

-- row `i` of a file
module _ (f : List ℕ) (n i : ℕ) where
  pub row_get : i < n → row_in (rows_from f 0 n) i ≡ row_at f i
  row_get h = run_get (rows_run f) 0 n i no_row h ∙ ap (row_at f) (omega arith)

  pub file_row : (r : Row) → i < n → r ≡ row_at f i → AtHand (rows_from f 0 n) i r
  file_row r h = run_hand (rows_run f) 0 n i i r h (omega arith)

-- its word
pub row_kept : (f : List ℕ) (i w : ℕ) → w ≡ word_at f (header_length + i * row_length) → w < 4294967296
    → w ≡ row_word (row_at f (0 + i * 1))
row_kept f i w e h = let z : 0 + i * 1 ≡ i = omega arith in rw (z, ← e) (sym (row_word_lem w h))

-- row `i` of a plan in memory
module _ (rs : List ℕ) (i : ℕ) where
  pub memory_row : (r : Row) → i < length rs → r ≡ row_of (get_or rs i 0) → AtHand (map row_of rs) i r
  memory_row r h e =
      at_hand (map row_of rs) i r (row_of 0) (rw (length-map rs row_of) h) (get_or-map row_of rs i 0 ∙ sym e)

  pub memory_none : length rs ≤ i → drop i (map row_of rs) ≡ []
  memory_none h = drop_of_length-le (map row_of rs) {i = i} (rw (length-map rs row_of) h)
