-- Rows and entries in a file, or in words of 32 bits, fit the file's widths; and the words of rows hold these rows.
use Prim.Native.Nat.{ℕ, zero, suc, ◌+◌, ◌*◌}
use mathlib.Core.Path.{◌≡◌, ◌∙◌, refl}
use mathlib.Core.List.{List, [], ◌∷◌, map}
use native.Mathlib.Omega.{arith}
use lib.ListN.{length}
use lib.Seq.{take_all}
use Rattle.node_words.specs.Words.{entry_size, words_of, entries_of, WordsFit}
use Rattle.node_words.proofs.Words.{write_entries}
use Rattle.plan_file.specs.Plan.{entry_count, row_word, row_of, RowFits, RowsFit, PlanFits}
use Rattle.plan_file.specs.Encoding.{header_length, row_length, bodies_start}
use Rattle.byte_words.specs.Bytes.{Bytes, word_at}
use Rattle.plan_file.specs.Decoding.{edition_of, node_count, row_at, rows_from, rows_in, plan_in}
use Rattle.plan_file.proofs.Words.{row_word_lem, row_of_word}
use Rattle.plan_file.proofs.Memory.{entries_at_fit}

row_fits : (w : ℕ) → RowFits (row_of w)
unfolding row_of
row_fits w = record { number = omega arith; levels = omega arith; count = omega arith }

-- in words
pub rows_of_words : (rs : List ℕ) → WordsFit rs → map row_word (map row_of rs) ≡ rs
rows_of_words [] h = refl
rows_of_words (w ∷ rs) h = rw (row_word_lem w (h 0), rows_of_words rs (λ i. h (suc i)))

pub words_fit_rows : (rs : List ℕ) → RowsFit (map row_of rs)
words_fit_rows [] = tt
words_fit_rows (w ∷ rs) = (row_fits w, words_fit_rows rs)

pub entries_words : (ws : List ℕ) → WordsFit ws → (n : ℕ) → n * entry_size ≡ length ws → words_of (entries_of ws n) ≡ ws
entries_words ws h n e = write_entries n ws h (omega arith) ∙ take_all (n * entry_size) ws (omega arith)

-- the rows that the words of rows hold
pub rows_words : (f : List ℕ) (i n : ℕ) → map row_of (map row_word (rows_from f i n)) ≡ rows_from f i n
unfolding rows_from
rows_words f i zero = refl
rows_words f i (suc n) = rw (row_of_word (row_at f i) (row_fits (word_at f (header_length + i * row_length))), rows_words f (suc i) n)

-- in a file
pub plan_fits : (f : List ℕ) → Bytes f → PlanFits (plan_in f)
plan_fits f b =
    record {
      rows = rw (← rows_words f 0 (node_count f)) (words_fit_rows (map row_word (rows_in f)));
      entries = entries_at_fit (edition_of f) f b (bodies_start (node_count f)) (entry_count (rows_in f));
    }
