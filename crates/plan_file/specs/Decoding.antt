-- The edition of an accepted file, and the plan that it holds.
use Rattle.std.specs.Prelude.{ℕ, zero, suc, ◌+◌, ◌*◌, Bool, true, false, ◌&&◌, List, [], ◌∷◌, ◌++◌, get_or, eqb}
use Rattle.task_model.specs.declared.Entry.{Entry}
use Rattle.node_words.specs.Words.{entry_size, entry_from}
use Rattle.byte_words.specs.Bytes.{word_at, words_from}
use Rattle.plan_file.specs.declared.Edition.{Edition}
use Rattle.plan_file.specs.declared.Edition.TheVariants.{First, Second}
use Rattle.plan_file.specs.declared.Row.{Row}
use Rattle.plan_file.specs.Plan.{Plan, entry_count, row_of}
use Rattle.plan_file.specs.Encoding.{opening_bytes, header_length, row_length, entry_length, bodies_start}

-- Byte `i` of a file equals byte `i` of an edition's opening.
abbrev pub opens_at : Edition → List ℕ → ℕ → Bool
opens_at ed f i = eqb (get_or f i 0) (get_or (opening_bytes ed) i 0)

-- The file begins with the four opening bytes of an edition.
unfoldable pub opening_test : Edition → List ℕ → Bool
opening_test ed f = opens_at ed f 0 && opens_at ed f 1 && opens_at ed f 2 && opens_at ed f 3

-- The edition of a file: the second if it opens so, else the first. (A file that opens as neither is refused as 2.)
unfoldable pub edition_of : List ℕ → Edition
edition_of f =
    elim (opening_test Second f) [
      | true ↦ Second
      | false ↦ First
    ]

-- The node count, in the byte after the opening ones.
abbrev pub node_count : List ℕ → ℕ
node_count f = get_or f 4 0

-- Row `i` of the contents. It has two words in the file; the first, read as a row in memory, has number, levels and entry
-- count. (The theorem `row_fields` gives each field by its bytes.)
abbrev pub row_at : List ℕ → ℕ → Row
row_at f i = row_of (word_at f (header_length + i * row_length))

-- The offset of the body of row `i`: the second word.
abbrev pub offset_at : List ℕ → ℕ → ℕ
offset_at f i = word_at f (header_length + i * row_length + 4)

-- The rows from index `i` on, `n` of them.
unfoldable pub rows_from : List ℕ → ℕ → ℕ → List Row
rows_from f i zero = []
rows_from f i (suc n) = row_at f i ∷ rows_from f (suc i) n

-- The rows of a file: as many as its nodes.
abbrev pub rows_in : List ℕ → List Row
rows_in f = rows_from f 0 (node_count f)

-- How many of an entry's words a file has: all but J in the first edition, all in the second.
abbrev pub file_words : Edition → ℕ
file_words First = 5
file_words Second = entry_size

-- The words in memory of the entry from byte `k` on: those of the file, and in the first edition 0 for J.
abbrev pub entry_words_at : Edition → List ℕ → ℕ → List ℕ
entry_words_at First f k = words_from f k (file_words First) ++ (0 ∷ [])
entry_words_at Second f k = words_from f k (file_words Second)

-- The entry from byte `k` on. (The theorem `entry_fields` gives each field by its bytes.)
abbrev pub entry_in : Edition → List ℕ → ℕ → Entry
entry_in ed f k = entry_from (entry_words_at ed f k) 0

-- The entries from byte `k` on, `n` of them.
unfoldable pub entries_at : Edition → List ℕ → ℕ → ℕ → List Entry
entries_at ed f k zero = []
entries_at ed f k (suc n) = entry_in ed f k ∷ entries_at ed f (k + entry_length ed) n

-- The entries of a file, in its edition: they follow the contents, and there are as many as the rows count.
abbrev pub entries_in : List ℕ → List Entry
entries_in f = entries_at (edition_of f) f (bodies_start (node_count f)) (entry_count (rows_in f))

-- The plan in a file.
abbrev pub plan_in : List ℕ → Plan
plan_in f = record { rows = rows_in f; entries = entries_in f }
