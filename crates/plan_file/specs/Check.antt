-- The checks of a plan file, and the writer's checks of a plan, in their order (docs/SPEC.md, 'The order of the checks').
use Rattle.std.specs.Prelude.{ℕ, suc, ◌+◌, ◌*◌, Bool, ◌&&◌, ◌||◌, List, [], ◌∷◌, length, get_or, take, drop, leb, eqb}
use Rattle.task_model.specs.declared.Entry.{Entry}
use Rattle.refusals.specs.Refusals.{at, Outcome, accepted, ◌and_then◌, must_hold}
use Rattle.task_model.specs.Checks.{entry_check, each_by, body_by, body_check, size_test}
use Rattle.node_words.specs.Words.{entry_size}
use Rattle.plan_file.specs.declared.Edition.{Edition}
use Rattle.plan_file.specs.declared.Edition.TheVariants.{First, Second}
use Rattle.plan_file.specs.declared.Row.{Row}
use Rattle.plan_file.specs.Plan.{most_nodes, Plan, entry_count, plan_of}
use Rattle.plan_file.specs.Encoding.{header_length, entry_length, bodies_start}
use Rattle.plan_file.specs.Decoding.{opening_test, edition_of, node_count, offset_at, rows_in, entries_in}

-- 1 to 32 nodes.
unfoldable pub count_test : ℕ → Bool
count_test nodes = leb 1 nodes && leb nodes most_nodes

-- The three bytes after the node count are zero.
unfoldable pub zeros_test : List ℕ → Bool
zeros_test f = eqb (get_or f 5 0) 0 && eqb (get_or f 6 0) 0 && eqb (get_or f 7 0) 0

-- A row: its number is at least `least`, and it has 1 to 64 levels and up to 64 entries.
unfoldable pub row_test : ℕ → Row → Bool
row_test least r = leb least r.number && size_test r.levels r.count

-- Rows one by one, from index `i` on (4). Each number must be above the one before; the first may be 0.
unfoldable pub rows_check : ℕ → ℕ → List Row → Outcome
rows_check i least [] = accepted
rows_check i least (r ∷ rs) = must_hold (row_test least r) (at 4 i 0) and_then rows_check (suc i) (suc r.number) rs

-- The same in a file with entries of `size` bytes: for each row 4, then 5. Each body must begin where the one before ends.
unfoldable pub contents_check : ℕ → List ℕ → ℕ → ℕ → ℕ → List Row → Outcome
contents_check size f i least required [] = accepted
contents_check size f i least required (r ∷ rs) =
    must_hold (row_test least r) (at 4 i 0)
    and_then must_hold (eqb (offset_at f i) required) (at 5 i 0)
    and_then contents_check size f (suc i) (suc r.number) (required + r.count * size) rs

-- The entries of each row, from index `i` on, by a check of all entries at a row. A row is checked once those before it have
-- passed.
unfoldable pub bodies_by : (ℕ → List Entry → Outcome) → ℕ → List Row → List Entry → Outcome
bodies_by check i [] es = accepted
bodies_by check i (r ∷ rs) es = check i (take r.count es) and_then bodies_by check (suc i) rs (drop r.count es)

-- The entries of each row, one by one, each by its row, its position in its node, and itself.
abbrev pub nodes_by : (ℕ → ℕ → Entry → Outcome) → ℕ → List Row → List Entry → Outcome
nodes_by check i rows es = bodies_by (each_by check) i rows es

-- A file's first checks: at least 8 bytes (1), that it opens as it must (2), node count and zero bytes (3), complete
-- contents (1).
unfoldable pub header_by : Bool → List ℕ → Outcome
header_by opens f =
    must_hold (leb header_length (length f)) (at 1 0 0)
    and_then must_hold opens (at 2 0 0)
    and_then must_hold (count_test (node_count f) && zeros_test f) (at 3 0 0)
    and_then must_hold (leb (bodies_start (node_count f)) (length f)) (at 1 0 0)

-- Then, in a file with entries of `size` bytes, 4 and 5 row by row, and that the file ends with the last body (6).
unfoldable pub layout_check : ℕ → List ℕ → ℕ → ℕ → ℕ → List Row → Outcome
layout_check size f i least required rows =
    contents_check size f i least required rows
    and_then must_hold (eqb (length f) (required + entry_count rows * size)) (at 6 0 0)

-- The file opens with the bytes of one of the editions.
abbrev pub opens_test : List ℕ → Bool
opens_test f = opening_test First f || opening_test Second f

-- The first checks of a file of either edition.
abbrev pub header_check : List ℕ → Outcome
header_check f = header_by (opens_test f) f

-- All checks of a file: its header, its layout in its edition, then row by row: 7, 8 and 14 entry by entry, and then the
-- numbers of the row's entries (16). (An entry of the first edition has J 0, so it never gives 14.)
unfoldable pub file_check : List ℕ → Outcome
file_check f =
    header_check f
    and_then layout_check (entry_length (edition_of f)) f 0 0 (bodies_start (node_count f)) (rows_in f)
    and_then bodies_by body_check 0 (rows_in f) (entries_in f)

-- An entry that is to be written: 7, 8 and 14. The first edition has no place for J, so a J above zero is 14 there too.
unfoldable pub written_check : Edition → ℕ → ℕ → Entry → Outcome
written_check First row position e = entry_check row position e and_then must_hold (eqb e.jitter 0) (at 14 row position)
written_check Second row position e = entry_check row position e

-- The writer's checks for an edition, of rows, and of entries that were given in `words` words: the node count (3); 4 row by
-- row; the rows must count exactly these entries (6), and a part of an entry left over is 6 too; then row by row 7, 8 and 14
-- entry by entry, and the numbers (16).
unfoldable pub writer_check : Edition → List Row → List Entry → ℕ → Outcome
writer_check ed rows entries words =
    must_hold (count_test (length rows)) (at 3 0 0)
    and_then rows_check 0 0 rows
    and_then must_hold (eqb words (entry_count rows * entry_size)) (at 6 0 0)
    and_then bodies_by (body_by (written_check ed)) 0 rows entries

-- The checks of a plan for an edition. It is accepted exactly if none of the writer's checks is met.
abbrev pub plan_check : Edition → Plan → Outcome
plan_check ed p = writer_check ed p.rows p.entries (length p.entries * entry_size)

-- The same for a plan in memory.
abbrev pub words_check : Edition → List ℕ → List ℕ → Outcome
words_check ed rows words = writer_check ed (plan_of rows words).rows (plan_of rows words).entries (length words)
