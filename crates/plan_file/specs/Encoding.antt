-- The plan file of a plan, in each edition (docs/SPEC.md, 'The plan file'): contents first, then bodies; numbers are
-- unsigned, low byte first.
use Rattle.std.specs.Prelude.{ℕ, ◌+◌, ◌*◌, List, [], ◌∷◌, ◌++◌, length}
use Rattle.task_model.specs.declared.Entry.{Entry}
use Rattle.byte_words.specs.Bytes.{low}
use Rattle.plan_file.specs.declared.Edition.{Edition}
use Rattle.plan_file.specs.declared.Edition.TheVariants.{First, Second}
use Rattle.plan_file.specs.declared.Row.{Row}
use Rattle.plan_file.specs.Plan.{Plan}

-- The four bytes that a file opens with. The last one is the edition's.
abbrev pub opening_bytes : Edition → List ℕ
opening_bytes First = 0x4C ∷ 0x4D ∷ 0x50 ∷ 0x31 ∷ []
opening_bytes Second = 0x4C ∷ 0x4D ∷ 0x50 ∷ 0x32 ∷ []

-- The opening bytes, one byte with the node count, three zero bytes.
unfoldable pub header_bytes : Edition → ℕ → List ℕ
header_bytes ed nodes = opening_bytes ed ++ low 1 nodes ++ (0 ∷ 0 ∷ 0 ∷ [])

-- A row: node number (2), levels (1), entry count (1), offset of its body from the file's start (4).
unfoldable pub row_bytes : ℕ → Row → List ℕ
row_bytes offset r = low 2 r.number ++ low 1 r.levels ++ low 1 r.count ++ low 4 offset

-- What every edition has of an entry: entry number (2), kind (1), r (1), C, T, D, B (4 each).
unfoldable pub field_bytes : Entry → List ℕ
field_bytes e =
    low 2 e.number ++ low 1 e.kind ++ low 1 e.calls
    ++ low 4 e.wcet ++ low 4 e.period ++ low 4 e.deadline ++ low 4 e.blocking

-- An entry: these fields; in the second edition then J (4).
unfoldable pub entry_bytes : Edition → Entry → List ℕ
entry_bytes First e = field_bytes e
entry_bytes Second e = field_bytes e ++ low 4 e.jitter

-- Lengths in bytes: of the header, of a row, and of an entry in each edition.
abbrev pub header_length : ℕ
header_length = 8

abbrev pub row_length : ℕ
row_length = 8

abbrev pub entry_length : Edition → ℕ
entry_length First = 20
entry_length Second = 24

-- Where the first body begins: right after the header and a row for each node.
abbrev pub bodies_start : ℕ → ℕ
bodies_start nodes = header_length + nodes * row_length

-- The contents, where entries have `size` bytes: each body begins where the one before it ends.
unfoldable pub contents_bytes : ℕ → ℕ → List Row → List ℕ
contents_bytes size offset [] = []
contents_bytes size offset (r ∷ rs) = row_bytes offset r ++ contents_bytes size (offset + r.count * size) rs

-- The bodies: entry after entry, without gaps.
unfoldable pub bodies_bytes : Edition → List Entry → List ℕ
bodies_bytes ed [] = []
bodies_bytes ed (e ∷ es) = entry_bytes ed e ++ bodies_bytes ed es

-- The whole file.
unfoldable pub encoding : Edition → Plan → List ℕ
encoding ed p =
    header_bytes ed (length p.rows)
    ++ contents_bytes (entry_length ed) (bodies_start (length p.rows)) p.rows
    ++ bodies_bytes ed p.entries
