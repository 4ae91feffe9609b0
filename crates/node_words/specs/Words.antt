-- Entries in memory: six words of 32 bits per entry, with the fields in the order and the widths of a plan file's second
-- edition. The first word has the number in its low 16 bits, then the kind and the calls in 8 bits each. The other words are
-- C, T, D, B and J.
use Rattle.std.specs.Prelude.{ℕ, zero, suc, ◌+◌, ◌*◌, ◌/◌, ◌%◌, ◌<◌, List, [], ◌∷◌, ◌++◌, get_or}
use Rattle.task_model.specs.declared.Entry.{Entry}
use Rattle.task_model.specs.Limits.{most_entries, Node}

-- How many words an entry has.
abbrev pub entry_size : ℕ
entry_size = 6

-- How many words a node has, with room for all its entries.
abbrev pub node_size : ℕ
node_size = most_entries * entry_size

-- The words of an entry.
unfoldable pub entry_words : Entry → List ℕ
entry_words e =
    (e.number + e.kind * 65536 + e.calls * 16777216) ∷ e.wcet ∷ e.period ∷ e.deadline ∷ e.blocking ∷ e.jitter ∷ []

-- The entry in the words from word `k` on.
unfoldable pub entry_from : List ℕ → ℕ → Entry
entry_from ws k =
    record {
      number = get_or ws k 0 % 65536;
      kind = get_or ws k 0 / 65536 % 256;
      calls = get_or ws k 0 / 16777216 % 256;
      wcet = get_or ws (k + 1) 0;
      period = get_or ws (k + 2) 0;
      deadline = get_or ws (k + 3) 0;
      blocking = get_or ws (k + 4) 0;
      jitter = get_or ws (k + 5) 0;
    }

-- The words of entries, one after the other.
unfoldable pub words_of : List Entry → List ℕ
words_of [] = []
words_of (e ∷ es) = entry_words e ++ words_of es

-- The entry at position `j`.
abbrev pub entry_of : List ℕ → ℕ → Entry
entry_of ws j = entry_from ws (j * entry_size)

-- The entries from position `j` on, `n` of them.
unfoldable pub entries_from : List ℕ → ℕ → ℕ → List Entry
entries_from ws j zero = []
entries_from ws j (suc n) = entry_of ws j ∷ entries_from ws (suc j) n

-- The first `n` entries.
abbrev pub entries_of : List ℕ → ℕ → List Entry
entries_of ws n = entries_from ws 0 n

-- The node that has the first `n` entries and this number of levels.
abbrev pub node_of : List ℕ → ℕ → ℕ → Node
node_of ws n levels = record { levels = levels; entries = entries_of ws n }

-- An entry fits its words. The widths of its fields in bits: number 16, kind and r 8 each, C, T, D, B and J 32 each.
pub record EntryFits (e : Entry) : Type 0 where
  pub number : e.number < 65536
  pub kind : e.kind < 256
  pub calls : e.calls < 256
  pub wcet : e.wcet < 4294967296
  pub period : e.period < 4294967296
  pub deadline : e.deadline < 4294967296
  pub blocking : e.blocking < 4294967296
  pub jitter : e.jitter < 4294967296

-- Every entry of a list fits.
abbrev pub EntriesFit : List Entry → Type 0
EntriesFit [] = Unit
EntriesFit (e ∷ es) = EntryFits e × EntriesFit es

-- Every number of the list is a word of 32 bits.
abbrev pub WordsFit : List ℕ → Type 0
WordsFit ws = (i : ℕ) → get_or ws i 0 < 4294967296
