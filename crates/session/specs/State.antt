-- What a session has: a level count, an entry count, the words of a node, and those of a store. The session of a node has zero in
-- every word of the node beyond its entries.
use Rattle.std.specs.Prelude.{ℕ, ◌≡◌, List, length}
use Rattle.task_model.specs.Limits.{Node, NodeValid}
use Rattle.node_words.specs.Lists.{zeros, zero_padded}
use Rattle.node_words.specs.Words.{node_size, words_of, node_of}
use Rattle.completion.specs.Test.{completion_test}
use Rattle.level_map.specs.Assignments.{EntryTest}
use Rattle.map_store.specs.Store.{store_size, store_under}
use Rattle.session.specs.declared.Session.{Session}

-- The node that a session holds: its level count, and the entries that its first words hold.
abbrev pub node_in : Session → Node
node_in s = node_of s.words s.count s.levels

-- The session of a node, with the words of a store.
unfoldable pub session_with : List ℕ → Node → Session
session_with store n =
    record { levels = n.levels; count = length n.entries; words = zero_padded (words_of n.entries); store = store }

-- The session of a node under a test, with its map and its times worked out. The node determines every word.
abbrev pub session_under : EntryTest → Node → Session
session_under test n = session_with (store_under test n) n

-- The session of a node.
abbrev pub session_of : Node → Session
session_of n = session_under completion_test n

-- A sound session holds a node within the limits, with each entry number once, and is the session of that node, store
-- included.
pub record Sound (s : Session) : Type 0 where
  pub valid : NodeValid (node_in s)
  pub determined : s ≡ session_of (node_in s)

-- A session that is not open: no levels, no entries, no map.
abbrev pub blank_session : Session
blank_session = record { levels = 0; count = 0; words = zeros node_size; store = zeros store_size }
