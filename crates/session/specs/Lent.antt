-- A session that is lent to be read, an operation that is made in its words, and the steps of a change. A reader need not believe
-- this: no public entry uses it.
use Rattle.std.specs.Prelude.{ℕ, ◌+◌, ◌-◌, ◌≤◌, ◌≡◌, List, length, Result}
use Rattle.refusals.specs.declared.Refusal.{Refusal}
use Rattle.task_model.specs.declared.Entry.{Entry}
use Rattle.task_model.specs.Limits.{most_entries, Node, NodeHolds}
use Rattle.node_words.specs.Lists.{zero_padded, splice}
use Rattle.node_words.specs.Words.{words_of}
use Rattle.completion.specs.Test.{completion_test}
use Rattle.map_store.specs.Store.{store_of, store_at_levels}
use Rattle.session.specs.declared.Session.{Session}
use Rattle.session.specs.declared.Changed.{Changed}
use Rattle.session.specs.declared.lent.LentSession.{LentSession}
use Rattle.session.specs.State.{node_in}
use Rattle.session.specs.InWords.{session_in, words_in}

-- The session that is lent.
abbrev pub session_lent : LentSession → Session
session_lent l = record { levels = l.levels; count = l.count; words = l.words.now; store = l.store.now }

-- An operation in words, which answers and leaves words as `returns` says, made on the session s: what it answers and leaves.
abbrev pub LeftBy : (List ℕ → Result Unit Refusal → List ℕ → Type 0) → Session → Changed → Type 0
LeftBy returns s c = (after : List ℕ) × returns (words_in s) c.answer after × (c.session ≡ session_in after)

-- A session with new entries in place of the `gone` entries from a position on, and its store as it was.
abbrev pub spliced : ℕ → ℕ → List Entry → Session → Session
spliced position gone new s =
    record {
      levels = s.levels;
      count = s.count - gone + length new;
      words = zero_padded (words_of (splice position gone new (node_in s).entries));
      store = s.store;
    }

-- What is asked of a session for that: the entries that go are in its list, the list has room for the new ones, and the node that
-- comes of it is within the limits.
pub record Spliceable (position gone : ℕ) (new : List Entry) (s : Session) : Type 0 where
  pub within : (position + gone ≤ s.count) × (s.count ≤ most_entries)
  pub few : (spliced position gone new s).count ≤ most_entries
  pub held : NodeHolds (node_in (spliced position gone new s))

-- A session with another store, which `work` makes of the old one and of the node,
abbrev pub with_store_by : (List ℕ → Node → List ℕ) → Session → Session
with_store_by work s = record { levels = s.levels; count = s.count; words = s.words; store = work s.store (node_in s) }

-- with its store worked out afresh,
abbrev pub remembered : Session → Session
remembered s = with_store_by (λ store n. store_of n) s

-- or with what its store becomes once the level count has been set from `before`.
abbrev pub remembered_at_levels : ℕ → Session → Session
remembered_at_levels before s = with_store_by (λ store n. store_at_levels completion_test before n store) s
