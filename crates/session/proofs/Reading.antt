-- The session of a node holds that node.
use Prim.Native.Nat.{ℕ, suc, ◌*◌, ◌<◌}
use mathlib.Core.Path.{◌≡◌, ap}
use mathlib.Core.Logic.{⊎_elim}
use mathlib.Core.List.{List, [], ◌∷◌}
use native.Mathlib.Nat.{mod-lt}
use native.Mathlib.Omega.{arith}
use lib.ListN.{length, get_or}
use Rattle.task_model.specs.declared.Entry.{Entry}
use Rattle.task_model.specs.Limits.{Node, entry_at, EntryHolds, NodeValid}
use Rattle.node_words.specs.Words.{entry_size, entry_from, entries_of, EntryFits, EntriesFit}
use Rattle.node_words.proofs.Entries.{entry_of_lem}
use Rattle.node_words.proofs.Words.{read_entries}
use Rattle.map_store.specs.Store.{store_of}
use Rattle.session.specs.State.{node_in, session_with, session_of}
use Rattle.node_words.specs.Lists.{zero_padded}

-- a node within the limits, with each entry number once, and numbers of 16 bits
pub record Kept (n : Node) : Type 0 where
  pub valid : NodeValid n
  pub short : (j : ℕ) → j < length n.entries → (entry_at n.entries j).number < 65536

pub fits : (e : Entry) → EntryHolds e → e.number < 65536 → EntryFits e
fits e h l =
    record {
      number = l;
      kind = ⊎_elim (λ k. omega (arith, k.0)) (λ k. omega (arith, k.0)) h.kind;
      calls = ⊎_elim (λ k. omega (arith, k.1)) (λ k. omega (arith, k.1)) h.kind;
      wcet = omega (arith, h.times);
      period = omega (arith, h.times);
      deadline = omega (arith, h.times);
      blocking = omega (arith, h.times);
      jitter = omega (arith, h.times, h.jitter);
    }

pub all_fit : (es : List Entry) → ((j : ℕ) → j < length es → EntryFits (entry_at es j)) → EntriesFit es
all_fit [] f = tt
all_fit (e ∷ es) f = (f 0 (omega arith), all_fit es (λ j h. f (suc j) (omega arith)))

module _ (n : Node) (k : Kept n) where
  pub kept_fit : EntriesFit n.entries
  kept_fit = all_fit n.entries (λ j h. fits _ (k.valid.within.each j h) (k.short j h))

  -- whatever its store holds
  pub read_with : (store : List ℕ) → node_in (session_with store n) ≡ n
  unfolding session_with zero_padded
  read_with store = ap (λ es. record { levels = n.levels; entries = es }) (read_entries n.entries _ kept_fit)

  pub read_back : node_in (session_of n) ≡ n
  read_back = read_with (store_of n)

-- the number in a word has 16 bits, so a node that passes its checks is kept in its words
pub number_short : (ws : List ℕ) (count j : ℕ) → j < count → (entry_at (entries_of ws count) j).number < 65536
unfolding entry_from
number_short ws count j h = rw (entry_of_lem ws count j h) (mod-lt (get_or ws (j * entry_size) 0) (omega arith))
