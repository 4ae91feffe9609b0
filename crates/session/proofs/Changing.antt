-- After a change, the words that it leaves are the session of the changed node.
use Prim.Native.Nat.{ℕ, ◌+◌, ◌-◌, ◌≤◌}
use mathlib.Core.Path.{◌≡◌, ◌∙◌, refl, sym, ap}
use mathlib.Core.List.{List}
use native.Mathlib.Omega.{arith}
use lib.ListN.{length, length-append, length-replicate}
use Rattle.task_model.specs.declared.Entry.{Entry}
use Rattle.task_model.specs.Limits.{most_entries, Node}
use Rattle.node_words.specs.Words.{node_size, words_of, entries_of, node_of}
use Rattle.node_words.proofs.Words.{length-words}
use Rattle.node_words.specs.Lists.{zeros, zero_padded, splice}
use Rattle.node_words.proofs.Entries.{length-entries}
use Rattle.node_words.proofs.Lists.{Each, insert_is, remove_is, replace_is, size_spliced, each_spliced}
use Rattle.session.specs.declared.Session.{Session}
use Rattle.session.specs.State.{session_with}
use Rattle.session.specs.Operations.{Change, inserting, removing, replacing, setting_levels, changed}
use Rattle.session.proofs.Checking.{position_of, gone_of, new_of, counted, Ready}

-- a change of the entries is a splice
pub changed_is : (c : Change) (n : Node) → (changed c n).entries ≡ splice (position_of c) (gone_of c) (new_of c) n.entries
unfolding changed
changed_is (inserting p e) n = insert_is p n.entries e
changed_is (removing p) n = remove_is p n.entries
changed_is (replacing p e) n = replace_is p n.entries e
changed_is (setting_levels l) n = refl

-- so it leaves as many entries,
pub size_changed : (c : Change) (n : Node) → position_of c + gone_of c ≤ length n.entries → length (changed c n).entries ≡ counted c (length n.entries)
size_changed c n h = ap length (changed_is c n) ∙ size_spliced (position_of c) n.entries (gone_of c) (new_of c) h

-- and what holds for each entry before, and for each that is new, holds for each after it
pub each_changed : (P : Entry → Type 0) (c : Change) (n : Node) → Each P (new_of c) → Each P n.entries → Each P (changed c n).entries
each_changed P c n h a =
    rw (changed_is c n) (each_spliced P (position_of c) (gone_of c) (new_of c) n.entries h a)

-- the words of a node, filled up
pub padded_size : (es : List Entry) → length es ≤ most_entries → length (zero_padded (words_of es)) ≡ node_size
unfolding zero_padded
padded_size es h =
    omega (
      arith,
      length-append (words_of es) (zeros (node_size - length (words_of es))),
      length-replicate {A = ℕ} (node_size - length (words_of es)) 0,
      length-words es,
    )

module _ (ws : List ℕ) (count levels : ℕ) where
  kept : length (entries_of ws count) ≡ count
  kept = length-entries ws 0 count

  -- a session that has the words of the changed node's entries is the session of that node, with its store
  pub session_made_lem : (c : Change) → Ready c count → (w : List ℕ) → w ≡ zero_padded (words_of (changed c (node_of ws count levels)).entries)
      → (store : List ℕ)
      → ◌≡◌ {A = Session} (record { levels = (changed c (node_of ws count levels)).levels; count = counted c count; words = w; store = store })
      (session_with store (changed c (node_of ws count levels)))
  unfolding session_with
  session_made_lem c r w e store =
      let sized : counted c count ≡ length (changed c (node_of ws count levels)).entries =
      ap (counted c) (sym kept) ∙ sym (size_changed c (node_of ws count levels) (rw kept r.within)) in
      rw (sized, e)
