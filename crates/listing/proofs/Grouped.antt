-- The lines of a node, written group by group, are its lines under the levels of its cuts.
use Prim.Native.Nat.{ℕ, zero, suc, ◌+◌, ◌-◌, ◌*◌, ◌≤◌, ◌<◌}
use mathlib.Core.Path.{◌≡◌, ◌∙◌, refl, ap, ap₂, sym}
use mathlib.Core.List.{List, [], ◌++◌, append_assoc, append-nil}
use native.Mathlib.Numerals.{add-one}
use native.Mathlib.Omega.{arith}
use lib.ListN.{length}
use Rattle.task_model.specs.declared.Entry.{Entry}
use Rattle.task_model.specs.Limits.{entry_at}
use Rattle.completion.specs.Group.{group_level}
use Rattle.completion.specs.Test.{completion_test}
use Rattle.completion.proofs.Theorems.{by_answer}
use Rattle.level_map.specs.Assignments.{level_of}
use Rattle.level_map.specs.declared.cuts.Cuts.{Cuts}
use Rattle.level_map.specs.Cuts.{Falling, levels_of_cuts, before}
use Rattle.level_map.specs.Found.{starts_in, levels_in}
use Rattle.level_map.proofs.Grouping.{cut_level, cut_timed}
use Rattle.listing.specs.Listing.{entry_text, entries_text}
use Rattle.listing.specs.Groups.{timed_line, group_text}
use Rattle.text.specs.declared.Cursor.{Cursor}
use Rattle.text.specs.Text.{Upto}
use Rattle.listing.proofs.Lines.{upto_same, upto_append}
use Rattle.listing.proofs.Texts.{entry_on_time, entry_late, entries_more}

-- an entry's line by the answer of its test
entry_timed : (es : List Entry) (m : List ℕ) (i : ℕ)
    → entry_text es m i ≡ timed_line (entry_at es i) (level_of m i) (completion_test es (level_of m) i)
entry_timed es m i =
    by_answer (completion_test es (level_of m) i)
    (λ time rounds e. entry_on_time es m i time rounds e ∙ sym (ap (timed_line (entry_at es i) (level_of m i)) e))
    (λ rounds over e. entry_late es m i rounds over e ∙ sym (ap (timed_line (entry_at es i) (level_of m i)) e))

-- a group's lines, one more at a time
module _ (es : List Entry) (first last level : ℕ) where
  pub group_none : group_text es first last level 0 ≡ []
  unfolding group_text
  group_none = refl

  pub group_more : (k : ℕ) → group_text es first last level (k + 1)
      ≡ group_text es first last level k
      ++ timed_line (entry_at es (first + k)) level (completion_test es (group_level first last) (first + k))
  unfolding group_text
  group_more k = rw (add-one k, group_text)

-- the lines up to a group and those of the group
module _ (es : List Entry) (s : List ℕ) (f : Falling s (length es)) (l : ℕ) where
  abbrev m : List ℕ
  m = levels_of_cuts s (length es)

  group_lines : (k : ℕ) → before l m + k ≤ before (suc l) m
      → entries_text es m (before l m + k) ≡ entries_text es m (before l m) ++ group_text es (before l m) (before (suc l) m - 1) l k
  group_lines zero h =
      let e : before l m + 0 ≡ before l m = omega arith in
      rw (e, group_none es (before l m) (before (suc l) m - 1) l, append-nil)
  group_lines (suc k) h =
      let i = before l m + k in
      let e : before l m + suc k ≡ i + 1 = omega arith in
      let e' : suc k ≡ k + 1 = omega arith in
      let lo : before l m ≤ i = omega arith in
      let hi : i < before (suc l) m = omega arith in
      rw (e, e', entries_more es m i, group_more es (before l m) (before (suc l) m - 1) l k)
      (ap₂ ◌++◌ (group_lines k (omega arith))
      (entry_timed es m i ∙ ap₂ (timed_line (entry_at es i)) (cut_level es s f l i lo hi) (cut_timed es s f l i lo hi))
      ∙ simp append_assoc)

  pub group_whole : (first end : ℕ) → first ≡ before l m → end ≡ before (suc l) m → first ≤ end
      → entries_text es m end ≡ entries_text es m first ++ group_text es first (end - 1) l (end - first)
  group_whole first end p q h =
      let e : before l m + (before (suc l) m - before l m) ≡ before (suc l) m = omega arith in
      rw (p, q) (rw e at (group_lines (before (suc l) m - before l m) (omega arith)))

-- the same for the groups of the cuts of a node
module _ (es : List Entry) (c : Cuts) (sized : length es ≡ c.count) where
  pub group_next : (l first end : ℕ) → first ≡ before l (levels_in c) → end ≡ before (suc l) (levels_in c) → first ≤ end
      → entries_text es (levels_in c) end ≡ entries_text es (levels_in c) first ++ group_text es first (end - 1) l (end - first)
  group_next l first end p q h =
      rw sized at (group_whole es (starts_in c) (rw sized c.falling) l first end (rw sized p) (rw sized q) h)

  -- one group more is written
  pub group_put : (o n new : Cursor) (l first end : ℕ) → first ≡ before l (levels_in c) → end ≡ before (suc l) (levels_in c) → first ≤ end
      → o.at + 56 * end ≤ length o.out.now
      → Upto o (56 * before l (levels_in c)) (entries_text es (levels_in c) (before l (levels_in c))) n
      → Upto n (56 * (end - first)) (group_text es first (end - 1) l (end - first)) new
      → Upto o (56 * end) (entries_text es (levels_in c) end) new
  group_put o n new l first end p q h room u v =
      let size : 56 * first + 56 * (end - first) ≡ 56 * end = omega arith in
      upto_same (sym (group_next l first end p q h)) (rw size at (upto_append (rw (← p) at u) (omega arith) v))
