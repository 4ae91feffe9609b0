-- The writer's checks one after another.
use Prim.Native.Nat.{ℕ, ◌*◌, ◌≤◌, ◌<◌}
use mathlib.Core.Path.{◌≡◌, ◌∙◌, sym, ap}
use mathlib.Core.Bool.{true, false}
use mathlib.Core.Logic.{◌↔◌}
use mathlib.Core.List.{List}
use native.Mathlib.Omega.{arith}
use lib.ListN.{length, take}
use lib.Dec.{eqb}
use borrow.Author.Tests.{le-leb, leb-true, eqb-true, eq-eqb, ne_eqb}
use Rattle.node_words.specs.Words.{entry_size}
use Rattle.task_model.specs.declared.Entry.{Entry}
use Rattle.refusals.specs.Refusals.{Numbered, at, Outcome, accepted, refused, ◌and_then◌, must_hold}
use Rattle.task_model.specs.Limits.{EntryHolds, NumbersDiffer}
use Rattle.task_model.specs.Checks.{entry_check, body_by, body_check}
use Rattle.task_model.proofs.Tests.{and_true, decided}
use Rattle.task_model.proofs.Theorems.{entry_accepted, body_exactly, body_accepted}
use Rattle.plan_file.specs.declared.Edition.{Edition}
use Rattle.plan_file.specs.declared.Edition.TheVariants.{First, Second}
use Rattle.plan_file.specs.declared.Row.{Row}
use Rattle.plan_file.specs.Plan.{most_nodes, entry_count}
use Rattle.plan_file.specs.Check.{count_test, rows_check, bodies_by, written_check, writer_check}
use Rattle.plan_file.specs.Find.{row_in}
use Rattle.plan_file.specs.Limits.{EditionFits}
use Rattle.refusals.proofs.Outcomes.{both_accepted, then_refused, then_accepted, then_assoc, must_hold-accepts, must_hold-refuses, demanded}
use Rattle.plan_file.proofs.Bodies.{Each, each_part, bodies_accepted, bodies_each, parts_all}

pub count_true : (n : ℕ) → 1 ≤ n → n ≤ most_nodes → count_test n ≡ true
unfolding count_test
count_true n h1 h2 = rw (le-leb 1 n h1, le-leb n most_nodes h2)

pub count_hold : (n : ℕ) → count_test n ≡ true → (1 ≤ n) × (n ≤ most_nodes)
unfolding count_test
count_hold n p = let q = and_true _ _ p in (leb-true _ _ q.0, leb-true _ _ q.1)

pub count_false : (n : ℕ) → (1 ≤ n → n ≤ most_nodes → ⊥) → count_test n ≡ false
count_false n out = decided (count_test n) (count_hold n) (λ h. out h.0 h.1)

-- the rows' own check, and then that of the words
abbrev pub tally : List Row → ℕ → Outcome
tally rows words = rows_check 0 0 rows and_then must_hold (eqb words (entry_count rows * entry_size)) (at 6 0 0)

pub tally_holds : (rows : List Row) (words : ℕ) → tally rows words ≡ accepted
    → (rows_check 0 0 rows ≡ accepted) × (words ≡ entry_count rows * entry_size)
tally_holds rows words p =
    let q = both_accepted (rows_check 0 0 rows) _ p in (q.0, eqb-true _ _ (demanded _ _ q.1))

module _ (ed : Edition) (rows : List Row) (entries : List Entry) (words : ℕ) where
  pub regrouped : writer_check ed rows entries words
      ≡ must_hold (count_test (length rows)) (at 3 0 0) and_then (tally rows words and_then bodies_by (body_by (written_check ed)) 0 rows entries)
  unfolding writer_check
  regrouped = ap (λ o. must_hold (count_test (length rows)) (at 3 0 0) and_then o) (sym (then_assoc (rows_check 0 0 rows) _ _))

  pub writer_count : count_test (length rows) ≡ false → writer_check ed rows entries words ≡ refused (at 3 0 0)
  writer_count p = regrouped ∙ rw p

  module _ (h : count_test (length rows) ≡ true) where
    pub writer_tally : (r : Numbered) → tally rows words ≡ refused r → writer_check ed rows entries words ≡ refused r
    writer_tally r p = regrouped ∙ rw (h, p)

    pub writer_nodes : tally rows words ≡ accepted → writer_check ed rows entries words ≡ bodies_by (body_by (written_check ed)) 0 rows entries
    writer_nodes p = regrouped ∙ rw (h, p)

  pub record WriterHolds : Type 0 where
    pub some : 1 ≤ length rows
    pub few : length rows ≤ most_nodes
    pub rows_hold : rows_check 0 0 rows ≡ accepted
    pub counts : words ≡ entry_count rows * entry_size
    pub nodes : bodies_by (body_by (written_check ed)) 0 rows entries ≡ accepted

  pub writer_holds : writer_check ed rows entries words ≡ accepted → WriterHolds
  writer_holds p =
      let p1 = both_accepted (must_hold (count_test (length rows)) (at 3 0 0)) _ (sym regrouped ∙ p) in
      let p2 = both_accepted (tally rows words) _ p1.1 in
      let n = count_hold _ (demanded _ _ p1.0) in
      let t = tally_holds rows words p2.0 in
      record { some = n.0; few = n.1; rows_hold = t.0; counts = t.1; nodes = p2.1 }

-- an entry that is to be written is accepted exactly if it is within the limits and the edition has a place for it
pub written_accepted : (ed : Edition) (row p : ℕ) (e : Entry)
    → written_check ed row p e ≡ accepted ↔ (EntryHolds e × EditionFits ed e)
unfolding written_check
written_accepted First row p e = (
  λ a. let q = both_accepted (entry_check row p e) _ a in ((entry_accepted row p e).0 q.0, eqb-true _ _ (demanded _ _ q.1)),
  λ h. then_accepted (entry_check row p e) _ ((entry_accepted row p e).1 h.0) ∙ must_hold-accepts _ _ (eq-eqb e.jitter 0 h.1),
)
written_accepted Second row p e = (λ a. ((entry_accepted row p e).0 a, tt), λ h. (entry_accepted row p e).1 h.0)

-- in the first edition: 7, 8 and 14, then that J is 0
module _ (row p : ℕ) (e : Entry) where
  pub first_refuses : (r : Numbered) → entry_check row p e ≡ refused r → written_check First row p e ≡ refused r
  unfolding written_check
  first_refuses r q = then_refused (entry_check row p e) _ r q

  pub first_jitter : entry_check row p e ≡ accepted → 0 < e.jitter → written_check First row p e ≡ refused (at 14 row p)
  unfolding written_check
  first_jitter q h = then_accepted (entry_check row p e) _ q ∙ must_hold-refuses _ _ (ne_eqb e.jitter 0 (λ z. omega arith))

  pub first_accepts : entry_check row p e ≡ accepted → e.jitter ≡ 0 → written_check First row p e ≡ accepted
  unfolding written_check
  first_accepts q z = then_accepted (entry_check row p e) _ q ∙ must_hold-accepts _ _ (eq-eqb e.jitter 0 z)

-- so the entries at a row are accepted exactly if each is, and their numbers are all different
pub body_written : (ed : Edition) (row : ℕ) (es : List Entry)
    → body_by (written_check ed) row es ≡ accepted ↔ (Each (λ e. EntryHolds e × EditionFits ed e) es × NumbersDiffer es)
body_written ed = body_exactly (written_check ed) (λ e. EntryHolds e × EditionFits ed e) (written_accepted ed)

-- and the writer's check of entries is that of a file, and that the edition has a place for each
module _ (ed : Edition) (k : ℕ) (rs : List Row) (es : List Entry) where
  pub nodes_written : bodies_by body_check k rs es ≡ accepted → Each (EditionFits ed) es
      → bodies_by (body_by (written_check ed)) k rs es ≡ accepted
  nodes_written a fits =
      bodies_accepted (body_by (written_check ed)) _ (body_written ed) k rs es
      (λ i h.
      let t = bodies_each body_check _ body_accepted k rs es a i h in (
        (λ j l. (t.0 j l, each_part (EditionFits ed) es fits (row_in rs i).count (entry_count (take i rs)) j l)),
        t.1,
      ))

  pub written_nodes : bodies_by (body_by (written_check ed)) k rs es ≡ accepted → bodies_by body_check k rs es ≡ accepted
  written_nodes a =
      bodies_accepted body_check _ body_accepted k rs es
      (λ i h. let t = bodies_each (body_by (written_check ed)) _ (body_written ed) k rs es a i h in ((λ j l. (t.0 j l).0), t.1))

  pub written_fits : bodies_by (body_by (written_check ed)) k rs es ≡ accepted → length es ≤ entry_count rs → Each (EditionFits ed) es
  written_fits a =
      parts_all (EditionFits ed) rs es
      (λ i h j l. ((bodies_each (body_by (written_check ed)) _ (body_written ed) k rs es a i h).0 j l).1)
