-- The writer's checks accept a plan exactly if it is within the limits and its edition has a place for every entry. A file
-- that is longer than any plan's is not accepted.
use Prim.Native.Nat.{ℕ, zero, suc, ◌+◌, ◌*◌, ◌/◌, ◌≤◌, ◌<◌}
use mathlib.Core.Path.{◌≡◌, ◌∙◌, refl}
use mathlib.Core.List.{List, [], ◌∷◌}
use native.Mathlib.Omega.{arith}
use lib.ListN.{length, take, drop, length-drop}
use lib.Seq.{length-take-le}
use borrow.Author.Tests.{eq-eqb, ne_eqb}
use Rattle.task_model.specs.Checks.{body_by}
use Rattle.node_words.specs.Words.{entry_size}
use Rattle.refusals.specs.Refusals.{at, accepted, refused, must_hold}
use Rattle.refusals.proofs.Outcomes.{both_accepted, then_accepted, must_hold-accepts, must_hold-refuses}
use Rattle.node_words.proofs.Entries.{length-entries}
use Rattle.plan_file.specs.declared.Edition.TheVariants.{Second}
use Rattle.plan_file.specs.declared.Edition.{Edition}
use Rattle.plan_file.specs.declared.Row.{Row}
use Rattle.plan_file.specs.Plan.{most_nodes, Plan, entry_count, plan_of}
use Rattle.plan_file.specs.Check.{row_test, rows_check, contents_check, layout_check, written_check, plan_check, words_check}
use Rattle.plan_file.specs.Encoding.{entry_length, bodies_start}
use Rattle.plan_file.specs.Decoding.{rows_from}
use Rattle.plan_file.specs.Find.{row_in, node_of_row}
use Rattle.plan_file.specs.Limits.{PlanHolds, EditionFits, EditionHolds, longest}
use Rattle.plan_file.proofs.Tests.{RowHolds, row_true}
use Rattle.plan_file.proofs.WriterChecks.{writer_holds, writer_nodes, count_true, body_written, written_fits}
use Rattle.plan_file.proofs.Finding.{rows_each, not_below}
use Rattle.plan_file.proofs.Bodies.{each_part, bodies_accepted, bodies_each}
use Rattle.plan_file.proofs.Contents.{length-rows}
use Rattle.plan_file.proofs.Nodes.{count_split, contents_rows}
use Rattle.plan_file.proofs.Encoding.{entry_short}
use Rattle.plan_file.proofs.Decoded.{few_entries_lem}

-- rows that are accepted have numbers that rise
rows_rise : (k least : ℕ) (rs : List Row) → rows_check k least rs ≡ accepted → (i : ℕ) → suc i < length rs
    → (row_in rs i).number < (row_in rs (suc i)).number
unfolding rows_check
rows_rise k least [] a i h = absurd (omega arith)
rows_rise k least (r ∷ rs) a zero h =
    omega (arith, not_below (suc k) (suc r.number) rs (both_accepted (must_hold (row_test least r) _) _ a).1 0 (omega arith))
rows_rise k least (r ∷ rs) a (suc i) h =
    rows_rise (suc k) (suc r.number) rs (both_accepted (must_hold (row_test least r) _) _ a).1 i (omega arith)

-- and rows of that kind, each within its limits, are accepted
rows_accepted : (k least : ℕ) (rs : List Row)
    → (0 < length rs → least ≤ (row_in rs 0).number)
    → ((i : ℕ) → i < length rs → RowHolds 0 (row_in rs i))
    → ((i : ℕ) → suc i < length rs → (row_in rs i).number < (row_in rs (suc i)).number)
    → rows_check k least rs ≡ accepted
unfolding rows_check
rows_accepted k least [] first each rise = refl
rows_accepted k least (r ∷ rs) first each rise =
    let e = each 0 (omega arith) in
    let t : RowHolds least r =
    record {
      rises = first (omega arith);
      some_levels = e.some_levels;
      few_levels = e.few_levels;
      few_entries = e.few_entries;
    } in
    then_accepted _ _ (must_hold-accepts _ _ (row_true least r t))
    ∙ rows_accepted (suc k) (suc r.number) rs
    (λ h. rise 0 (omega arith))
    (λ i h. each (suc i) (omega arith))
    (λ i h. rise (suc i) (omega arith))

module _ (ed : Edition) (p : Plan) where
  -- a node has as many entries as its row counts, where the counts add up
  length-node : entry_count p.rows ≡ length p.entries → (i : ℕ) → i < length p.rows
      → length (node_of_row p i).entries ≡ (row_in p.rows i).count
  unfolding node_of_row
  length-node e i h =
      length-take-le (row_in p.rows i).count (drop (entry_count (take i p.rows)) p.entries)
      (omega (arith, count_split p.rows i h, length-drop (entry_count (take i p.rows)) p.entries))

  pub plan_holds : plan_check ed p ≡ accepted → PlanHolds p × EditionHolds ed p
  unfolding node_of_row
  plan_holds a =
      let h = writer_holds ed p.rows p.entries (length p.entries * entry_size) a in
      let e : entry_count p.rows ≡ length p.entries = omega (arith, h.counts) in (
        record {
          some = h.some;
          few = h.few;
          rising = rows_rise 0 0 p.rows h.rows_hold;
          nodes =
              λ i l.
              let r = rows_each 0 0 p.rows h.rows_hold i l in
              let t = bodies_each (body_by (written_check ed)) _ (body_written ed) 0 p.rows p.entries h.nodes i l in
              record {
                within =
                    record {
                      some_levels = r.some_levels;
                      few_levels = r.few_levels;
                      few_entries = omega (arith, length-node e i l, r.few_entries);
                      each = λ j k. (t.0 j k).0;
                    };
                numbers = t.1;
              };
          counts = e;
        },
        written_fits ed 0 p.rows p.entries h.nodes (omega arith),
      )

  pub holds_accepted : PlanHolds p → EditionHolds ed p → plan_check ed p ≡ accepted
  unfolding node_of_row
  holds_accepted h fits =
      let rows =
      rows_accepted 0 0 p.rows (λ l. omega arith)
      (λ i l.
      let n = (h.nodes i l).within in
      record {
        rises = omega arith;
        some_levels = n.some_levels;
        few_levels = n.few_levels;
        few_entries = omega (arith, length-node h.counts i l, n.few_entries);
      })
      h.rising in
      writer_nodes ed p.rows p.entries (length p.entries * entry_size) (count_true (length p.rows) h.some h.few)
      (then_accepted _ _ rows ∙ must_hold-accepts _ _ (eq-eqb (length p.entries * entry_size) (entry_count p.rows * entry_size) (omega (arith, h.counts))))
      ∙ bodies_accepted (body_by (written_check ed)) _ (body_written ed) 0 p.rows p.entries
      (λ i l. (
        (λ j k. (
          (h.nodes i l).within.each j k,
          each_part (EditionFits ed) p.entries fits (row_in p.rows i).count (entry_count (take i p.rows)) j k,
        )),
        (h.nodes i l).numbers,
      ))

-- words that are accepted hold a plan that is
pub words_plan : (ed : Edition) (rs ws : List ℕ) → words_check ed rs ws ≡ accepted → plan_check ed (plan_of rs ws) ≡ accepted
words_plan ed rs ws a =
    let n : length ws / entry_size * entry_size ≡ length ws = omega (arith, (writer_holds _ _ _ _ a).counts) in
    rw (length-entries ws 0 (length ws / entry_size), n) a

-- accepted rows end too early for a file that is longer than any plan's
pub long_layout : (ed : Edition) (f : List ℕ) → longest Second < length f → (n : ℕ) → n ≤ most_nodes
    → contents_check (entry_length ed) f 0 0 (bodies_start n) (rows_from f 0 n) ≡ accepted
    → layout_check (entry_length ed) f 0 0 (bodies_start n) (rows_from f 0 n) ≡ refused (at 6 0 0)
unfolding layout_check
long_layout ed f l n few a =
    let rs = rows_from f 0 n in
    let k = few_entries_lem 0 0 rs (contents_rows (entry_length ed) f 0 0 (bodies_start n) rs a) in
    then_accepted _ _ a
    ∙ must_hold-refuses _ _
    (ne_eqb (length f) (bodies_start n + entry_count rs * entry_length ed) (λ e. omega (arith, length-rows f 0 n, entry_short ed (entry_count rs))))
