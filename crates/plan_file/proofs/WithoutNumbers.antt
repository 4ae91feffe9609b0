-- How the checks of files and plans relate to those before entry numbers were checked.
use Prim.Native.Nat.{ℕ, suc, ◌*◌, ◌<◌}
use mathlib.Core.Path.{◌≡◌, ◌∙◌, refl, sym, ap₂}
use mathlib.Core.Bool.{false}
use mathlib.Core.Logic.{◌↔◌}
use mathlib.Core.List.{List, [], ◌∷◌}
use native.Mathlib.Omega.{arith}
use lib.ListN.{length, take, drop}
use Rattle.refusals.specs.Refusals.{Outcome, accepted, ◌and_then◌}
use Rattle.task_model.specs.declared.Entry.{Entry}
use Rattle.task_model.specs.Limits.{NumbersDiffer}
use Rattle.task_model.specs.Checks.{entry_check, body_by}
use Rattle.task_model.specs.WithoutJitter.{Punctual, punctual_check}
use Rattle.task_model.proofs.WithoutNumbers.{body_differ}
use Rattle.node_words.specs.Words.{entry_size}
use Rattle.plan_file.specs.declared.Edition.{Edition}
use Rattle.plan_file.specs.declared.Edition.TheVariants.{Second}
use Rattle.plan_file.specs.declared.Row.{Row}
use Rattle.plan_file.specs.Plan.{Plan, entry_count}
use Rattle.plan_file.specs.Decoding.{opening_test, node_count, plan_in}
use Rattle.plan_file.specs.Check.{bodies_by, nodes_by, file_check, written_check, writer_check, plan_check}
use Rattle.plan_file.specs.Find.{node_of_row}
use Rattle.plan_file.specs.WithoutNumbers.{PlanNumbersDiffer, loose_file_check, loose_writer_check, loose_plan_check, loose_first_check, loose_first_writer_check}
use Rattle.plan_file.specs.FirstEdition.{first_edition_check, first_edition_plan, first_writer_check}
use Rattle.plan_file.proofs.Bodies.{part, part_later}
use Rattle.plan_file.proofs.Contents.{length-rows}
use Rattle.plan_file.proofs.Limits.{plan_holds}
use Rattle.plan_file.proofs.FirstEdition.{first_edition, first_plan, writer_punctual}
use Rattle.plan_file.proofs.Theorems.{numbers_differ}

-- row by row, by any check of one entry
bodies_differ : (check : ℕ → ℕ → Entry → Outcome) (k : ℕ) (rs : List Row) (es : List Entry)
    → ((i : ℕ) → i < length rs → NumbersDiffer (part rs es i)) → bodies_by (body_by check) k rs es ≡ nodes_by check k rs es
unfolding bodies_by entry_count
bodies_differ check k [] es d = refl
bodies_differ check k (r ∷ rs) es d =
    ap₂ ◌and_then◌ (body_differ check k (take r.count es) (d 0 (omega arith)))
    (bodies_differ check (suc k) rs (drop r.count es) (λ i h. rw (part_later r rs es i) (d (suc i) (omega arith))))

rows_differ : (check : ℕ → ℕ → Entry → Outcome) (p : Plan) → PlanNumbersDiffer p
    → bodies_by (body_by check) 0 p.rows p.entries ≡ nodes_by check 0 p.rows p.entries
unfolding node_of_row
rows_differ check p d = bodies_differ check 0 p.rows p.entries d

-- A file whose numbers are all different, node by node, is checked as it was.
pub file_differ : (f : List ℕ) → PlanNumbersDiffer (plan_in f) → file_check f ≡ loose_file_check f
unfolding file_check loose_file_check
file_differ f d = rw (rows_differ entry_check (plan_in f) d)

-- And so is a plan to be written.
pub writer_differ : (ed : Edition) (p : Plan) (words : ℕ) → PlanNumbersDiffer p
    → writer_check ed p.rows p.entries words ≡ loose_writer_check ed p.rows p.entries words
unfolding writer_check loose_writer_check
writer_differ ed p words d = rw (rows_differ (written_check ed) p d)

-- A file is accepted exactly if it was, and the numbers of each node are all different.
pub file_fewer : (f : List ℕ) → file_check f ≡ accepted ↔ ((loose_file_check f ≡ accepted) × PlanNumbersDiffer (plan_in f))
file_fewer f = (
  λ a.
      let d : PlanNumbersDiffer (plan_in f) = λ i h. numbers_differ f a i (omega (arith, length-rows f 0 (node_count f))) in
      (sym (file_differ f d) ∙ a, d),
  λ h. file_differ f h.1 ∙ h.0,
)

-- And so is a plan.
pub plan_fewer : (ed : Edition) (p : Plan) → plan_check ed p ≡ accepted ↔ ((loose_plan_check ed p ≡ accepted) × PlanNumbersDiffer p)
plan_fewer ed p = (
  λ a.
      let d : PlanNumbersDiffer p = λ i h. ((plan_holds ed p a).0.nodes i h).numbers in
      (sym (writer_differ ed p (length p.entries * entry_size) d) ∙ a, d),
  λ h. writer_differ ed p (length p.entries * entry_size) h.1 ∙ h.0,
)

-- A file that does not open with the second edition's bytes, and whose numbers are all different, is checked as it was before
-- there was a second edition,
pub first_differ : (f : List ℕ) → opening_test Second f ≡ false → PlanNumbersDiffer (plan_in f) → file_check f ≡ loose_first_check f
unfolding first_edition_check loose_first_check
first_differ f p d =
    let e : PlanNumbersDiffer (first_edition_plan f) = rw (first_plan f p) at d in
    first_edition f p ∙ rw (rows_differ punctual_check (first_edition_plan f) e)

-- and so is a plan to be written whose every J is 0.
pub first_writer_differ : (ed : Edition) (p : Plan) (words : ℕ) → Punctual p.entries → PlanNumbersDiffer p
    → writer_check ed p.rows p.entries words ≡ loose_first_writer_check p.rows p.entries words
unfolding first_writer_check loose_first_writer_check
first_writer_differ ed p words h d = writer_punctual ed p.rows p.entries words h ∙ rw (rows_differ punctual_check p d)
