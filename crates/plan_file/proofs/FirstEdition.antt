-- The check of every file that does not open with the second edition's bytes is the check of before, and so is the writer's
-- check of a plan whose every J is 0.
use Prim.Native.Nat.{ℕ, suc, ◌+◌}
use mathlib.Core.Path.{◌≡◌, ◌∙◌, refl, ap, ap₂}
use mathlib.Core.Bool.{Bool, true, false, ◌||◌}
use mathlib.Core.List.{List, [], ◌∷◌}
use native.Mathlib.Omega.{arith}
use lib.ListN.{take, drop, length-take, length-drop}
use lib.Seq.{get_or-take, get_or-drop}
use borrow.Author.Tests.{eq-eqb}
use Rattle.refusals.specs.Refusals.{Outcome, ◌and_then◌}
use Rattle.refusals.proofs.Outcomes.{then_nothing}
use Rattle.task_model.specs.declared.Entry.{Entry}
use Rattle.task_model.specs.Limits.{no_entry}
use Rattle.task_model.specs.Checks.{entry_check, entries_by, numbers_check, body_by}
use Rattle.task_model.specs.WithoutJitter.{Punctual, punctual_check}
use Rattle.task_model.proofs.WithoutJitter.{entry_punctual}
use Rattle.plan_file.specs.declared.Edition.{Edition}
use Rattle.plan_file.specs.declared.Edition.TheVariants.{First, Second}
use Rattle.plan_file.specs.declared.Row.{Row}
use Rattle.plan_file.specs.Plan.{entry_count}
use Rattle.plan_file.specs.Encoding.{bodies_start}
use Rattle.plan_file.specs.Decoding.{opening_test, node_count, rows_in, entries_at, plan_in}
use Rattle.plan_file.specs.Check.{bodies_by, file_check, written_check, writer_check}
use Rattle.plan_file.specs.FirstEdition.{first_edition_check, first_edition_plan, first_writer_check}
use Rattle.plan_file.specs.Limits.{EditionFits}
use Rattle.plan_file.proofs.Tests.{edition_first}
use Rattle.plan_file.proofs.Bodies.{Each}
use Rattle.plan_file.proofs.Memory.{entries_at_edition}

-- two checks of one entry that agree on all entries at hand find the same
module _ (P : Entry → Type 0) where
  entries_same : (c d : ℕ → Entry → Outcome) → ((p : ℕ) (e : Entry) → P e → c p e ≡ d p e)
      → (p : ℕ) (es : List Entry) → Each P es → entries_by c p es ≡ entries_by d p es
  unfolding entries_by
  entries_same c d same p [] h = refl
  entries_same c d same p (e ∷ es) h =
      ap₂ ◌and_then◌ (same p e (h 0 (omega arith))) (entries_same c d same (suc p) es (λ j l. h (suc j) (omega arith)))

  nodes_same : (c d : ℕ → ℕ → Entry → Outcome) → ((row p : ℕ) (e : Entry) → P e → c row p e ≡ d row p e)
      → (k : ℕ) (rs : List Row) (es : List Entry) → Each P es → bodies_by (body_by c) k rs es ≡ bodies_by (body_by d) k rs es
  unfolding bodies_by body_by
  nodes_same c d same k [] es h = refl
  nodes_same c d same k (r ∷ rs) es h =
      ap₂ ◌and_then◌
      (ap (λ o. o and_then numbers_check k (take r.count es))
      (entries_same (c k) (d k) (same k) 0 (take r.count es)
      (λ j l.
      rw (get_or-take r.count es j no_entry (omega (arith, length-take r.count es)))
      (h j (omega (arith, length-take r.count es))))))
      (nodes_same c d same (suc k) rs (drop r.count es)
      (λ j l. rw (get_or-drop r.count es j no_entry) (h (r.count + j) (omega (arith, length-drop r.count es)))))

or_false : (b : Bool) → b || false ≡ b
or_false true = refl
or_false false = refl

pub first_edition : (f : List ℕ) → opening_test Second f ≡ false → file_check f ≡ first_edition_check f
unfolding file_check first_edition_check
first_edition f p =
    let k = bodies_start (node_count f) in
    let n = entry_count (rows_in f) in
    rw (
      edition_first f p,
      p,
      or_false (opening_test First f),
      nodes_same (EditionFits First) entry_check punctual_check (λ row p e z. entry_punctual e z row p) 0 (rows_in f)
          (entries_at First f k n) (entries_at_edition First f k n),
    )

-- Its plan is that of the first edition.
pub first_plan : (f : List ℕ) → opening_test Second f ≡ false → plan_in f ≡ first_edition_plan f
first_plan f p = rw (edition_first f p)

-- An entry that is to be written, with J 0, has the check of before in both editions.
pub written_punctual : (ed : Edition) (row p : ℕ) (e : Entry) → e.jitter ≡ 0 → written_check ed row p e ≡ punctual_check row p e
unfolding written_check
written_punctual First row p e z =
    rw (eq-eqb e.jitter 0 z) (then_nothing (entry_check row p e) ∙ entry_punctual e z row p)
written_punctual Second row p e z = entry_punctual e z row p

-- And so has a plan whose every J is 0.
pub writer_punctual : (ed : Edition) (rows : List Row) (es : List Entry) (words : ℕ) → Punctual es
    → writer_check ed rows es words ≡ first_writer_check rows es words
unfolding writer_check first_writer_check
writer_punctual ed rows es words h =
    rw (nodes_same (EditionFits First) (written_check ed) punctual_check (written_punctual ed) 0 rows es h)
