-- For entries whose J is 0, the checks are those without the jitter.
use Prim.Native.Nat.{ℕ, suc, zero-le}
use mathlib.Core.Path.{◌≡◌, refl, ap, ap₂}
use mathlib.Core.List.{List, [], ◌∷◌}
use native.Mathlib.Omega.{arith}
use lib.ListN.{length}
use Rattle.task_model.specs.declared.Entry.{Entry}
use Rattle.refusals.specs.Refusals.{at, ◌and_then◌, must_hold}
use Rattle.task_model.specs.Limits.{Node, JitterHolds}
use Rattle.task_model.specs.Checks.{kind_test, times_test, entry_check, entries_by, numbers_check, body_by, size_test, node_check_by, node_check}
use Rattle.task_model.specs.WithoutJitter.{Punctual, punctual_check}
use Rattle.refusals.proofs.Outcomes.{then_nothing}
use Rattle.task_model.proofs.Laws.{jitter_true}

-- The check of an entry.
pub entry_punctual : (e : Entry) → e.jitter ≡ 0 → (row position : ℕ) → entry_check row position e ≡ punctual_check row position e
unfolding entry_check punctual_check
entry_punctual e z row position =
    let within : JitterHolds e = rw z zero-le in
    rw (jitter_true e within)
    (ap (λ o. must_hold (kind_test e.kind e.calls) (at 7 row position) and_then o) (then_nothing (must_hold (times_test e) (at 8 row position))))

-- Of entries, one by one.
pub entries_punctual : (es : List Entry) → Punctual es → (row position : ℕ)
    → entries_by (entry_check row) position es ≡ entries_by (punctual_check row) position es
unfolding entries_by
entries_punctual [] h row position = refl
entries_punctual (e ∷ es) h row position =
    ap₂ (λ o next. o and_then next) (entry_punctual e (h 0 (omega arith)) row position)
    (entries_punctual es (λ j l. h (suc j) (omega arith)) row (suc position))

-- And then of their numbers.
pub body_punctual : (es : List Entry) → Punctual es → (row : ℕ) → body_by entry_check row es ≡ body_by punctual_check row es
unfolding body_by
body_punctual es h row = ap (λ o. o and_then numbers_check row es) (entries_punctual es h row 0)

-- Of a node.
pub node_punctual : (n : Node) → Punctual n.entries → (row : ℕ) → node_check row n ≡ node_check_by punctual_check row n
unfolding node_check_by
node_punctual n h row =
    ap (λ o. must_hold (size_test n.levels (length n.entries)) (at 4 row 0) and_then o) (body_punctual n.entries h row)
