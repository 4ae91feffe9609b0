-- How the checks relate to those before entry numbers were checked.
use Prim.Native.Nat.{ℕ}
use mathlib.Core.Path.{◌≡◌, ◌∙◌, sym, ap}
use mathlib.Core.Logic.{◌↔◌}
use mathlib.Core.List.{List}
use lib.ListN.{length}
use Rattle.task_model.specs.declared.Entry.{Entry}
use Rattle.refusals.specs.Refusals.{at, Outcome, accepted, ◌and_then◌, must_hold}
use Rattle.refusals.proofs.Outcomes.{then_assoc, then_nothing, both_accepted}
use Rattle.task_model.specs.Limits.{Node, NumbersDiffer}
use Rattle.task_model.specs.Checks.{entries_by, numbers_check, body_by, size_test, node_check_by}
use Rattle.task_model.specs.WithoutNumbers.{loose_node_by}
use Rattle.task_model.proofs.Numbers.{numbers_accepted}

module _ (check : ℕ → ℕ → Entry → Outcome) (row : ℕ) where
  -- Of the entries at a row: where their numbers are all different, each entry's check alone decides.
  pub body_differ : (es : List Entry) → NumbersDiffer es → body_by check row es ≡ entries_by (check row) 0 es
  unfolding body_by
  body_differ es d =
      ap (λ o. entries_by (check row) 0 es and_then o) ((numbers_accepted row es).1 d) ∙ then_nothing (entries_by (check row) 0 es)

  module _ (n : Node) where
    -- A node is checked as it was, and then for its numbers.
    pub node_loose : node_check_by check row n ≡ loose_node_by check row n and_then numbers_check row n.entries
    unfolding node_check_by loose_node_by body_by
    node_loose = sym (then_assoc (must_hold (size_test n.levels (length n.entries)) (at 4 row 0)) _ _)

    -- So a node with numbers all different is checked as it was,
    pub node_differ : NumbersDiffer n.entries → node_check_by check row n ≡ loose_node_by check row n
    node_differ d =
        node_loose ∙ ap (λ o. loose_node_by check row n and_then o) ((numbers_accepted row n.entries).1 d)
        ∙ then_nothing (loose_node_by check row n)

    -- and a node is accepted exactly if it was and its numbers are all different.
    pub node_fewer : node_check_by check row n ≡ accepted ↔ ((loose_node_by check row n ≡ accepted) × NumbersDiffer n.entries)
    node_fewer = (
      λ a. let q = both_accepted (loose_node_by check row n) _ (sym node_loose ∙ a) in (q.0, (numbers_accepted row n.entries).0 q.1),
      λ h. node_differ h.1 ∙ h.0,
    )
