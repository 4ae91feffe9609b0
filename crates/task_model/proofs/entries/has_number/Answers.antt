use Prim.Native.Nat.{ℕ, ◌<◌}
use mathlib.Core.Path.{◌≡◌, ◌∙◌, sym, ap}
use mathlib.Core.List.{List}
use native.Mathlib.Omega.{arith}
use lib.ListN.{take}
use lib.Seq.{get_or-take, length-take-le}
use Rattle.task_model.specs.declared.Entry.{Entry}
use Rattle.task_model.specs.Limits.{no_entry, entry_at}
use Rattle.task_model.proofs.Numbers.{none_first, none_next, none_end, has_number_lem}
use Rattle.task_model.proofs.entries.has_number.Goals as goal

-- the number of an entry among the first ones
among : (es : List Entry) (count : ℕ) {j n : ℕ} → j < count → n ≡ (entry_at es j).number → n ≡ (entry_at (take count es) j).number
among es count {j} h e = e ∙ ap (λ (x : Entry). x.number) (sym (get_or-take count es j no_entry h))

pub loop-position-init : goal.loop-position-init
loop-position-init g c = none_first _ _

pub returns-then-number : goal.returns-then-number
returns-then-number g c =
    sym
    (has_number_lem _ _ c.loop-position.position
    (omega (arith, c.loop-position-test.true, length-take-le c.args.count _ c.requires))
    (sym (among _ _ c.loop-position-test.true c.number.ensures) ∙ c.if-number.true))

pub loop-position-preserved : goal.loop-position-preserved
loop-position-preserved g c =
    none_next _ _ _ c.loop-position.invariant (λ e. c.if-number.false (among _ _ c.loop-position-test.true c.number.ensures ∙ e))

pub returns : goal.returns
returns g c =
    none_end _ _ _ c.loop-position.invariant
    (omega (arith, c.loop-position-test.false, length-take-le c.args.count _ c.requires))
