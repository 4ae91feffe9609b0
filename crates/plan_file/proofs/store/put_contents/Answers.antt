use Prim.Native.Nat.{◌*◌}
use mathlib.Core.List.{map}
use mathlib.Core.Path.{◌∙◌, refl, sym, ap}
use native.Mathlib.Omega.{arith}
use lib.Seq.{take_all}
use lib.ListN.{length-map}
use Rattle.plan_file.specs.Encoding.{contents_bytes}
use Rattle.plan_file.specs.Plan.{entry_count, row_of}
use Rattle.byte_words.specs.Buffers.{over}
use Rattle.plan_file.specs.declared.Row.{Row}
use Rattle.plan_file.proofs.Contents.{memory_row}
use Rattle.plan_file.proofs.Encoding.{size_short}
use Rattle.plan_file.proofs.Rows.{count_more, contents_more, contents_length}
use Rattle.byte_words.proofs.Buffers.{over_nothing, over_next}
use Rattle.plan_file.proofs.store.put_contents.Goals as goal

pub loop-row-init : goal.loop-row-init
unfolding contents_bytes entry_count
loop-row-init c = (refl, omega arith, omega arith, sym (over_nothing _ 8))

pub overflow_mul-offset : goal.overflow_mul-offset
overflow_mul-offset c = omega (arith, size_short c.args.edition _ c.entry_bytes-size.ensures c.from.result.count)

pub overflow_add-offset : goal.overflow_add-offset
overflow_add-offset c = omega (arith, size_short c.args.edition _ c.entry_bytes-size.ensures c.from.result.count)

pub loop-row-preserved : goal.loop-row-preserved
loop-row-preserved c =
    let size = c.entry_bytes-size.result in
    let row = memory_row c.args.rows.now _ _ c.loop-row-test.true refl in
    let r = ap (λ (r : Row). r.count) c.from.ensures in (
      omega (arith, c.put_row.auto.file),
      omega (arith, ap (λ n. n * size) (count_more row), ap (λ n. n * size) r),
      omega (arith, r, size_short c.args.edition _ c.entry_bytes-size.ensures c.from.result.count),
      c.put_row.ensures
          ∙ rw (c.row_start.ensures, c.loop-row.invariant.3)
          (over_next _ 8 _ _ _ (contents_length row _ _) (omega arith)
          ∙ ap (over _ 8) (contents_more row _ _ _ c.loop-row.invariant.1)),
    )

pub returns : goal.returns
returns c = let rows = c.args.rows.now in
    rw (← c.entry_bytes-size.ensures)
    (rw (take_all c.loop-row.row (map row_of rows) (omega (arith, length-map rows row_of))) at c.loop-row.invariant.3)
