use Prim.Native.Nat.{ℕ, ◌+◌, ◌*◌, ◌/◌, ◌≤◌}
use mathlib.Core.Path.{◌≡◌, ◌∙◌, refl, sym}
use native.Mathlib.Omega.{arith}
use Rattle.std.proofs.lemmas.Result.{err_from_is_err_and}
use lib.ListN.{length, length-map, length-drop}
use Rattle.refusals.specs.Refusals.{accepted}
use Rattle.node_words.specs.Words.{entry_size}
use Rattle.byte_words.proofs.Buffers.{over_start, over_behind, tail_of}
use mathlib.Core.List.{List}
use Rattle.plan_file.specs.declared.Edition.{Edition}
use Rattle.plan_file.specs.declared.Edition.TheVariants.{Second}
use Rattle.plan_file.specs.Encoding.{entry_length, bodies_start}
use Rattle.plan_file.specs.Check.{words_check}
use Rattle.plan_file.specs.Plan.{most_nodes, row_of}
use Rattle.plan_file.proofs.Encoding.{size_short}
use Rattle.plan_file.proofs.Writing.{written, write_refused, write_short, write_fits}
use Rattle.plan_file.proofs.WriterChecks.{writer_holds}
use Rattle.plan_file.proofs.Ensured.{write_ensures}
use Rattle.plan_file.proofs.write_plan.Goals as goal

-- what the check of a plan gives
module _ (ed : Edition) (rows words : List ℕ) (told : accepted ≡ words_check ed rows words) where
  few_rows : length rows ≤ most_nodes
  few_rows = omega (arith, (writer_holds _ _ _ _ (sym told)).few, length-map rows row_of)

  -- and the size of its entries
  module _ (size : ℕ) (sized : size ≡ entry_length ed) where
    short_bodies : length words / entry_size * size ≤ length words / entry_size * entry_length Second
    short_bodies = size_short ed _ sized (length words / entry_size)

    long_file : (start : ℕ) → start ≡ bodies_start (length rows)
        → start + length words / entry_size * size ≡ bodies_start (length rows) + length words / entry_size * entry_length ed
    long_file start e = rw (e, sized)

pub returns-in_err-check_plan : goal.returns-in_err-check_plan
returns-in_err-check_plan c =
    let p = err_from_is_err_and c.from_residual.result c.from_residual.ensures.1 in
    rw (p.1, p.2)
    (record {
      write_call = record { answer = sym (write_refused _ _ _ _ _ (sym c.in_err-check_plan.ensures.answer)); file_there = refl };
      read_again = tt;
    })

pub bodies_start-start-requires : goal.bodies_start-start-requires
bodies_start-start-requires c = let a = c.args in
    omega (arith, few_rows a.edition a.rows.now a.entries.now c.in_ok-check_plan.ensures.answer)

pub overflow_mul-length : goal.overflow_mul-length
overflow_mul-length c = let a = c.args in
    omega (arith, short_bodies a.edition a.rows.now a.entries.now c.in_ok-check_plan.ensures.answer _ c.entry_bytes.ensures)

pub overflow_add-length : goal.overflow_add-length
overflow_add-length c = let a = c.args in
    omega (
      arith,
      short_bodies a.edition a.rows.now a.entries.now c.in_ok-check_plan.ensures.answer _ c.entry_bytes.ensures,
      few_rows a.edition a.rows.now a.entries.now c.in_ok-check_plan.ensures.answer,
    )

pub returns-then-file-length : goal.returns-then-file-length
returns-then-file-length c =
    let a = c.args in
    let told = c.in_ok-check_plan.ensures.answer in
    record {
      write_call = record {
        answer = sym (write_short _ _ _ _ (sym told) _ (long_file a.edition a.rows.now a.entries.now told _ c.entry_bytes.ensures _ c.bodies_start-start.ensures) (omega arith));
        file_there = refl;
      };
      read_again = tt;
    }

pub put_contents-requires : goal.put_contents-requires
put_contents-requires c =
    let a = c.args in
    omega (arith, few_rows a.edition a.rows.now a.entries.now c.in_ok-check_plan.ensures.answer, c.put_header.auto.file)

pub put_entries-requires : goal.put_entries-requires
put_entries-requires c =
    let a = c.args in
    let told = c.in_ok-check_plan.ensures.answer in (
      omega (arith, (writer_holds _ _ _ _ (sym told)).counts),
      rw (tail_of c.put_contents.new.file _, length-drop _ c.put_contents.new.file)
          (omega (arith, long_file a.edition a.rows.now a.entries.now told _ c.entry_bytes.ensures _ c.bodies_start-start.ensures, c.put_contents.auto.file, c.put_header.auto.file)),
    )

pub returns : goal.returns
returns c =
    let a = c.args in
    let told = c.in_ok-check_plan.ensures.answer in
    let both = write_ensures (λ i. (c.shared_slice_known-1.given i).fits) (λ i. (c.shared_slice_known-2-1.given i).fits)
    (record {
      answer = sym (write_fits _ _ _ _ (sym told) _ (long_file a.edition a.rows.now a.entries.now told _ c.entry_bytes.ensures _ c.bodies_start-start.ensures) (omega arith));
      file_there =
          over_behind _ _ _ _ c.put_entries.ensures
          ∙ rw (c.put_contents.ensures, c.put_header.ensures, c.bodies_start-start.ensures)
          (written a.edition a.rows.now a.entries.now _ ∙ over_start _ _);
    }) in
    record { write_call = both.0; read_again = both.1 }
