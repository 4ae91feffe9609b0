use Prim.Native.Nat.{ℕ, ◌+◌, ◌*◌, ◌≤◌}
use mathlib.Core.Bool.{true}
use mathlib.Core.List.{List}
use mathlib.Core.Path.{◌≡◌, refl, sym, ap}
use native.Mathlib.Omega.{arith}
use lib.ListN.{length}
use Rattle.refusals.specs.Refusals.{accepted}
use Rattle.plan_file.specs.declared.Edition.{Edition}
use Rattle.plan_file.specs.declared.Edition.TheVariants.{Second}
use Rattle.plan_file.specs.Check.{file_check}
use Rattle.plan_file.specs.Plan.{most_nodes, entry_count}
use Rattle.plan_file.specs.Encoding.{entry_length, bodies_start}
use Rattle.plan_file.specs.Decoding.{opening_test, edition_of, node_count, rows_in}
use Rattle.plan_file.proofs.File.{FileHolds, file_holds}
use Rattle.plan_file.specs.Limits.{longest}
use Rattle.plan_file.proofs.Encoding.{size_short, entry_long}
use Rattle.plan_file.proofs.Theorems.{file_most}
use Rattle.converter.specs.Conversion.{other}
use Rattle.converter.proofs.Converting.{opened, room_short, room_fits, converted}
use Rattle.converter.proofs.write_converted.Goals as goal

-- what is known of a file that is converted, by what the calls answer
module _ (to : Edition) (f : List ℕ) (a : file_check f ≡ accepted) (q : opening_test (other to) f ≡ true) where
  held : FileHolds f
  held = file_holds f a

  of_other : edition_of f ≡ other to
  of_other = opened (other to) f q

  -- its count of nodes, where its bodies begin, its count of entries, and how many bytes each of them will have
  module _ {nodes : ℕ} (n : nodes ≡ node_count f) {start : ℕ} (s : start ≡ bodies_start nodes) {count : ℕ} (e : count ≡ entry_count (rows_in f)) where
    starts : start ≤ bodies_start most_nodes
    starts = omega (arith, s, n, held.header.counted.few)

    ends : length f ≡ start + count * entry_length (other to)
    ends =
        omega (
          arith,
          held.ends,
          n,
          s,
          ap (λ ed. entry_count (rows_in f) * entry_length ed) of_other,
          ap (λ k. k * entry_length (other to)) e,
        )

    module _ {size : ℕ} (l : size ≡ entry_length to) where
      few : count * size ≤ longest Second * 2
      few =
          omega (
            arith,
            size_short to _ l count,
            e,
            file_most f a,
            held.ends,
            entry_long (edition_of f) (entry_count (rows_in f)),
          )

      total : start + count * size ≡ bodies_start (node_count f) + entry_count (rows_in f) * entry_length to
      total = omega (arith, ap (λ s. count * s) l, n, s, ap (λ m. m * entry_length to) e)

pub overflow_mul-length : goal.overflow_mul-length
overflow_mul-length c =
    let n = ap (λ p. p.1) c.contents-contents.ensures in
    omega (arith, few c.args.to _ c.args.plan.now.accepted c.requires n c.bodies_start-start.ensures c.entries-count.ensures c.entry_bytes.ensures)

pub overflow_add-length : goal.overflow_add-length
overflow_add-length c =
    let n = ap (λ p. p.1) c.contents-contents.ensures in
    omega (
      arith,
      starts c.args.to _ c.args.plan.now.accepted c.requires n c.bodies_start-start.ensures c.entries-count.ensures,
      few c.args.to _ c.args.plan.now.accepted c.requires n c.bodies_start-start.ensures c.entries-count.ensures c.entry_bytes.ensures,
    )

pub returns-then-out-length : goal.returns-then-out-length
returns-then-out-length c =
    let n = ap (λ p. p.1) c.contents-contents.ensures in
    let t = total c.args.to _ c.args.plan.now.accepted c.requires n c.bodies_start-start.ensures c.entries-count.ensures c.entry_bytes.ensures in
    record {
      answer = sym (room_short _ _ _ _ t c.if-out-length.true);
      out_after = refl;
    }

pub put_rows-requires : goal.put_rows-requires
put_rows-requires c =
    let n = ap (λ p. p.1) c.contents-contents.ensures in
    let h = (held c.args.to _ c.args.plan.now.accepted c.requires).header in (
      omega (arith, n, h.counted.few),
      omega (arith, c.put_header.auto.file),
    )

pub put_bodies-requires : goal.put_bodies-requires
put_bodies-requires c =
    let n = ap (λ p. p.1) c.contents-contents.ensures in (
      omega (arith, ends c.args.to _ c.args.plan.now.accepted c.requires n c.bodies_start-start.ensures c.entries-count.ensures),
      omega (
        arith,
        ap (λ s. c.entries-count.result * s) c.entry_bytes.ensures,
        c.put_rows.auto.out,
        c.put_header.auto.file,
      ),
    )

pub returns : goal.returns
returns c =
    let f = c.args.plan.now.bytes.now in
    let to = c.args.to in
    let n = ap (λ p. p.1) c.contents-contents.ensures in
    let t = total to _ c.args.plan.now.accepted c.requires n c.bodies_start-start.ensures c.entries-count.ensures c.entry_bytes.ensures in
    record {
      answer = sym (room_fits _ _ _ _ t (omega arith));
      out_after = rw (c.put_bodies.ensures, c.put_rows.ensures, c.put_header.ensures, ap (λ p. p.0) c.contents-contents.ensures)
          (converted to f (of_other to f c.args.plan.now.accepted c.requires) _ _ _ n c.bodies_start-start.ensures c.entries-count.ensures _);
    }
