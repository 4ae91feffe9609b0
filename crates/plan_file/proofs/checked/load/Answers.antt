use Prim.Native.Nat.{ℕ, ◌+◌, ◌*◌, ◌≤◌, ◌<◌}
use mathlib.Core.Path.{◌≡◌, ◌∙◌, ap}
use mathlib.Core.List.{List}
use native.Mathlib.Omega.{arith}
use lib.ListN.{length}
use Rattle.refusals.specs.Refusals.{accepted}
use Rattle.plan_file.specs.declared.Edition.{Edition}
use Rattle.plan_file.specs.declared.Row.{Row}
use Rattle.plan_file.specs.Encoding.{entry_length}
use Rattle.plan_file.specs.Decoding.{edition_of, node_count, row_at, offset_at}
use Rattle.plan_file.specs.Check.{file_check}
use Rattle.plan_file.proofs.Memory.{loaded, entries_room, entries_filled}
use Rattle.plan_file.proofs.Nodes.{node_inside, node_few}
use Rattle.plan_file.proofs.checked.load.Goals as goal

-- row `i` of an accepted file `f`, by contents that have its bytes `g` and `n` rows
module _ {f g : List ℕ} {n i : ℕ} (h : (file_check f ≡ accepted) × (i < node_count f)) (told : ◌≡◌ {A = List ℕ × ℕ} (g, n) (f, node_count f)) where
  bytes : g ≡ f
  bytes = ap (λ p. p.0) told

  in_rows : i < n
  in_rows = omega (arith, ap (λ p. p.1) told, h.1)

  the_edition : {ed : Edition} → ed ≡ edition_of g → ed ≡ edition_of f
  the_edition e = e ∙ ap edition_of bytes

  the_row : {r : Row} → r ≡ row_at g i → r ≡ row_at f i
  the_row e = e ∙ ap (λ b. row_at b i) bytes

  the_offset : {k : ℕ} → k ≡ offset_at g i → k ≡ offset_at f i
  the_offset e = e ∙ ap (λ b. offset_at b i) bytes

  few : {r : Row} → r ≡ row_at g i → r.count ≤ 64
  few e = rw (the_row e) (node_few f h.0 i h.1)

  body_inside : {ed : Edition} {r : Row} {k : ℕ} → ed ≡ edition_of g → r ≡ row_at g i → k ≡ offset_at g i
      → k + r.count * entry_length ed ≤ length f
  body_inside d e o = rw (the_edition d, the_row e, the_offset o) (node_inside f h.0 i h.1)

  starts_inside : {k : ℕ} → k ≡ offset_at g i → k ≤ length f
  starts_inside o = omega (arith, node_inside f h.0 i h.1, the_offset o)

pub invariant_of-contents : goal.invariant_of-contents
invariant_of-contents c = record { accepted = c.requires.0 }

pub row-r-requires : goal.row-r-requires
row-r-requires c = in_rows c.requires c.contents-contents.ensures

pub offset-requires : goal.offset-requires
offset-requires c = in_rows c.requires c.contents-contents.ensures

pub slice_bounds-copy_entries-count : goal.slice_bounds-copy_entries-count
slice_bounds-copy_entries-count c = omega (arith, starts_inside c.requires c.contents-contents.ensures c.offset.ensures)

pub slice_bounds-copy_entries-start : goal.slice_bounds-copy_entries-start
slice_bounds-copy_entries-start c = omega (arith, starts_inside c.requires c.contents-contents.ensures c.offset.ensures)

pub slice_bounds-copy_entries-end-2 : goal.slice_bounds-copy_entries-end-2
slice_bounds-copy_entries-end-2 c = omega (arith, few c.requires c.contents-contents.ensures c.row-r.ensures)

pub copy_entries-requires : goal.copy_entries-requires
copy_entries-requires c =
    entries_room c.edition.result c.args.file.now c.offset.result c.row-r.result.count c.args.words.now
    (omega (arith, few c.requires c.contents-contents.ensures c.row-r.ensures))
    (body_inside c.requires c.contents-contents.ensures c.edition.ensures c.row-r.ensures c.offset.ensures)

pub returns : goal.returns
returns c =
    let f = c.args.file.now in
    let row : c.row-r.result ≡ row_at f c.args.row = the_row c.requires c.contents-contents.ensures c.row-r.ensures in
    let edition : c.edition.result ≡ edition_of f = the_edition c.requires c.contents-contents.ensures c.edition.ensures in
    let offset : c.offset.result ≡ offset_at f c.args.row = the_offset c.requires c.contents-contents.ensures c.offset.ensures in
    let filled = entries_filled c.edition.result f c.offset.result c.row-r.result.count c.args.words.now
    (omega (arith, few c.requires c.contents-contents.ensures c.row-r.ensures)) _ c.copy_entries.ensures in
    rw row (loaded f (λ i. (c.type_inv.file i).fits) c.requires.0 _ c.requires.1 _ _ (rw (row, edition, offset) at filled))
