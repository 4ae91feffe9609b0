-- Laws of the nodes of an accepted file: where a row's body lies, and which entries it has.
use Prim.Native.Nat.{ℕ, zero, suc, ◌+◌, ◌*◌, ◌≤◌, ◌<◌}
use mathlib.Core.Path.{◌≡◌, ◌∙◌, refl, sym, ap}
use mathlib.Core.List.{List, [], ◌∷◌}
use native.Mathlib.Omega.{arith}
use native.Mathlib.Nat.{add-zero, zero-add}
use lib.ListN.{length, take, drop}
use borrow.Author.Tests.{eqb-true}
use Rattle.refusals.specs.Refusals.{accepted}
use Rattle.plan_file.specs.declared.Row.{Row}
use Rattle.plan_file.specs.Plan.{entry_count}
use Rattle.plan_file.specs.Encoding.{entry_length, bodies_start}
use Rattle.plan_file.specs.Decoding.{edition_of, node_count, row_at, offset_at, rows_in, entries_at, plan_in}
use Rattle.plan_file.specs.Check.{rows_check, contents_check, file_check}
use Rattle.plan_file.specs.Find.{row_in, node_of_row}
use Rattle.refusals.proofs.Outcomes.{both_accepted, demanded}
use Rattle.plan_file.proofs.Tests.{RowHolds, row_true, row_holds}
use Rattle.plan_file.proofs.Finding.{rows_each}
use Rattle.plan_file.proofs.Contents.{entries_run, length-rows, row_get}
use Rattle.byte_words.proofs.Runs.{run_take, run_drop}
use Rattle.plan_file.proofs.File.{FileHolds, file_holds}

-- the rows before row `i`, it, and those after it
pub count_split : (rs : List Row) (i : ℕ) → i < length rs
    → entry_count rs ≡ entry_count (take i rs) + ((row_in rs i).count + entry_count (drop (suc i) rs))
unfolding entry_count
count_split [] i h = absurd (omega arith)
count_split (r ∷ rs) zero h = omega arith
count_split (r ∷ rs) (suc i) h = omega (arith, count_split rs i (omega arith))

-- contents of a file with entries of `size` bytes
module _ (size : ℕ) (f : List ℕ) where
  -- what an accepted first row says
  pub record RowPlaced (i least required : ℕ) (r : Row) (rs : List Row) : Type 0 where
    pub holds : RowHolds least r
    pub placed : offset_at f i ≡ required
    pub rest : contents_check size f (suc i) (suc r.number) (required + r.count * size) rs ≡ accepted

  pub row_placed : (i least required : ℕ) (r : Row) (rs : List Row)
      → contents_check size f i least required (r ∷ rs) ≡ accepted → RowPlaced i least required r rs
  unfolding contents_check
  row_placed i least required r rs p =
      let p1 = both_accepted _ _ p in
      let p2 = both_accepted _ _ p1.1 in
      record {
        holds = row_holds least r (demanded _ _ p1.0);
        placed = eqb-true _ _ (demanded _ _ p2.0);
        rest = p2.1;
      }

  -- the rows of accepted contents are within the writer's checks
  pub contents_rows : (i least required : ℕ) (rs : List Row) → contents_check size f i least required rs ≡ accepted
      → rows_check i least rs ≡ accepted
  unfolding contents_check rows_check
  contents_rows i least required [] a = refl
  contents_rows i least required (r ∷ rs) a =
      let p = row_placed i least required r rs a in
      rw (row_true least r p.holds, contents_rows (suc i) (suc r.number) (required + r.count * size) rs p.rest)

  -- and each has the required offset
  pub placed_at : (j least required : ℕ) (rs : List Row) → contents_check size f j least required rs ≡ accepted
      → (i : ℕ) → i < length rs → offset_at f (j + i) ≡ required + entry_count (take i rs) * size
  unfolding entry_count
  placed_at j least required [] p i h = absurd (omega arith)
  placed_at j least required (r ∷ rs) p zero h =
      let e : required + 0 * size ≡ required = omega arith in
      rw (add-zero, e) (row_placed j least required r rs p).placed
  placed_at j least required (r ∷ rs) p (suc i) h =
      let e : j + suc i ≡ suc j + i = omega arith in
      rw e
      (placed_at (suc j) (suc r.number) (required + r.count * size) rs (row_placed j least required r rs p).rest i (omega arith)
      ∙ omega arith)

-- the node of row `i` of an accepted file
module _ (f : List ℕ) (a : file_check f ≡ accepted) (i : ℕ) (h : i < node_count f) where
  held : FileHolds f
  held = file_holds f a

  -- bytes of an entry
  abbrev size : ℕ
  size = entry_length (edition_of f)

  inside : i < length (rows_in f)
  inside = omega (arith, length-rows f 0 (node_count f))

  at_row : row_in (rows_in f) i ≡ row_at f i
  at_row = row_get f (node_count f) i h

  pub node_offset : offset_at f i ≡ bodies_start (node_count f) + entry_count (take i (rows_in f)) * size
  node_offset = ap (offset_at f) (sym (zero-add i)) ∙ placed_at size f 0 0 _ (rows_in f) held.contents i inside

  pub node_few : (row_at f i).count ≤ 64
  node_few = rw (← at_row) (rows_each 0 0 (rows_in f) (contents_rows size f 0 0 _ (rows_in f) held.contents) i inside).few_entries

  pub node_inside : offset_at f i + (row_at f i).count * size ≤ length f
  node_inside =
      omega (
        arith,
        node_offset,
        held.ends,
        ap (λ n. n * size) (count_split (rows_in f) i inside),
        ap (λ (r : Row). r.count * size) at_row,
      )

  pub node_at_lem : node_of_row (plan_in f) i
      ≡ record { levels = (row_at f i).levels; entries = entries_at (edition_of f) f (offset_at f i) (row_at f i).count }
  unfolding node_of_row
  node_at_lem =
      rw (
        count_split (rows_in f) i inside,
        run_drop (entries_run (edition_of f) f) (bodies_start (node_count f)) (entry_count (take i (rows_in f))),
        run_take (entries_run (edition_of f) f),
        ← node_offset,
        at_row,
      )
