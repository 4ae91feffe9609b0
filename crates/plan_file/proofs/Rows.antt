-- Laws of rows, whether of a file or in memory: their checks and the contents, row by row.
use Prim.Native.Nat.{ℕ, ◌+◌, ◌*◌}
use mathlib.Core.Path.{◌≡◌, ◌∙◌, refl, sym, ap}
use mathlib.Core.Bool.{Bool}
use mathlib.Core.List.{List, [], ◌∷◌, ◌++◌}
use native.Mathlib.Omega.{arith}
use native.Mathlib.Numerals.{add-one}
use lib.ListN.{length, take, drop, length-drop}
use lib.Seq.{take-add, length-take-le}
use lib.Dec.{eqb}
use Rattle.node_words.specs.Words.{entry_size}
use Rattle.refusals.specs.Refusals.{Numbered, at, Outcome, accepted, refused, ◌and_then◌, must_hold}
use Rattle.refusals.proofs.Outcomes.{then_assoc}
use Rattle.task_model.specs.declared.Entry.{Entry}
use Rattle.plan_file.specs.declared.Row.{Row}
use Rattle.plan_file.specs.Plan.{entry_count}
use Rattle.plan_file.specs.Encoding.{row_length, row_bytes, contents_bytes}
use Rattle.plan_file.specs.Decoding.{offset_at}
use Rattle.plan_file.specs.Check.{row_test, rows_check, layout_check, contents_check, bodies_by}
use Rattle.byte_words.proofs.Runs.{Run, AtHand, run_take, run_drop}
use Rattle.plan_file.proofs.Encoding.{count_snoc, contents_snoc, length-contents}

-- the check of rows, and then of the words of entries, where the rows before count `total` entries
abbrev pub tally_from : ℕ → ℕ → ℕ → ℕ → List Row → Outcome
tally_from words i least total rs = rows_check i least rs and_then must_hold (eqb words ((total + entry_count rs) * entry_size)) (at 6 0 0)

-- the check of the entries of rows, which begin at place `k` of a run
abbrev pub bodies : (ℕ → List Entry → Outcome) → (ℕ → ℕ → List Entry) → ℕ → ℕ → List Row → Outcome
bodies check entries k i rs = bodies_by check i rs (entries k (entry_count rs))

-- with row `i` at hand: the rows from it on
module _ {rows : List Row} {i : ℕ} {r : Row} (h : AtHand rows i r) where
  pub count_here : entry_count (drop i rows) ≡ r.count + entry_count (drop (i + 1) rows)
  unfolding entry_count
  count_here = rw h.here

  pub tally_here : (words least total : ℕ) (a : Bool) → row_test least r ≡ a
      → tally_from words i least total (drop i rows)
      ≡ must_hold a (at 4 i 0) and_then tally_from words (i + 1) (r.number + 1) (total + r.count) (drop (i + 1) rows)
  unfolding rows_check entry_count
  tally_here words least total a p =
      let e : (n : ℕ) → (total + (r.count + n)) * entry_size ≡ (total + r.count + n) * entry_size = λ n. omega arith in
      rw (h.here, e, p, then_assoc, add-one i, add-one r.number)

  pub layout_here : (size : ℕ) (f : List ℕ) (least required : ℕ) (a b : Bool) → row_test least r ≡ a → eqb (offset_at f i) required ≡ b
      → layout_check size f i least required (drop i rows)
      ≡ must_hold a (at 4 i 0)
      and_then must_hold b (at 5 i 0)
      and_then layout_check size f (i + 1) (r.number + 1) (required + r.count * size) (drop (i + 1) rows)
  unfolding layout_check contents_check entry_count
  layout_here size f least required a b p q =
      let e : (n : ℕ) → required + (r.count + n) * size ≡ required + r.count * size + n * size = λ n. omega arith in
      rw (h.here, e, p, q, then_assoc, then_assoc, add-one i, add-one r.number)

  -- and up to it
  rows_before_lem : take (i + 1) rows ≡ take i rows ++ (r ∷ [])
  rows_before_lem = rw (take-add i 1 rows, h.here)

  pub count_more : entry_count (take (i + 1) rows) ≡ entry_count (take i rows) + r.count
  count_more = ap entry_count rows_before_lem ∙ count_snoc _ _

  pub contents_more : (size start offset : ℕ) → offset ≡ start + entry_count (take i rows) * size
      → contents_bytes size start (take i rows) ++ row_bytes offset r ≡ contents_bytes size start (take (i + 1) rows)
  contents_more size start offset e = rw (e, rows_before_lem) (sym (contents_snoc size start (take i rows) r))

  pub contents_length : (size start : ℕ) → length (contents_bytes size start (take i rows)) ≡ i * row_length
  contents_length size start =
      length-contents size start (take i rows)
      ∙ ap (λ n. n * row_length) (length-take-le i rows (omega (arith, ap length h.here, length-drop i rows)))

-- at the last row's end
module _ (i : ℕ) (rs : List Row) (e : rs ≡ []) where
  pub tally_end : (words least total : ℕ) → tally_from words i least total rs ≡ must_hold (eqb words (total * entry_size)) (at 6 0 0)
  unfolding rows_check entry_count
  tally_end words least total = let z : (total + 0) * entry_size ≡ total * entry_size = omega arith in rw e (rw z)

  pub layout_end : (size : ℕ) (f : List ℕ) (least required : ℕ)
      → layout_check size f i least required rs ≡ must_hold (eqb (length f) required) (at 6 0 0)
  unfolding layout_check contents_check entry_count
  layout_end size f least required = let z : required + 0 * size ≡ required = omega arith in rw e (rw z)

-- the entries of rows, by any check of all entries at a row: with row `i` at hand, and at the last row's end
module _ (check : ℕ → List Entry → Outcome) {step : ℕ} {item : ℕ → Entry} {entries : ℕ → ℕ → List Entry}
    (run : Run step item entries) where
  pub bodies_here : {rows : List Row} {i : ℕ} {r : Row} → AtHand rows i r → (k next : ℕ) → next ≡ k + r.count * step
      → (o : Outcome) → check i (entries k r.count) ≡ o
      → bodies check entries k i (drop i rows) ≡ o and_then bodies check entries next (i + 1) (drop (i + 1) rows)
  unfolding bodies_by entry_count
  bodies_here {rows} {i} {r} h k next e o p =
      let n = entry_count (drop (i + 1) rows) in
      rw h.here (rw (run_take run k r.count n, run_drop run k r.count n, p, e, add-one i))

  -- a row that is refused
  pub bodies_stop : {rows : List Row} {i : ℕ} {r : Row} → AtHand rows i r → (k : ℕ) (q : Numbered) → refused q ≡ check i (entries k r.count)
      → {o : Outcome} → bodies check entries k i (drop i rows) ≡ o → refused q ≡ o
  bodies_stop h k q p e = sym (bodies_here h k _ refl (refused q) (sym p)) ∙ e

  pub bodies_end : (k i : ℕ) (rs : List Row) → rs ≡ [] → bodies check entries k i rs ≡ accepted
  unfolding bodies_by
  bodies_end k i rs e = rw e
