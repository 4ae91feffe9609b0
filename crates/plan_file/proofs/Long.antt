-- An input that is longer than any plan is checked as its beginning is.
use Prim.Native.Nat.{ℕ, zero, suc, ◌+◌, ◌*◌, ◌≤◌, ◌<◌}
use mathlib.Core.Path.{◌≡◌, ◌∙◌, refl, ap, ap₂, sym}
use mathlib.Core.Bool.{Bool, true, false, ◌&&◌, ◌||◌}
use mathlib.Core.Logic.{◌⊎◌, inl, inr, ⊎_elim}
use mathlib.Core.List.{List, [], ◌∷◌}
use native.Mathlib.Omega.{arith}
use lib.ListN.{length, get_or, take, length-take}
use lib.Seq.{get_or-take}
use lib.Dec.{leb, ltb, eqb}
use borrow.Author.Tests.{le-leb, ltb-true, ltb-false}
use Rattle.refusals.specs.Refusals.{Numbered, at, refused, ◌and_then◌, must_hold}
use Rattle.refusals.proofs.Outcomes.{either, not_both}
use Rattle.task_model.proofs.Tests.{and_true, true_or_false}
use Rattle.byte_words.specs.Bytes.{word_at}
use Rattle.plan_file.specs.declared.Edition.{Edition}
use Rattle.plan_file.specs.declared.Edition.TheVariants.{First, Second}
use Rattle.plan_file.specs.declared.Row.{Row}
use Rattle.plan_file.specs.Plan.{row_of}
use Rattle.plan_file.specs.Encoding.{row_length, header_length, entry_length, opening_bytes, bodies_start}
use Rattle.plan_file.specs.Decoding.{opens_at, opening_test, edition_of, node_count, rows_from}
use Rattle.plan_file.specs.Check.{count_test, zeros_test, row_test, contents_check, header_by, header_check, layout_check, file_check}
use Rattle.plan_file.specs.Limits.{longest}
use Rattle.plan_file.proofs.Contents.{length-rows}
use Rattle.plan_file.proofs.Header.{header_holds}
use Rattle.plan_file.proofs.File.{layout_holds}
use Rattle.plan_file.proofs.WriterChecks.{count_hold}
use Rattle.plan_file.proofs.Limits.{long_layout}
use Rattle.plan_file.proofs.Theorems.{file_most}

-- two inputs that are longer than any plan, and agree in what a header with 32 rows takes
module _ (f g : List ℕ) (lf : longest Second < length f) (lg : longest Second < length g) (same : (k : ℕ) → k < 264 → get_or g k 0 ≡ get_or f k 0) where
  opens : (ed : Edition) (k : ℕ) → k < 264 → opens_at ed g k ≡ opens_at ed f k
  opens ed k h = ap (λ x. eqb x (get_or (opening_bytes ed) k 0)) (same k h)

  opening_same : (ed : Edition) → opening_test ed g ≡ opening_test ed f
  unfolding opening_test
  opening_same ed =
      ap₂ ◌&&◌
      (ap₂ ◌&&◌ (ap₂ ◌&&◌ (opens ed 0 (omega arith)) (opens ed 1 (omega arith))) (opens ed 2 (omega arith)))
      (opens ed 3 (omega arith))

  edition_same : edition_of g ≡ edition_of f
  unfolding edition_of
  edition_same = ap (λ b. elim b [ true ↦ Second | false ↦ First ]) (opening_same Second)

  nodes_same : node_count g ≡ node_count f
  nodes_same = same 4 (omega arith)

  zeros_same : zeros_test g ≡ zeros_test f
  unfolding zeros_test
  zeros_same =
      ap₂ ◌&&◌
      (ap₂ ◌&&◌ (ap (λ x. eqb x 0) (same 5 (omega arith))) (ap (λ x. eqb x 0) (same 6 (omega arith))))
      (ap (λ x. eqb x 0) (same 7 (omega arith)))

  enough : (k : ℕ) → k ≤ 264 → leb k (length g) ≡ leb k (length f)
  enough k h = le-leb k (length g) (omega arith) ∙ sym (le-leb k (length f) (omega arith))

  room : (b : Bool) → b ≡ (count_test (node_count f) && zeros_test f)
      → must_hold b (at 3 0 0) and_then must_hold (leb (bodies_start (node_count f)) (length g)) (at 1 0 0)
      ≡ must_hold b (at 3 0 0) and_then must_hold (leb (bodies_start (node_count f)) (length f)) (at 1 0 0)
  room false p = refl
  room true p =
      let few = count_hold (node_count f) (and_true _ _ (sym p)).0 in
      ap (λ b. must_hold b (at 1 0 0)) (enough (bodies_start (node_count f)) (omega arith))

  -- the header's checks see the first eight bytes, and whether there is room for the contents
  header_same : header_check g ≡ header_check f
  unfolding header_by
  header_same =
      ap₂ ◌and_then◌ (ap (λ b. must_hold b (at 1 0 0)) (enough header_length (omega arith)))
      (ap₂ ◌and_then◌ (ap (λ b. must_hold b (at 2 0 0)) (ap₂ ◌||◌ (opening_same First) (opening_same Second)))
      (ap₂ (λ n z. must_hold (count_test n && z) (at 3 0 0) and_then must_hold (leb (bodies_start n) (length g)) (at 1 0 0)) nodes_same zeros_same
      ∙ room (count_test (node_count f) && zeros_test f) refl))

  word_same : (k : ℕ) → k + 4 ≤ 264 → word_at g k ≡ word_at f k
  unfolding word_at
  word_same k h = rw (same k (omega arith), same (k + 1) (omega arith), same (k + 2) (omega arith), same (k + 3) (omega arith))

  rows_same : (i n : ℕ) → i + n ≤ 32 → rows_from g i n ≡ rows_from f i n
  unfolding rows_from
  rows_same i zero h = refl
  rows_same i (suc n) h = ap₂ ◌∷◌ (ap row_of (word_same (header_length + i * row_length) (omega arith))) (rows_same (suc i) n (omega arith))

  contents_same : (size i least required : ℕ) (rs : List Row) → i + length rs ≤ 32
      → contents_check size g i least required rs ≡ contents_check size f i least required rs
  unfolding contents_check
  contents_same size i least required [] h = refl
  contents_same size i least required (r ∷ rs) h =
      ap (λ x. must_hold (row_test least r) (at 4 i 0) and_then x)
      (ap₂ ◌and_then◌ (ap (λ x. must_hold (eqb x required) (at 5 i 0)) (word_same (header_length + i * row_length + 4) (omega arith)))
      (contents_same size (suc i) (suc r.number) (required + r.count * size) rs (omega arith)))

module _ (f g : List ℕ) (lf : longest Second < length f) (lg : longest Second < length g) (same : (k : ℕ) → k < 264 → get_or g k 0 ≡ get_or f k 0) where
  -- where the rows are accepted, both end too late
  layout_same : (ed : Edition) (n : ℕ) → n ≤ 32
      → layout_check (entry_length ed) g 0 0 (bodies_start n) (rows_from g 0 n)
      ≡ layout_check (entry_length ed) f 0 0 (bodies_start n) (rows_from f 0 n)
  unfolding layout_check
  layout_same ed n h =
      let rs = rows_from f 0 n in
      let r = rows_same f g lf lg same 0 n (omega arith) in
      let c = contents_same f g lf lg same (entry_length ed) 0 0 (bodies_start n) rs (omega (arith, length-rows f 0 n)) in
      ⊎_elim
      (λ a. long_layout ed g lg n h (rw r (c ∙ a)) ∙ sym (long_layout ed f lf n h a))
      (λ q. rw (r, c, q.1))
      (either (contents_check (entry_length ed) f 0 0 (bodies_start n) rs))

  check_same : file_check g ≡ file_check f
  unfolding file_check
  check_same =
      ⊎_elim
      (λ a.
      let few = (header_holds f a).counted.few in
      let n = nodes_same f g lf lg same in
      let ed = edition_of f in
      ⊎_elim
      (λ b. absurd (not_both b (long_layout ed f lf (node_count f) few (layout_holds (entry_length ed) f 0 0 _ _ b).0)))
      (λ r.
      rw (header_same f g lf lg same, a, n, edition_same f g lf lg same, layout_same ed (node_count f) few, r.1))
      (either (layout_check (entry_length ed) f 0 0 (bodies_start (node_count f)) (rows_from f 0 (node_count f)))))
      (λ r. rw (header_same f g lf lg same, r.1))
      (either (header_check f))

  both_refused : (r : Numbered) × (file_check g ≡ refused r) × (file_check f ≡ refused r)
  both_refused =
      ⊎_elim (λ a. absurd (omega (arith, file_most f a))) (λ r. (r.0, check_same ∙ r.1, r.1)) (either (file_check f))

-- An input has at most n bytes, or is refused as its first n bytes are, for any n above 65,536: nobody has to read more of
-- it.
pub long_refused : (n : ℕ) → 65536 < n → (f : List ℕ)
    → (length f ≤ n) ⊎ ((r : Numbered) × (file_check (take n f) ≡ refused r) × (file_check f ≡ refused r))
long_refused n h f =
    ⊎_elim
    (λ t.
    let l = ltb-true n (length f) t in
    inr (both_refused f (take n f) (omega arith) (omega (arith, length-take n f)) (λ k b. get_or-take n f k 0 (omega arith))))
    (λ t. inl (ltb-false n (length f) t))
    (true_or_false (ltb n (length f)))
