-- Theorems of 16: a file, and a plan to be written, is refused so exactly if everything before has passed and a number repeats.
-- And what the place of a refused entry says, now that a row's numbers come before the next row.
use Prim.Native.Nat.{ℕ, suc, ◌+◌, ◌*◌, ◌<◌}
use mathlib.Core.Path.{◌≡◌, ◌∙◌, refl, sym, ap}
use mathlib.Core.Bool.{Bool, true, ◌&&◌}
use mathlib.Core.Logic.{⊎_elim, ◌↔◌}
use mathlib.Core.List.{List, [], ◌∷◌}
use native.Mathlib.Omega.{arith}
use lib.ListN.{length}
use lib.Dec.{leb, eqb}
use Rattle.refusals.specs.Refusals.{Numbered, at, Outcome, accepted, refused, must_hold}
use Rattle.refusals.proofs.Outcomes.{Never, either, never_must, never_then, after_never, then_accepted, not_both}
use Rattle.task_model.specs.declared.Entry.{Entry}
use Rattle.task_model.specs.Limits.{entry_at, EntryHolds, NumbersDiffer, FirstRepeat}
use Rattle.task_model.specs.Checks.{entry_check, each_by, body_by}
use Rattle.task_model.proofs.Laws.{body_entries, body_numbers}
use Rattle.task_model.proofs.Each.{each_refused}
use Rattle.task_model.proofs.Numbers.{numbers_refused}
use Rattle.task_model.proofs.Theorems.{entry_accepted, entry_never, body_exactly, sixteen_row, repeat_exactly}
use Rattle.node_words.specs.Words.{entry_size}
use Rattle.plan_file.specs.declared.Edition.{Edition}
use Rattle.plan_file.specs.declared.Edition.TheVariants.{First, Second}
use Rattle.plan_file.specs.declared.Row.{Row}
use Rattle.plan_file.specs.Plan.{Plan, entry_count}
use Rattle.plan_file.specs.Encoding.{header_length, entry_length, bodies_start}
use Rattle.plan_file.specs.Decoding.{edition_of, node_count, offset_at, rows_in, plan_in}
use Rattle.plan_file.specs.Check.{count_test, zeros_test, row_test, rows_check, contents_check, bodies_by, header_by, header_check, opens_test, layout_check, file_check, written_check, writer_check}
use Rattle.plan_file.specs.Find.{node_of_row}
use Rattle.plan_file.specs.Limits.{EditionFits}
use Rattle.plan_file.proofs.File.{file_bodies}
use Rattle.plan_file.proofs.Bodies.{Each, part, bodies_refused, refused_at}
use Rattle.plan_file.proofs.WriterChecks.{tally, written_accepted, regrouped, writer_nodes}

-- Row `i` has the first repeat of a plan, at position `j`, where each entry is as P says: in the rows before it each entry is,
-- and the numbers of each row are all different; in row `i` each entry is.
pub record RepeatIn (P : Entry → Type 0) (p : Plan) (i j : ℕ) : Type 0 where
  pub there : i < length p.rows
  pub before : (k : ℕ) → k < i → Each P (node_of_row p k).entries × NumbersDiffer (node_of_row p k).entries
  pub fields : Each P (node_of_row p i).entries
  pub first : FirstRepeat (node_of_row p i).entries j

-- row by row, where the check of one entry accepts exactly what P says, and never gives 16
module _ (check : ℕ → ℕ → Entry → Outcome) (P : Entry → Type 0)
    (one : (row p : ℕ) (e : Entry) → check row p e ≡ accepted ↔ P e)
    (never : (row p : ℕ) (e : Entry) (r : Numbered) → check row p e ≡ refused r → r.number ≡ 16 → ⊥) (p : Plan) (i j : ℕ) where
  rows_refused : bodies_by (body_by check) 0 p.rows p.entries ≡ refused (at 16 i j) → RepeatIn P p i j
  unfolding node_of_row
  rows_refused a =
      let t = bodies_refused (body_by check) (λ es. Each P es × NumbersDiffer es) (body_exactly check P one) 0 p.rows p.entries (at 16 i j) a in
      let z : 0 + t.row ≡ t.row = omega arith in
      let b : body_by check t.row (part p.rows p.entries t.row) ≡ refused (at 16 i j) = rw z at t.refuses in
      let e : i ≡ t.row = sixteen_row check P one t.row _ (never t.row) i j b in
      let c : body_by check i (part p.rows p.entries i) ≡ refused (at 16 i j) = rw (← e) at b in
      let h = (repeat_exactly check P one i _ (never i) j).0 c in
      record {
        there = rw e t.there;
        before = λ k l. t.rows_before k (rw (← e) l);
        fields = h.0;
        first = h.1;
      }

  pub rows_repeat : bodies_by (body_by check) 0 p.rows p.entries ≡ refused (at 16 i j) ↔ RepeatIn P p i j
  unfolding node_of_row
  rows_repeat = (
    rows_refused,
    λ h.
        refused_at (body_by check) (λ es. Each P es × NumbersDiffer es) (body_exactly check P one) 0 p.rows p.entries i (at 16 i j)
        h.there h.before
        (let z : 0 + i ≡ i = omega arith in rw z ((repeat_exactly check P one i _ (never i) j).1 (h.fields, h.first))),
  )

-- The refusal r is that of the first entry, row by row and entry by entry, that is not as P says; the numbers of each row before
-- are all different.
pub record FieldIn (check : ℕ → ℕ → Entry → Outcome) (P : Entry → Type 0) (p : Plan) (r : Numbered) : Type 0 where
  pub row : ℕ
  pub position : ℕ
  pub there : row < length p.rows
  pub inside : position < length (node_of_row p row).entries
  pub refuses : check row position (entry_at (node_of_row p row).entries position) ≡ refused r
  pub before : (j : ℕ) → j < position → P (entry_at (node_of_row p row).entries j)
  pub rows_before : (k : ℕ) → k < row → Each P (node_of_row p k).entries × NumbersDiffer (node_of_row p k).entries

pub rows_field : (check : ℕ → ℕ → Entry → Outcome) (P : Entry → Type 0)
    → ((row p : ℕ) (e : Entry) → check row p e ≡ accepted ↔ P e) → (p : Plan) (r : Numbered) → (r.number ≡ 16 → ⊥)
    → bodies_by (body_by check) 0 p.rows p.entries ≡ refused r → FieldIn check P p r
unfolding node_of_row
rows_field check P one p r other a =
    let t = bodies_refused (body_by check) (λ es. Each P es × NumbersDiffer es) (body_exactly check P one) 0 p.rows p.entries r a in
    let z : 0 + t.row ≡ t.row = omega arith in
    let es = part p.rows p.entries t.row in
    let b : body_by check t.row es ≡ refused r = rw z at t.refuses in
    ⊎_elim
    (λ c.
    let n = numbers_refused t.row es r (sym (body_numbers check t.row es c) ∙ b) in
    absurd (other (ap (λ (x : Numbered). x.number) n.2)))
    (λ q.
    let f = each_refused (check t.row) (λ i e. P e) (one t.row) es r (q.1 ∙ sym (body_entries check t.row es q.0 q.1) ∙ b) in
    record {
      row = t.row;
      position = f.0;
      there = t.there;
      inside = f.1;
      refuses = f.3;
      before = f.2;
      rows_before = t.rows_before;
    })
    (either (each_by check t.row es))

-- 16 is not of a file's header and rows
header_never : (b : Bool) (f : List ℕ) → Never 16 (header_by b f)
unfolding header_by
header_never b f =
    never_then 16 _ _ (never_must 16 1 (leb header_length (length f)) 0 0 (λ z. omega arith))
    (never_then 16 _ _ (never_must 16 2 b 0 0 (λ z. omega arith))
    (never_then 16 _ _ (never_must 16 3 (count_test (node_count f) && zeros_test f) 0 0 (λ z. omega arith))
    (never_must 16 1 (leb (bodies_start (node_count f)) (length f)) 0 0 (λ z. omega arith))))

contents_never : (size : ℕ) (f : List ℕ) (i least required : ℕ) (rs : List Row) → Never 16 (contents_check size f i least required rs)
unfolding contents_check
contents_never size f i least required [] = λ r p z. not_both refl p
contents_never size f i least required (r ∷ rs) =
    never_then 16 _ _ (never_must 16 4 (row_test least r) i 0 (λ z. omega arith))
    (never_then 16 _ _ (never_must 16 5 (eqb (offset_at f i) required) i 0 (λ z. omega arith)) (contents_never size f (suc i) (suc r.number) (required + r.count * size) rs))

layout_never : (size : ℕ) (f : List ℕ) (i least required : ℕ) (rs : List Row) → Never 16 (layout_check size f i least required rs)
unfolding layout_check
layout_never size f i least required rs =
    never_then 16 _ _ (contents_never size f i least required rs) (never_must 16 6 (eqb (length f) (required + entry_count rs * size)) 0 0 (λ z. omega arith))

rows_never : (i least : ℕ) (rs : List Row) → Never 16 (rows_check i least rs)
unfolding rows_check
rows_never i least [] = λ r p z. not_both refl p
rows_never i least (r ∷ rs) = never_then 16 _ _ (never_must 16 4 (row_test least r) i 0 (λ z. omega arith)) (rows_never (suc i) (suc r.number) rs)

-- A file is refused as 16 at row `i` and position `j` exactly if its header and its rows pass, and the first repeat is there.
pub file_repeat : (f : List ℕ) (i j : ℕ)
    → file_check f ≡ refused (at 16 i j)
    ↔ ((header_check f ≡ accepted)
    × (layout_check (entry_length (edition_of f)) f 0 0 (bodies_start (node_count f)) (rows_in f) ≡ accepted)
    × RepeatIn EntryHolds (plan_in f) i j)
unfolding file_check
file_repeat f i j =
    let rows = rows_repeat entry_check EntryHolds entry_accepted entry_never (plan_in f) i j in (
      λ a.
          let h = after_never 16 (header_check f) _ (at 16 i j) (header_never (opens_test f) f) refl a in
          let l =
          after_never 16 (layout_check (entry_length (edition_of f)) f 0 0 (bodies_start (node_count f)) (rows_in f)) _ (at 16 i j)
          (layout_never _ f 0 0 _ (rows_in f)) refl h.1 in
          (h.0, l.0, rows.0 l.1),
      λ h. then_accepted _ _ h.0 ∙ then_accepted _ _ h.1 ∙ rows.1 h.2,
    )

-- the check of an entry that is to be written never gives 16
written_never : (ed : Edition) (row p : ℕ) (e : Entry) (r : Numbered) → written_check ed row p e ≡ refused r → r.number ≡ 16 → ⊥
unfolding written_check
written_never First row p e = never_then 16 (entry_check row p e) _ (entry_never row p e) (never_must 16 14 (eqb e.jitter 0) row p (λ z. omega arith))
written_never Second row p e = entry_never row p e

-- A plan to be written is refused as 16 exactly if the count of its rows, its rows and the count of its words pass, and the
-- first repeat is there.
pub writer_repeat : (ed : Edition) (rows : List Row) (entries : List Entry) (words i j : ℕ)
    → writer_check ed rows entries words ≡ refused (at 16 i j)
    ↔ ((must_hold (count_test (length rows)) (at 3 0 0) ≡ accepted)
    × (tally rows words ≡ accepted)
    × RepeatIn (λ e. EntryHolds e × EditionFits ed e) (record { rows = rows; entries = entries }) i j)
writer_repeat ed rows entries words i j =
    let rep =
    rows_repeat (written_check ed) (λ e. EntryHolds e × EditionFits ed e) (written_accepted ed) (written_never ed)
    (record { rows = rows; entries = entries }) i j in (
      λ a.
          let h =
          after_never 16 (must_hold (count_test (length rows)) (at 3 0 0)) _ (at 16 i j) (never_must 16 3 (count_test (length rows)) 0 0 (λ z. omega arith)) refl
          (sym (regrouped ed rows entries words) ∙ a) in
          let l =
          after_never 16 (tally rows words) _ (at 16 i j)
          (never_then 16 _ _ (rows_never 0 0 rows) (never_must 16 6 (eqb words (entry_count rows * entry_size)) 0 0 (λ z. omega arith))) refl h.1 in
          (h.0, l.0, rep.0 l.1),
      λ h. regrouped ed rows entries words ∙ then_accepted _ _ h.0 ∙ then_accepted _ _ h.1 ∙ rep.1 h.2,
    )

-- A file whose header and rows pass, and which is refused as another number, has that of its first entry at fault. So an entry
-- of a row is named only if no row before has a repeat.
pub file_field : (f : List ℕ) (r : Numbered) → (r.number ≡ 16 → ⊥) → header_check f ≡ accepted
    → layout_check (entry_length (edition_of f)) f 0 0 (bodies_start (node_count f)) (rows_in f) ≡ accepted
    → file_check f ≡ refused r → FieldIn entry_check EntryHolds (plan_in f) r
file_field f r other h l a = rows_field entry_check EntryHolds entry_accepted (plan_in f) r other (sym (file_bodies f h l) ∙ a)

-- And so has a plan to be written.
pub writer_field : (ed : Edition) (p : Plan) (words : ℕ) (r : Numbered) → (r.number ≡ 16 → ⊥)
    → count_test (length p.rows) ≡ true → tally p.rows words ≡ accepted
    → writer_check ed p.rows p.entries words ≡ refused r
    → FieldIn (written_check ed) (λ e. EntryHolds e × EditionFits ed e) p r
writer_field ed p words r other h l a =
    rows_field (written_check ed) (λ e. EntryHolds e × EditionFits ed e) (written_accepted ed) p r other
    (sym (writer_nodes ed p.rows p.entries words h l) ∙ a)
