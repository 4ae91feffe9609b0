-- The theorems of the converter. All are about calls: their answers, and the buffers as they leave them.
use Prim.Native.Nat.{ℕ, ◌+◌, ◌*◌, ◌≤◌, ◌<◌}
use mathlib.Core.Path.{◌≡◌, ◌∙◌, refl, sym, ap, subst}
use mathlib.Core.Logic.{◌↔◌, ◌⊎◌, inl, inr, ⊎_elim}
use mathlib.Core.Bool.{true}
use mathlib.Core.List.{List, ◌++◌}
use native.Mathlib.Omega.{arith}
use borrow.Author.Tests.{le-leb, ltb-true, ltb-false}
use lib.ListN.{length, take, drop, length-take, length-drop}
use lib.Seq.{get_or-take, get_or-drop}
use lib.Dec.{leb, ltb}
use Rattle.refusals.specs.Refusals.{Numbered, at, accepted, refused}
use Rattle.refusals.specs.Answers.{Answer, gives, refuses, giving}
use Rattle.refusals.proofs.Outcomes.{either, not_both}
use Rattle.task_model.specs.Limits.{no_entry, entry_at}
use Rattle.task_model.proofs.Tests.{true_or_false}
use Rattle.byte_words.specs.Bytes.{Bytes}
use Rattle.plan_file.specs.declared.Edition.{Edition}
use Rattle.plan_file.specs.declared.Edition.TheVariants.{First, Second}
use Rattle.plan_file.specs.Plan.{Plan, entry_count}
use Rattle.plan_file.specs.Encoding.{entry_length, bodies_start, encoding}
use Rattle.plan_file.specs.Decoding.{opening_test, edition_of, node_count, rows_in, entries_in, plan_in}
use Rattle.plan_file.specs.Check.{nodes_by, file_check}
use Rattle.plan_file.specs.Find.{row_in, node_of_row}
use Rattle.plan_file.specs.Limits.{EditionFits, EditionHolds, longest}
use Rattle.plan_file.proofs.Tests.{Opens, opens_true}
use Rattle.plan_file.proofs.Bodies.{nodes_refused}
use Rattle.plan_file.proofs.Contents.{length-rows, length-entries_at}
use Rattle.plan_file.proofs.Nodes.{contents_rows}
use Rattle.plan_file.proofs.Decoded.{same_edition, few_entries_lem}
use Rattle.plan_file.proofs.File.{file_holds}
use Rattle.plan_file.proofs.Theorems.{first_punctual, within}
use Rattle.converter.specs.Conversion.{other, loss_check, convert_check, ConvertCall}
use Rattle.converter.proofs.Lost.{kept_exactly, loss_place}
use Rattle.converter.proofs.Converting.{opened, forward_keeps, long, room_answer, check_own, check_edition, check_rest, convert_refused, convert_accepted}
use Rattle.converter.proofs.RoundTrip.{all_kept, nothing_lost, Passes, passes, convert_given, encoded_accepted, encoded_plan, written_part, converted_again}

-- A file of the first edition that goes forward, and what was written then back, is the same bytes.
pub forward_back : {f old new old' new' : List ℕ} {a : Answer ℕ} {n : ℕ} → Bytes f → ConvertCall Second f old (gives n) new
    → length f ≤ length old' → ConvertCall First (take n new) old' a new'
    → (a ≡ gives (length f)) × (new' ≡ f ++ drop (length f) old')
forward_back b c l c' = converted_again Second _ _ _ _ b c _ _ _ l c'

-- A file of the second edition that goes back, and what was written then forward, is the same bytes.
pub back_forward : {f old new old' new' : List ℕ} {a : Answer ℕ} {n : ℕ} → Bytes f → ConvertCall First f old (gives n) new
    → length f ≤ length old' → ConvertCall Second (take n new) old' a new'
    → (a ≡ gives (length f)) × (new' ≡ f ++ drop (length f) old')
back_forward b c l c' = converted_again First _ _ _ _ b c _ _ _ l c'

-- What is written is an accepted file, of the edition asked for, with the same plan.
pub record NewFile (to : Edition) (f new : List ℕ) : Type 0 where
  pub checks : file_check new ≡ accepted
  pub edition : edition_of new ≡ to
  pub plan : plan_in new ≡ plan_in f

pub new_file : {to : Edition} {f old new : List ℕ} {n : ℕ} → Bytes f → ConvertCall to f old (gives n) new → NewFile to f (take n new)
new_file {to} {f} {n} b c =
    let h = (convert_given to f _ n c.answer).0 in
    rw (written_part c)
    (record { checks = encoded_accepted to f b h; edition = same_edition to (plan_in f); plan = encoded_plan to f b h })

-- the file's length, and how many entries it has
module _ (to : Edition) (f : List ℕ) (h : Passes to f) where
  counted : length (plan_in f).entries ≡ entry_count (rows_in f)
  counted = length-entries_at (edition_of f) f (bodies_start (node_count f)) (entry_count (rows_in f))

  was : length f ≡ bodies_start (node_count f) + entry_count (rows_in f) * entry_length (other to)
  was =
      (file_holds f h.file).ends
      ∙ ap (λ ed. bodies_start (node_count f) + entry_count (rows_in f) * entry_length ed) (opened (other to) f h.opens)

  is : length (encoding to (plan_in f)) ≡ bodies_start (node_count f) + entry_count (rows_in f) * entry_length to
  is = long to f _ refl

-- Going forward adds 4 bytes for each entry.
pub forward_length : {f old new : List ℕ} {n : ℕ} → ConvertCall Second f old (gives n) new → n ≡ length f + 4 * length (plan_in f).entries
forward_length {f} {n} c =
    let g = convert_given Second f _ n c.answer in
    omega (arith, g.2, was Second f g.0, is Second f g.0, counted Second f g.0)

-- Going back takes them away.
pub back_length : {f old new : List ℕ} {n : ℕ} → ConvertCall First f old (gives n) new → n + 4 * length (plan_in f).entries ≡ length f
back_length {f} {n} c =
    let g = convert_given First f _ n c.answer in
    omega (arith, g.2, was First f g.0, is First f g.0, counted First f g.0)

-- no plan's file is longer than the longest
never_longer : (to : Edition) (f : List ℕ) → file_check f ≡ accepted → length (encoding to (plan_in f)) ≤ longest to
never_longer to f a =
    let h = file_holds f a in
    let n = length-rows f 0 (node_count f) in
    let m = few_entries_lem 0 0 (rows_in f) (contents_rows (entry_length (edition_of f)) f 0 0 _ (rows_in f) h.contents) in
    omega (arith, long to f _ refl, within to (node_count f) (entry_count (rows_in f)) h.header.counted.few (omega arith))

-- A buffer of 49,416 bytes going forward, of 41,224 going back, always suffices: the answer is that of the checks before 10.
pub suffices : {to : Edition} {f old new : List ℕ} {a : Answer ℕ} → longest to ≤ length old → ConvertCall to f old a new
    → a ≡ giving (convert_check to f) (length (encoding to (plan_in f)))
suffices {to} {f} {old} l c =
    c.answer
    ∙ ⊎_elim
    (λ q.
    convert_accepted to f (length old) q
    ∙ rw (q, le-leb (length (encoding to (plan_in f))) (length old) (omega (arith, never_longer to f (passes to f q).file))))
    (λ q. convert_refused to f (length old) q.0 q.1 ∙ rw q.1)
    (either (convert_check to f))

-- an edition is not the other one
differ : (to : Edition) → to ≡ other to → ⊥
differ First p = omega (arith, ap entry_length p)
differ Second p = omega (arith, ap entry_length p)

-- An accepted file of the edition asked for is refused as 2.
pub wrong_edition : {to : Edition} {f old new : List ℕ} {a : Answer ℕ} → file_check f ≡ accepted → edition_of f ≡ to
    → ConvertCall to f old a new → a ≡ refuses (at 2 0 0)
wrong_edition {to} {f} {old} h e c =
    c.answer
    ∙ convert_refused to f (length old) _
    (check_edition to f h
    (⊎_elim (λ p. absurd (differ to (sym e ∙ opened (other to) f p))) (λ p. p) (true_or_false (opening_test (other to) f))))

-- an accepted file opens as its edition
opens_as : (ed : Edition) (f : List ℕ) → file_check f ≡ accepted → edition_of f ≡ ed → opening_test ed f ≡ true
opens_as ed f a e = opens_true ed f (subst (λ d. Opens d f) e (file_holds f a).header.opens)

-- A file is converted exactly if it is accepted, is of the other edition, the edition asked for has a place for every
-- entry's J, and the buffer is long enough.
pub converts_exactly : {to : Edition} {f old new : List ℕ} {a : Answer ℕ} → ConvertCall to f old a new
    → ((n : ℕ) × (a ≡ gives n))
    ↔ ((file_check f ≡ accepted) × (edition_of f ≡ other to) × EditionHolds to (plan_in f) × (length (encoding to (plan_in f)) ≤ length old))
converts_exactly {to} {f} {old} c = (
  λ t.
      let g = convert_given to f (length old) t.0 (sym t.1 ∙ c.answer) in
      (g.0.file, opened (other to) f g.0.opens, all_kept to f g.0.kept, g.1),
  λ h. (
    length (encoding to (plan_in f)),
    c.answer
        ∙ convert_accepted to f (length old) (check_rest to f h.0 (opens_as (other to) f h.0 h.1) ∙ nothing_lost to f h.2)
        ∙ rw (le-leb (length (encoding to (plan_in f))) (length old) h.3),
  ),
)

-- The first entry of a plan with a J above zero, row by row and entry by entry, stands at this row and this position.
pub record FirstJitter (p : Plan) (row position : ℕ) : Type 0 where
  pub there : row < length p.rows
  pub inside : position < length (node_of_row p row).entries
  pub above : 0 < (entry_at (node_of_row p row).entries position).jitter
  pub before : (j : ℕ) → j < position → (entry_at (node_of_row p row).entries j).jitter ≡ 0
  pub rows_before : (i : ℕ) → i < row → (j : ℕ) → j < length (node_of_row p i).entries → (entry_at (node_of_row p i).entries j).jitter ≡ 0

-- where a refusal of the first lost J stands
module _ (f : List ℕ) where
  found_jitter : (r : Numbered) → nodes_by (loss_check First) 0 (rows_in f) (entries_in f) ≡ refused r
      → (row : ℕ) × (position : ℕ) × (r ≡ at 15 row position) × FirstJitter (plan_in f) row position
  unfolding node_of_row
  found_jitter r p =
      let t = nodes_refused (loss_check First) (EditionFits First) (kept_exactly First) 0 (rows_in f) (entries_in f) r p in
      let z : 0 + t.row ≡ t.row = omega arith in
      let l = loss_place t.row t.position _ r (rw z at t.refuses) in (
        t.row,
        t.position,
        l.1,
        record { there = t.there; inside = t.inside; above = l.0; before = t.before; rows_before = t.rows_before },
      )

  -- the entry in its node is one of all entries
  in_all : (row position : ℕ) → FirstJitter (plan_in f) row position
      → (j : ℕ) × (j < length (plan_in f).entries) × (0 < (entry_at (plan_in f).entries j).jitter)
  unfolding node_of_row
  in_all row position h =
      let es = entries_in f in
      let c = (row_in (rows_in f) row).count in
      let d = entry_count (take row (rows_in f)) in
      let l = length-take c (drop d es) in
      let e : entry_at (take c (drop d es)) position ≡ entry_at es (d + position) =
      get_or-take c (drop d es) position no_entry (omega (arith, h.inside, l)) ∙ get_or-drop d es position no_entry in
      (d + position, omega (arith, h.inside, l, length-drop d es), rw (← e) h.above)

-- there is only one
row_first : {p : Plan} {row position row' position' : ℕ} → FirstJitter p row position → FirstJitter p row' position' → row < row' → ⊥
row_first h g l = omega (arith, h.above, g.rows_before _ l _ h.inside)

position_first : {p : Plan} {row position position' : ℕ} → FirstJitter p row position → FirstJitter p row position' → position < position' → ⊥
position_first h g l = omega (arith, h.above, g.before _ l)

same_row : {p : Plan} {row position row' position' : ℕ} → FirstJitter p row position → FirstJitter p row' position' → row ≡ row'
same_row {row} {row'} h g =
    ⊎_elim (λ t. absurd (row_first h g (ltb-true row row' t)))
    (λ t.
    ⊎_elim (λ s. absurd (row_first g h (ltb-true row' row s))) (λ s. omega (arith, ltb-false row row' t, ltb-false row' row s))
    (true_or_false (ltb row' row)))
    (true_or_false (ltb row row'))

same_position : {p : Plan} {row position position' : ℕ} → FirstJitter p row position → FirstJitter p row position' → position ≡ position'
same_position {position} {position'} h g =
    ⊎_elim (λ t. absurd (position_first h g (ltb-true position position' t)))
    (λ t.
    ⊎_elim (λ s. absurd (position_first g h (ltb-true position' position s)))
    (λ s. omega (arith, ltb-false position position' t, ltb-false position' position s))
    (true_or_false (ltb position' position)))
    (true_or_false (ltb position position'))

-- answers that are the same, and places
refuses_same : {q r : Numbered} → ◌≡◌ {A = Answer ℕ} (refuses q) (refuses r) → q ≡ r
refuses_same e = cc

places : {row position row' position' : ℕ} → at 15 row position ≡ at 15 row' position' → (row ≡ row') × (position ≡ position')
places e = (ap (λ (r : Numbered). r.row) e, ap (λ (r : Numbered). r.entry) e)

-- too short a buffer is not 15
room_not_15 : (to : Edition) (f : List ℕ) (room row position : ℕ) → room_answer to f room ≡ refuses (at 15 row position) → ⊥
room_not_15 to f room row position p =
    ⊎_elim
    (λ t. let q : gives (length (encoding to (plan_in f))) ≡ refuses (at 15 row position) = rw t at p in let z : ◌≡◌ {A = ℕ} 0 1 = cc in omega arith)
    (λ t. let q : ◌≡◌ {A = Answer ℕ} (refuses (at 10 0 0)) (refuses (at 15 row position)) = rw t at p in omega (arith, ap (λ (r : Numbered). r.number) (refuses_same q)))
    (true_or_false (leb (length (encoding to (plan_in f))) room))

-- an accepted file of the second edition, sent back
module _ {f old new : List ℕ} {a : Answer ℕ} (h : file_check f ≡ accepted) (e : edition_of f ≡ Second) (c : ConvertCall First f old a new) where
  opens_second : opening_test Second f ≡ true
  opens_second = opens_as Second f h e

  -- where nothing is lost, the answer is not 15
  no_loss : nodes_by (loss_check First) 0 (rows_in f) (entries_in f) ≡ accepted → (row position : ℕ) → a ≡ refuses (at 15 row position) → ⊥
  no_loss k row position p =
      room_not_15 First f (length old) row position (sym (convert_accepted First f (length old) (check_rest First f h opens_second ∙ k)) ∙ sym c.answer ∙ p)

  lost_answer : (r : Numbered) → nodes_by (loss_check First) 0 (rows_in f) (entries_in f) ≡ refused r → a ≡ refuses r
  lost_answer r p = c.answer ∙ convert_refused First f (length old) r (check_rest First f h opens_second ∙ p)

  -- It is refused as 15, with a row and a position, exactly if its first entry with a J above zero stands there.
  pub lost_at : (row position : ℕ) → a ≡ refuses (at 15 row position) ↔ FirstJitter (plan_in f) row position
  lost_at row position = (
    λ p.
        ⊎_elim (λ k. absurd (no_loss k row position p))
        (λ q.
        let t = found_jitter f q.0 q.1 in
        let s = places (sym t.2 ∙ refuses_same (sym (lost_answer q.0 q.1) ∙ p)) in
        subst (λ i. FirstJitter (plan_in f) i position) s.0 (subst (λ j. FirstJitter (plan_in f) t.0 j) s.1 t.3))
        (either (nodes_by (loss_check First) 0 (rows_in f) (entries_in f))),
    λ g.
        ⊎_elim (λ k. let t = in_all f row position g in absurd (omega (arith, t.2, all_kept First f k t.0 t.1)))
        (λ q.
        let t = found_jitter f q.0 q.1 in
        let r = same_row t.3 g in
        let s = same_position (subst (λ i. FirstJitter (plan_in f) i t.1) r t.3) g in
        lost_answer q.0 q.1 ∙ ap refuses (t.2 ∙ rw (r, s)))
        (either (nodes_by (loss_check First) 0 (rows_in f) (entries_in f))),
  )

  -- So it is refused as 15 exactly if some J is above zero.
  pub lost_exactly : ((row : ℕ) × (position : ℕ) × (a ≡ refuses (at 15 row position)))
      ↔ ((j : ℕ) × (j < length (plan_in f).entries) × (0 < (entry_at (plan_in f).entries j).jitter))
  lost_exactly = (
    λ t. in_all f t.0 t.1 ((lost_at t.0 t.1).0 t.2),
    λ t.
        ⊎_elim (λ k. absurd (omega (arith, t.2, all_kept First f k t.0 t.1)))
        (λ q. let g = found_jitter f q.0 q.1 in (g.0, g.1, lost_answer q.0 q.1 ∙ ap refuses g.2))
        (either (nodes_by (loss_check First) 0 (rows_in f) (entries_in f))),
  )

-- Going forward, every J of the new file is zero.
pub every_zero : {f old new : List ℕ} {n : ℕ} → Bytes f → ConvertCall Second f old (gives n) new
    → (j : ℕ) → j < length (plan_in (take n new)).entries → (entry_at (plan_in (take n new)).entries j).jitter ≡ 0
every_zero {f} {n} b c =
    let h = (convert_given Second f _ n c.answer).0 in
    subst (λ (p : Plan). EditionHolds First p) (sym (new_file b c).plan) (first_punctual f (opened First f h.opens))

-- A refusal by the file's own checks is the answer.
pub own_refusal : {to : Edition} {f old new : List ℕ} {a : Answer ℕ} {r : Numbered} → file_check f ≡ refused r → ConvertCall to f old a new
    → a ≡ refuses r
own_refusal {to} {f} {old} {r} p c = c.answer ∙ convert_refused to f (length old) r (check_own to f r p)

-- what would be lost is refused as 15
number_15 : (to : Edition) (f : List ℕ) (r : Numbered) → nodes_by (loss_check to) 0 (rows_in f) (entries_in f) ≡ refused r → r.number ≡ 15
number_15 First f r p = ap (λ (q : Numbered). q.number) (found_jitter f r p).2
number_15 Second f r p = absurd (not_both (forward_keeps f) p)

same_number : {r q : Numbered} → ◌≡◌ {A = Answer ℕ} (refuses r) (refuses q) → r.number ≡ q.number
same_number e = ap (λ (x : Numbered). x.number) (refuses_same e)

-- where only the room is left to be checked
room_number : (to : Edition) (f : List ℕ) (room : ℕ) (r : Numbered) → refuses r ≡ room_answer to f room → r.number ≡ 10
room_number to f room r e =
    ⊎_elim
    (λ t.
    let z : ◌≡◌ {A = Answer ℕ} (refuses r) (gives (length (encoding to (plan_in f)))) = rw t at e in
    let y : ◌≡◌ {A = ℕ} 0 1 = cc in
    absurd (omega arith))
    (λ t. let z : ◌≡◌ {A = Answer ℕ} (refuses r) (refuses (at 10 0 0)) = rw t at e in same_number z)
    (true_or_false (leb (length (encoding to (plan_in f))) room))

-- An accepted file is refused only as 2, 15 or 10: what the file's own checks accept is never 14 here.
pub later_number : {to : Edition} {f old new : List ℕ} {r : Numbered} → file_check f ≡ accepted → ConvertCall to f old (refuses r) new
    → (r.number ≡ 2) ⊎ (r.number ≡ 15) ⊎ (r.number ≡ 10)
later_number {to} {f} {old} {r} h c =
    ⊎_elim
    (λ o.
    ⊎_elim
    (λ k. inr (inr (room_number to f (length old) r (c.answer ∙ convert_accepted to f (length old) (check_rest to f h o ∙ k)))))
    (λ q.
    inr (inl (same_number (c.answer ∙ convert_refused to f (length old) q.0 (check_rest to f h o ∙ q.1)) ∙ number_15 to f q.0 q.1)))
    (either (nodes_by (loss_check to) 0 (rows_in f) (entries_in f))))
    (λ o. inl (same_number (c.answer ∙ convert_refused to f (length old) (at 2 0 0) (check_edition to f h o))))
    (true_or_false (opening_test (other to) f))
