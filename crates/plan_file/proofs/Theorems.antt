-- The theorems of plan files. Theorems about memory use the definitions that the contracts of `read_plan`, `write_plan` and
-- `find_node` cite.
use Prim.Native.Nat.{ℕ, zero, suc, ◌+◌, ◌*◌, ◌/◌, ◌≤◌, ◌<◌}
use mathlib.Core.Path.{◌≡◌, ◌∙◌, refl, sym, ap, subst}
use mathlib.Core.Logic.{◌↔◌, ⊎_elim}
use mathlib.Core.List.{List, [], ◌∷◌, map, append-nil}
use native.Mathlib.Omega.{arith}
use lib.ListN.{length, get_or, take}
use lib.Dec.{ltb, eqb}
use borrow.Author.Tests.{eq-eqb, lt-ltb, ltb-true}
use Rattle.task_model.specs.declared.Entry.{Entry}
use Rattle.refusals.specs.Refusals.{at, accepted, refused, must_hold}
use Rattle.task_model.specs.Limits.{most_ticks, most_levels, most_entries, entry_at, KindHolds, TimesHold, JitterHolds, NodeHolds, NumbersDiffer, NodeValid}
use Rattle.task_model.specs.Checks.{kind_test, times_test, jitter_test, entry_check, entries_by, has_number, number_check, body_by, size_test}
use Rattle.node_words.specs.Words.{entry_size, entry_from, words_of, entries_of, WordsFit}
use Rattle.node_words.proofs.Words.{read_entries, entries_fit, length-words as length-words-of}
use Rattle.node_words.proofs.Entries.{length-entries}
use Rattle.task_model.proofs.Tests.{true_or_false}
use Rattle.task_model.proofs.Theorems.{entry_accepted, entry_jitter}
use Rattle.refusals.proofs.Outcomes.{either, not_both, then_refused, then_accepted, must_hold-accepts, must_hold-refuses}
use Rattle.plan_file.specs.declared.Edition.{Edition}
use Rattle.plan_file.specs.declared.Edition.TheVariants.{First, Second}
use Rattle.plan_file.specs.declared.Row.{Row}
use Rattle.plan_file.specs.Plan.{most_nodes, Plan, entry_count, row_word, row_of, plan_of, PlanFits}
use Rattle.plan_file.specs.Encoding.{header_length, row_length, entry_length, bodies_start, encoding}
use Rattle.byte_words.specs.Bytes.{Bytes, word_at}
use Rattle.plan_file.specs.Decoding.{edition_of, node_count, row_at, offset_at, rows_in, entry_in, entries_in, plan_in}
use Rattle.plan_file.specs.Check.{count_test, row_test, rows_check, contents_check, bodies_by, header_check, file_check, written_check, writer_check, plan_check, words_check}
use Rattle.plan_file.specs.Find.{row_in, node_of_row, row_of_number, find_check, node_found}
use Rattle.plan_file.specs.Limits.{PlanHolds, EditionFits, EditionHolds, IsPlanFile, IsPlanInMemory, longest}
use Rattle.plan_file.proofs.Words.{words_first, words_second}
use Rattle.plan_file.proofs.Bodies.{Each, each_part}
use Rattle.plan_file.proofs.Contents.{length-rows, length-entries_at}
use Rattle.plan_file.proofs.Encoding.{length-encoding}
use Rattle.plan_file.proofs.Header.{header_holds}
use Rattle.plan_file.proofs.File.{file_layout, file_holds}
use Rattle.plan_file.proofs.WriterChecks.{writer_holds, count_true, writer_nodes, nodes_written, first_refuses, first_jitter}
use Rattle.plan_file.proofs.Memory.{entries_at_edition}
use Rattle.plan_file.proofs.Encoded.{same_bytes}
use Rattle.plan_file.proofs.Nodes.{contents_rows}
use Rattle.plan_file.proofs.Decoded.{same_edition, same_plan, encoding_accepted, few_entries_lem, plan_same}
use Rattle.plan_file.proofs.Bytes.{bytes_encoding}
use Rattle.plan_file.proofs.Fits.{plan_fits, rows_of_words, rows_words, words_fit_rows, entries_words}
use Rattle.plan_file.proofs.Finding.{found_at, found_number}
use Rattle.plan_file.proofs.Limits.{plan_holds, holds_accepted, words_plan, long_layout}

-- An accepted file, read and written again in its edition, is the same bytes.
pub read_write : (f : List ℕ) → Bytes f → file_check f ≡ accepted → encoding (edition_of f) (plan_in f) ≡ f
read_write f b a = same_bytes f b a

-- A plan that is accepted for an edition, written in it and read again, is the same plan in the same edition.
pub write_read : (ed : Edition) (p : Plan) → PlanFits p → plan_check ed p ≡ accepted
    → (plan_in (encoding ed p) ≡ p) × (edition_of (encoding ed p) ≡ ed)
write_read ed p h a = (same_plan ed p a h, same_edition ed p)

-- The plan of an accepted file is within the writer's checks for its edition.
pub plan_accepted : (f : List ℕ) → file_check f ≡ accepted → plan_check (edition_of f) (plan_in f) ≡ accepted
plan_accepted f a =
    let ed = edition_of f in
    let h = file_holds f a in
    let n = length-rows f 0 (node_count f) in
    let e = length-entries_at ed f (bodies_start (node_count f)) (entry_count (rows_in f)) in
    writer_nodes ed (rows_in f) (entries_in f) (length (entries_in f) * entry_size)
    (rw n (count_true (node_count f) h.header.counted.some h.header.counted.few))
    (rw (contents_rows (entry_length ed) f 0 0 _ (rows_in f) h.contents, e)
    (must_hold-accepts _ _ (eq-eqb (entry_count (rows_in f) * entry_size) (entry_count (rows_in f) * entry_size) refl)))
    ∙ nodes_written ed 0 (rows_in f) (entries_in f) h.bodies (entries_at_edition ed f _ _)

-- A list of bytes is accepted as a file exactly if it is the encoding, in some edition, of a plan within the writer's
-- checks for that edition.
pub accepted_exactly : (f : List ℕ)
    → (Bytes f × (file_check f ≡ accepted))
    ↔ ((ed : Edition) × (p : Plan) × PlanFits p × (plan_check ed p ≡ accepted) × (encoding ed p ≡ f))
accepted_exactly f = (
  λ h. (edition_of f, plan_in f, plan_fits f h.0, plan_accepted f h.1, same_bytes f h.0 h.1),
  λ h. (rw (← h.4) (bytes_encoding h.0 h.1), (rw (← h.4) (encoding_accepted h.0 h.1 h.3 h.2))),
)

-- A plan is accepted for an edition exactly if it is within the limits and the edition has a place for every entry.
pub plan_limits : (ed : Edition) (p : Plan) → plan_check ed p ≡ accepted ↔ (PlanHolds p × EditionHolds ed p)
plan_limits ed p = (plan_holds ed p, λ h. holds_accepted ed p h.0 h.1)

-- A list of bytes is accepted as a file exactly if it is the file, in some edition, of a plan within the limits.
pub file_limits : (f : List ℕ) → (Bytes f × (file_check f ≡ accepted)) ↔ IsPlanFile f
file_limits f = (
  λ h.
      let e = (accepted_exactly f).0 h in
      let l = plan_holds e.0 e.1 e.3 in (e.0, e.1, e.2, l.0, l.1, e.4),
  λ h. (accepted_exactly f).1 (h.0, h.1, h.2, holds_accepted h.0 h.1 h.3 h.4, h.5),
)

-- Words are accepted for an edition exactly if they hold a plan within the limits that the edition has a place for.
pub words_limits : (ed : Edition) (rs ws : List ℕ) → words_check ed rs ws ≡ accepted ↔ IsPlanInMemory ed rs ws
words_limits ed rs ws =
    let n = length-entries ws 0 (length ws / entry_size) in (
      λ a.
          let l = plan_holds ed (plan_of rs ws) (words_plan ed rs ws a) in
          (l.0, l.1, omega (arith, (writer_holds _ _ _ _ a).counts)),
      λ h.
          let whole : length ws / entry_size * entry_size ≡ length ws = omega (arith, h.2) in
          ap (writer_check ed (plan_of rs ws).rows (plan_of rs ws).entries) (sym (ap (λ k. k * entry_size) n ∙ whole))
          ∙ holds_accepted ed (plan_of rs ws) h.0 h.1,
    )

positive : (n : ℕ) → (n ≡ 0 → ⊥) → 0 < n
positive zero h = absurd (h refl)
positive (suc n) h = omega arith

-- An entry that is to be written in the first edition is refused as 14 exactly if its kind and its times hold and its J is
-- above zero. So an entry with times that do not hold never gives 14.
module _ (row position : ℕ) (e : Entry) where
  jitter_broken : written_check First row position e ≡ refused (at 14 row position)
      → KindHolds e × TimesHold e × (0 < e.jitter)
  unfolding written_check
  jitter_broken p =
      ⊎_elim
      (λ a.
      let h = (entry_accepted row position e).0 a in
      let t : must_hold (eqb e.jitter 0) (at 14 row position) ≡ refused (at 14 row position) =
      sym (then_accepted (entry_check row position e) _ a) ∙ p in
      (h.kind, h.times, positive e.jitter (λ z. not_both (must_hold-accepts _ _ (eq-eqb e.jitter 0 z)) t)))
      (λ q.
      let h = (entry_jitter row position e).0 (q.1 ∙ sym (then_refused (entry_check row position e) _ q.0 q.1) ∙ p) in
      (h.0, h.1, positive e.jitter (λ z. h.2 (omega arith))))
      (either (entry_check row position e))

  pub written_jitter : written_check First row position e ≡ refused (at 14 row position)
      ↔ (KindHolds e × TimesHold e × (0 < e.jitter))
  written_jitter = (
    jitter_broken,
    λ h.
        ⊎_elim
        (λ a. first_jitter row position e a h.2)
        (λ q.
        let broken : JitterHolds e → ⊥ =
        λ j. not_both ((entry_accepted row position e).1 (record { kind = h.0; times = h.1; jitter = j })) q.1 in
        first_refuses row position e _ ((entry_jitter row position e).1 (h.0, h.1, broken)))
        (either (entry_check row position e)),
  )

-- Every plan that is read from a file of the first edition has J zero throughout.
pub first_punctual : (f : List ℕ) → edition_of f ≡ First → (j : ℕ) → j < length (plan_in f).entries
    → (entry_at (plan_in f).entries j).jitter ≡ 0
first_punctual f e =
    let each = entries_at_edition (edition_of f) f (bodies_start (node_count f)) (entry_count (rows_in f)) in
    subst (λ ed. Each (EditionFits ed) (plan_in f).entries) e each

-- And so has every node of it.
pub first_nodes_punctual : (f : List ℕ) → edition_of f ≡ First → (i j : ℕ) → j < length (node_of_row (plan_in f) i).entries
    → (entry_at (node_of_row (plan_in f) i).entries j).jitter ≡ 0
unfolding node_of_row
first_nodes_punctual f e i =
    each_part (EditionFits First) (plan_in f).entries (first_punctual f e) (row_in (rows_in f) i).count
    (entry_count (take i (rows_in f)))

-- What the reader fills holds the plan of the file.
pub read_holds : (f : List ℕ) → Bytes f
    → plan_of (map row_word (plan_in f).rows) (words_of (plan_in f).entries) ≡ plan_in f
read_holds f b =
    let es = entries_in f in
    let l : length (words_of es) / entry_size ≡ length es = omega (arith, length-words-of es) in
    plan_same (rows_words f 0 (node_count f))
    (rw l (ap (λ ws. entries_of ws (length es)) (sym (append-nil (words_of es))) ∙ read_entries es [] (plan_fits f b).entries))

-- An accepted file, read into memory and written from there in its edition, is accepted by the writer and gives the same
-- bytes.
pub read_write_memory : (f : List ℕ) → Bytes f → file_check f ≡ accepted
    → (words_check (edition_of f) (map row_word (plan_in f).rows) (words_of (plan_in f).entries) ≡ accepted)
    × (encoding (edition_of f) (plan_of (map row_word (plan_in f).rows) (words_of (plan_in f).entries)) ≡ f)
read_write_memory f b a =
    let ed = edition_of f in (
      ap (λ (p : Plan). writer_check ed p.rows p.entries (length (words_of (entries_in f)))) (read_holds f b)
          ∙ ap (writer_check ed (rows_in f) (entries_in f)) (length-words-of (entries_in f))
          ∙ plan_accepted f a,
      ap (encoding ed) (read_holds f b) ∙ same_bytes f b a,
    )

-- A plan in memory that the writer accepts, written and read again, is accepted and gives the same edition and words.
pub write_read_memory : (ed : Edition) (rs ws : List ℕ) → WordsFit rs → WordsFit ws → words_check ed rs ws ≡ accepted
    → (file_check (encoding ed (plan_of rs ws)) ≡ accepted)
    × (edition_of (encoding ed (plan_of rs ws)) ≡ ed)
    × (map row_word (plan_in (encoding ed (plan_of rs ws))).rows ≡ rs)
    × (words_of (plan_in (encoding ed (plan_of rs ws))).entries ≡ ws)
write_read_memory ed rs ws hr hw a =
    let h = writer_holds _ _ _ _ a in
    let n : length ws / entry_size * entry_size ≡ length ws = omega (arith, h.counts) in
    let fits : PlanFits (plan_of rs ws) = record { rows = words_fit_rows rs; entries = entries_fit ws hw 0 (length ws / entry_size) } in
    let ok = words_plan ed rs ws a in
    let same = same_plan ed (plan_of rs ws) ok fits in (
      encoding_accepted ed (plan_of rs ws) ok fits,
      same_edition ed (plan_of rs ws),
      ap (λ (p : Plan). map row_word p.rows) same ∙ rows_of_words rs hr,
      ap (λ (p : Plan). words_of p.entries) same ∙ entries_words ws hw (length ws / entry_size) n,
    )

-- Each node of an accepted file is one that a plan may hold:
module _ (f : List ℕ) (a : file_check f ≡ accepted) (i : ℕ) (h : i < node_count f) where
  pub nodes_valid : NodeValid (node_of_row (plan_in f) i)
  nodes_valid = (plan_holds (edition_of f) (plan_in f) (plan_accepted f a)).0.nodes i (omega (arith, length-rows f 0 (node_count f)))

  -- it is within every limit of a node,
  pub nodes_hold : NodeHolds (node_of_row (plan_in f) i)
  nodes_hold = nodes_valid.within

  -- and its numbers are all different.
  pub numbers_differ : NumbersDiffer (node_of_row (plan_in f) i).entries
  numbers_differ = nodes_valid.numbers

-- The fields of a row are bytes of the file: node number (2), levels (1), entry count (1), offset (4).
pub row_fields : (f : List ℕ) → Bytes f → (i k : ℕ) → k ≡ header_length + i * row_length
    → ((row_at f i).number ≡ get_or f k 0 + get_or f (k + 1) 0 * 256)
    × ((row_at f i).levels ≡ get_or f (k + 2) 0)
    × ((row_at f i).count ≡ get_or f (k + 3) 0)
    × (offset_at f i ≡ word_at f (k + 4))
unfolding row_of word_at
row_fields f b i k e =
    let h0 = b k in
    let h1 = b (k + 1) in
    let h2 = b (k + 2) in
    let h3 = b (k + 3) in
    rw (← e) (omega arith, omega arith, omega arith, refl)

-- J of an entry: 0 in the first edition, which has none; the last four bytes in the second.
abbrev pub jitter_at : Edition → List ℕ → ℕ → ℕ
jitter_at First f k = 0
jitter_at Second f k = word_at f (k + 20)

-- The fields of an entry are bytes of the file: entry number (2), kind (1), r (1), C, T, D, B (4 each), and in the second
-- edition J (4).
pub record EntryFields (ed : Edition) (f : List ℕ) (k : ℕ) (e : Entry) : Type 0 where
  pub number : e.number ≡ get_or f k 0 + get_or f (k + 1) 0 * 256
  pub kind : e.kind ≡ get_or f (k + 2) 0
  pub calls : e.calls ≡ get_or f (k + 3) 0
  pub wcet : e.wcet ≡ word_at f (k + 4)
  pub period : e.period ≡ word_at f (k + 8)
  pub deadline : e.deadline ≡ word_at f (k + 12)
  pub blocking : e.blocking ≡ word_at f (k + 16)
  pub jitter : e.jitter ≡ jitter_at ed f k

fields_of : (ed : Edition) (f : List ℕ) → Bytes f → (k : ℕ)
    → EntryFields ed f k
    (entry_from (word_at f k ∷ word_at f (k + 4) ∷ word_at f (k + 8) ∷ word_at f (k + 12) ∷ word_at f (k + 16) ∷ jitter_at ed f k ∷ []) 0)
unfolding entry_from word_at
fields_of ed f b k =
    let h0 = b k in
    let h1 = b (k + 1) in
    let h2 = b (k + 2) in
    let h3 = b (k + 3) in
    record {
      number = omega arith;
      kind = omega arith;
      calls = omega arith;
      wcet = refl;
      period = refl;
      deadline = refl;
      blocking = refl;
      jitter = refl;
    }

pub entry_fields : (ed : Edition) (f : List ℕ) → Bytes f → (k : ℕ) → EntryFields ed f k (entry_in ed f k)
entry_fields First f b k = rw (← words_first f k) (fields_of First f b k)
entry_fields Second f b k = rw (← words_second f k) (fields_of Second f b k)

-- The number of a row finds that row, and its node; numbers rise, so no other row has it.
pub finds : (f : List ℕ) → file_check f ≡ accepted → (number i : ℕ) → i < length (plan_in f).rows
    → (row_in (plan_in f).rows i).number ≡ number
    → (find_check f number ≡ accepted) × (node_found f number ≡ node_of_row (plan_in f) i)
unfolding find_check
finds f a number i h e =
    let rows = contents_rows (entry_length (edition_of f)) f 0 0 _ (rows_in f) (file_holds f a).contents in
    let r = found_at 0 0 (rows_in f) rows number i h e in (
      rw (a, r, lt-ltb i (length (rows_in f)) h),
      rw r,
    )

-- 9 is given exactly where no row has the number.
pub finds_none : (f : List ℕ) → file_check f ≡ accepted → (number : ℕ)
    → find_check f number ≡ refused (at 9 0 0)
    ↔ ((i : ℕ) → i < length (plan_in f).rows → (row_in (plan_in f).rows i).number ≡ number → ⊥)
unfolding find_check
finds_none f a number = (
  λ p i h e. not_both (finds f a number i h e).0 p,
  λ none.
      ⊎_elim
      (λ t. let l = ltb-true _ _ t in absurd (none (row_of_number number (rows_in f)) l (found_number (rows_in f) number l)))
      (λ t. then_accepted (file_check f) _ a ∙ must_hold-refuses _ _ t)
      (true_or_false (ltb (row_of_number number (rows_in f)) (length (rows_in f)))),
)

pub within : (ed : Edition) (n m : ℕ) → n ≤ most_nodes → m ≤ n * most_entries → bodies_start n + m * entry_length ed ≤ longest ed
within First n m h l = omega arith
within Second n m h l = omega arith

-- An accepted file has at least 16 bytes, and up to 41,224 in the first edition, 49,416 in the second.
pub file_sizes : (f : List ℕ) → file_check f ≡ accepted → (16 ≤ length f) × (length f ≤ longest (edition_of f))
file_sizes f a =
    let h = file_holds f a in
    let n = length-rows f 0 (node_count f) in
    let k = few_entries_lem 0 0 (rows_in f) (contents_rows (entry_length (edition_of f)) f 0 0 _ (rows_in f) h.contents) in (
      omega (arith, h.ends, h.header.counted.some),
      omega (arith, h.ends, within (edition_of f) (node_count f) (entry_count (rows_in f)) h.header.counted.few (omega arith)),
    )

-- So none has more than 49,416.
longest_most : (ed : Edition) → longest ed ≤ longest Second
longest_most First = omega arith
longest_most Second = omega arith

pub file_most : (f : List ℕ) → file_check f ≡ accepted → length f ≤ longest Second
file_most f a = omega (arith, (file_sizes f a).1, longest_most (edition_of f))

-- A file of more than 49,416 bytes, and so one of more than 65,536, whose header and contents pass, is refused as 6: no
-- plan has so many entries.
pub long_file : (f : List ℕ) → longest Second < length f → header_check f ≡ accepted
    → contents_check (entry_length (edition_of f)) f 0 0 (bodies_start (node_count f)) (rows_in f) ≡ accepted
    → file_check f ≡ refused (at 6 0 0)
long_file f l h a =
    file_layout f h (at 6 0 0) (long_layout (edition_of f) f l (node_count f) (header_holds f h).counted.few a)

-- One empty node: the smallest plan.
pub smallest : Plan
smallest = record { rows = record { number = 0; levels = 1; count = 0 } ∷ []; entries = [] }

pub smallest_accepted : (ed : Edition) → (plan_check ed smallest ≡ accepted) × (length (encoding ed smallest) ≡ 16)
unfolding smallest writer_check count_test rows_check row_test size_test body_by bodies_by has_number number_check entries_by entry_count
smallest_accepted ed = (refl, length-encoding ed smallest ∙ omega arith)

-- 32 nodes of 64 levels and 64 entries: the largest.
rows_to : ℕ → List Row → List Row
rows_to zero rs = rs
rows_to (suc n) rs = rows_to n (record { number = n; levels = most_levels; count = most_entries } ∷ rs)

-- with numbers from 0 on
entries_to : ℕ → List Entry → List Entry
entries_to zero es = es
entries_to (suc n) es =
    entries_to n
    (record {
      number = n;
      kind = 1;
      calls = 15;
      wcet = most_ticks;
      period = most_ticks;
      deadline = most_ticks;
      blocking = most_ticks;
      jitter = 0;
    }
    ∷ es)

nodes_to : ℕ → List Entry
nodes_to zero = []
nodes_to (suc n) = entries_to most_entries (nodes_to n)

pub largest : Plan
largest = record { rows = rows_to most_nodes []; entries = nodes_to most_nodes }

pub largest_accepted : (ed : Edition) → (plan_check ed largest ≡ accepted) × (length (encoding ed largest) ≡ longest ed)
unfolding largest rows_to entries_to nodes_to writer_check count_test rows_check row_test size_test body_by bodies_by has_number number_check entries_by written_check entry_check kind_test times_test jitter_test entry_count
largest_accepted First = (refl, length-encoding First largest)
largest_accepted Second = (refl, length-encoding Second largest)
