-- The encoding of an accepted plan is an accepted file, and holds that plan.
use Prim.Native.Nat.{ℕ, zero, suc, ◌+◌, ◌*◌, ◌%◌, ◌≤◌, ◌<◌}
use mathlib.Core.Path.{◌≡◌, ◌∙◌, refl, sym, ap}
use mathlib.Core.List.{List, [], ◌∷◌, ◌++◌, append_assoc, append-nil}
use native.Mathlib.Nat.{add-zero}
use native.Mathlib.Omega.{arith}
use lib.ListN.{length, get_or, take, drop}
use lib.Seq.{drop-drop, drop-append_seam, get_or-drop}
use borrow.Author.Tests.{eq-eqb}
use Rattle.task_model.specs.declared.Entry.{Entry}
use Rattle.refusals.specs.Refusals.{accepted, must_hold}
use Rattle.task_model.specs.Limits.{most_entries}
use Rattle.node_words.specs.Words.{entry_size, entry_words, entry_from, words_of, EntryFits, EntriesFit, WordsFit}
use Rattle.node_words.proofs.Words.{length-entry as length-entry-words, read_entry, words_fit}
use Rattle.plan_file.specs.declared.Edition.{Edition}
use Rattle.plan_file.specs.declared.Edition.TheVariants.{First, Second}
use Rattle.plan_file.specs.declared.Row.{Row}
use Rattle.plan_file.specs.Plan.{Plan, entry_count, row_word, row_of, RowFits, RowsFit, PlanFits}
use Rattle.plan_file.specs.Encoding.{opening_bytes, row_length, header_length, entry_length, header_bytes, row_bytes, entry_bytes, bodies_start, contents_bytes, bodies_bytes, encoding}
use Rattle.byte_words.specs.Bytes.{low, word_at, words_from, bytes_of}
use Rattle.plan_file.specs.Decoding.{edition_of, node_count, row_at, offset_at, rows_from, rows_in, entry_words_at, entry_in, entries_at, entries_in, plan_in, file_words}
use Rattle.plan_file.specs.Check.{row_test, rows_check, contents_check, layout_check, header_check, file_check, plan_check}
use Rattle.plan_file.specs.Limits.{EditionFits}
use Rattle.refusals.proofs.Outcomes.{both_accepted, demanded}
use Rattle.plan_file.proofs.Tests.{Opens, edition_opens, opens_known, row_holds, counted_true}
use Rattle.byte_words.proofs.Words.{length-low}
use Rattle.plan_file.proofs.Words.{row_of_word, row_bytes_lem, entry_bytes_lem}
use Rattle.plan_file.proofs.Encoding.{entry_short, length-entry, length-encoding}
use Rattle.plan_file.proofs.Bodies.{Each}
use Rattle.plan_file.proofs.Header.{header_accepted}
use Rattle.plan_file.proofs.File.{file_bodies}
use Rattle.plan_file.proofs.WriterChecks.{WriterHolds, writer_holds, written_nodes, written_fits}

-- what stands in a file from byte `k` on: the bytes `s`, and then `rest`
module _ (f : List ℕ) (k : ℕ) where
  past : (s rest : List ℕ) (n : ℕ) → length s ≡ n → drop k f ≡ s ++ rest → drop (k + n) f ≡ rest
  past s rest n l e = sym (drop-drop n k f) ∙ rw e (ap (λ i. drop i (s ++ rest)) (sym l) ∙ drop-append_seam s rest)

  byte_there : (l : List ℕ) → drop k f ≡ l → (i : ℕ) → get_or f (k + i) 0 ≡ get_or l i 0
  byte_there l e i = sym (get_or-drop k f i 0) ∙ ap (λ x. get_or x i 0) e

  word_there : (w : ℕ) (rest : List ℕ) → w < 4294967296 → drop k f ≡ low 4 w ++ rest → word_at f k ≡ w
  unfolding word_at low
  word_there w rest h e =
      let z : get_or f k 0 ≡ get_or f (k + 0) 0 = ap (λ i. get_or f i 0) (sym (add-zero k)) in
      omega (
        arith,
        z,
        byte_there (low 4 w ++ rest) e 0,
        byte_there (low 4 w ++ rest) e 1,
        byte_there (low 4 w ++ rest) e 2,
        byte_there (low 4 w ++ rest) e 3,
      )

row_word_below : (r : Row) → RowFits r → row_word r < 4294967296
unfolding row_word
row_word_below r h = omega arith

-- a row that stands in a file
module _ (f : List ℕ) (i : ℕ) (r : Row) (offset : ℕ) (rest : List ℕ) (h : RowFits r) (l : offset < 4294967296)
    (e : drop (header_length + i * row_length) f ≡ row_bytes offset r ++ rest) where
  in_words : drop (header_length + i * row_length) f ≡ low 4 (row_word r) ++ (low 4 offset ++ rest)
  in_words =
      e
      ∙ ap (λ s. s ++ rest) (ap (row_bytes offset) (sym (row_of_word r h)) ∙ row_bytes_lem offset (row_word r))
      ∙ append_assoc (low 4 (row_word r)) (low 4 offset) rest

  second : drop (header_length + i * row_length + 4) f ≡ low 4 offset ++ rest
  unfolding low
  second = past f (header_length + i * row_length) (low 4 (row_word r)) _ 4 refl in_words

  pub row_there : row_at f i ≡ r
  row_there = ap row_of (word_there f (header_length + i * row_length) (row_word r) _ (row_word_below r h) in_words) ∙ row_of_word r h

  pub offset_there : offset_at f i ≡ offset
  offset_there = word_there f (header_length + i * row_length + 4) offset rest l second

  pub after_row : drop (header_length + suc i * row_length) f ≡ rest
  unfolding low
  after_row =
      let n : header_length + suc i * row_length ≡ header_length + i * row_length + 4 + 4 = omega arith in
      rw n (past f (header_length + i * row_length + 4) (low 4 offset) rest 4 refl second)

-- contents that stand in a file: the rows are read again, and each is where it must be
module _ (size : ℕ) (f : List ℕ) where
  pub record ContentsThere (i least offset : ℕ) (rs : List Row) (rest : List ℕ) : Type 0 where
    pub rows : rows_from f i (length rs) ≡ rs
    pub checks : contents_check size f i least offset rs ≡ rows_check i least rs
    pub after : drop (header_length + (i + length rs) * row_length) f ≡ rest

  pub contents_there : (i least offset : ℕ) (rs : List Row) (rest : List ℕ) → RowsFit rs
      → offset + entry_count rs * size < 4294967296 → drop (header_length + i * row_length) f ≡ contents_bytes size offset rs ++ rest
      → ContentsThere i least offset rs rest
  unfolding rows_from contents_check rows_check contents_bytes entry_count
  contents_there i least offset [] rest h l e =
      record { rows = refl; checks = refl; after = let n : i + 0 ≡ i = omega arith in rw n e }
  contents_there i least offset (r ∷ rs) rest h l e =
      let e' = e ∙ append_assoc (row_bytes offset r) _ rest in
      let lo : offset < 4294967296 = omega arith in
      let t =
      contents_there (suc i) (suc r.number) (offset + r.count * size) rs rest h.1 (omega arith)
      (after_row f i r offset _ h.0 lo e') in
      record {
        rows = rw (row_there f i r offset _ h.0 lo e', t.rows);
        checks = rw (eq-eqb (offset_at f i) offset (offset_there f i r offset _ h.0 lo e'), t.checks);
        after = let n : i + suc (length rs) ≡ suc i + length rs = omega arith in rw n t.after;
      }

-- words that stand in a file, and entries
words_there_lem : (f : List ℕ) (k : ℕ) (ws rest : List ℕ) → WordsFit ws → drop k f ≡ bytes_of ws ++ rest → words_from f k (length ws) ≡ ws
unfolding words_from bytes_of
words_there_lem f k [] rest h e = refl
words_there_lem f k (w ∷ ws) rest h e =
    let e' = e ∙ append_assoc (low 4 w) (bytes_of ws) rest in
    rw (
      word_there f k w _ (h 0) e',
      words_there_lem f (k + 4) ws rest (λ i. h (suc i)) (past f k (low 4 w) _ 4 (length-low 4 w) e'),
    )

-- the words of an entry, from those of them that the file has
length-held : (ed : Edition) (e : Entry) → length (take (file_words ed) (entry_words e)) ≡ file_words ed
unfolding entry_words
length-held First e = refl
length-held Second e = refl

words_held : (ed : Edition) (f : List ℕ) (k : ℕ) (e : Entry) → EditionFits ed e
    → words_from f k (file_words ed) ≡ take (file_words ed) (entry_words e) → entry_words_at ed f k ≡ entry_words e
unfolding entry_words
words_held First f k e z p = rw p (rw z)
words_held Second f k e z p = p

fit_take : (n : ℕ) (ws : List ℕ) → WordsFit ws → WordsFit (take n ws)
fit_take zero ws h i = omega arith
fit_take (suc n) [] h i = omega arith
fit_take (suc n) (w ∷ ws) h zero = h 0
fit_take (suc n) (w ∷ ws) h (suc i) = fit_take n ws (λ j. h (suc j)) i

entry_words_fit : (e : Entry) → EntryFits e → WordsFit (entry_words e)
unfolding words_of
entry_words_fit e h = rw (append-nil (entry_words e)) at (words_fit (e ∷ []) (h, tt))

entry_there : (ed : Edition) (f : List ℕ) (k : ℕ) (e : Entry) (rest : List ℕ) → EntryFits e → EditionFits ed e
    → drop k f ≡ entry_bytes ed e ++ rest → entry_in ed f k ≡ e
entry_there ed f k e rest h z p =
    let ws = take (file_words ed) (entry_words e) in
    let whole : entry_from (entry_words e) 0 ≡ e =
    ap (λ l. entry_from l 0) (sym (append-nil (entry_words e))) ∙ read_entry e [] h in
    let bytes : entry_bytes ed e ≡ bytes_of ws =
    ap (entry_bytes ed) (sym whole) ∙ entry_bytes_lem ed (entry_words e) (omega (arith, length-entry-words e)) in
    let there = words_there_lem f k ws rest (fit_take (file_words ed) (entry_words e) (entry_words_fit e h)) (p ∙ ap (λ s. s ++ rest) bytes) in
    ap (λ l. entry_from l 0) (words_held ed f k e z (rw (length-held ed e) at there)) ∙ whole

pub entries_there : (ed : Edition) (f : List ℕ) (k : ℕ) (es : List Entry) (rest : List ℕ) → EntriesFit es → Each (EditionFits ed) es
    → drop k f ≡ bodies_bytes ed es ++ rest → entries_at ed f k (length es) ≡ es
unfolding entries_at bodies_bytes
entries_there ed f k [] rest h z p = refl
entries_there ed f k (e ∷ es) rest h z p =
    let p' = p ∙ append_assoc (entry_bytes ed e) (bodies_bytes ed es) rest in
    rw (
      entry_there ed f k e _ h.0 (z 0 (omega arith)) p',
      entries_there ed f (k + entry_length ed) es rest h.1 (λ j l. z (suc j) (omega arith))
          (past f k (entry_bytes ed e) _ (entry_length ed) (length-entry ed e) p'),
    )

-- rows within the checks count few entries
pub few_entries_lem : (i least : ℕ) (rs : List Row) → rows_check i least rs ≡ accepted → entry_count rs ≤ length rs * most_entries
unfolding rows_check entry_count
few_entries_lem i least [] a = omega arith
few_entries_lem i least (r ∷ rs) a =
    let p = both_accepted (must_hold (row_test least r) _) _ a in
    omega (arith, (row_holds least r (demanded _ _ p.0)).few_entries, few_entries_lem (suc i) (suc r.number) rs p.1)

pub plan_same : {rs rs' : List Row} {es es' : List Entry} → rs ≡ rs' → es ≡ es'
    → ◌≡◌ {A = Plan} (record { rows = rs; entries = es }) (record { rows = rs'; entries = es' })
plan_same p q = cc

-- the first bytes of an encoding
encoding_cons : (ed : Edition) (p : Plan)
    → encoding ed p
    ≡ get_or (opening_bytes ed) 0 0 ∷ get_or (opening_bytes ed) 1 0 ∷ get_or (opening_bytes ed) 2 0 ∷ get_or (opening_bytes ed) 3 0
    ∷ length p.rows % 256 ∷ 0 ∷ 0 ∷ 0
    ∷ (contents_bytes (entry_length ed) (bodies_start (length p.rows)) p.rows ++ bodies_bytes ed p.entries)
unfolding encoding header_bytes low
encoding_cons First p = refl
encoding_cons Second p = refl

encoding_opens : (ed : Edition) (p : Plan) → Opens ed (encoding ed p)
encoding_opens ed p =
    let e = encoding_cons ed p in
    record {
      first = ap (λ f. get_or f 0 0) e;
      second = ap (λ f. get_or f 1 0) e;
      third = ap (λ f. get_or f 2 0) e;
      fourth = ap (λ f. get_or f 3 0) e;
    }

pub same_edition : (ed : Edition) (p : Plan) → edition_of (encoding ed p) ≡ ed
same_edition ed p = edition_opens (encoding ed p) ed (encoding_opens ed p)

-- a plan within the checks
module _ (ed : Edition) (p : Plan) (a : plan_check ed p ≡ accepted) (fits : PlanFits p) where
  held : WriterHolds ed p.rows p.entries (length p.entries * entry_size)
  held = writer_holds _ _ _ _ a

  nodes : node_count (encoding ed p) ≡ length p.rows
  nodes = let h = held.few in omega (arith, ap (λ f. get_or f 4 0) (encoding_cons ed p))

  after_header : drop (header_length + 0 * row_length) (encoding ed p)
      ≡ contents_bytes (entry_length ed) (bodies_start (length p.rows)) p.rows ++ bodies_bytes ed p.entries
  after_header = ap (drop 8) (encoding_cons ed p)

  there : ContentsThere (entry_length ed) (encoding ed p) 0 0 (bodies_start (length p.rows)) p.rows (bodies_bytes ed p.entries)
  there =
      contents_there (entry_length ed) (encoding ed p) 0 0 (bodies_start (length p.rows)) p.rows (bodies_bytes ed p.entries) fits.rows
      (omega (arith, held.few, few_entries_lem 0 0 p.rows held.rows_hold, entry_short ed (entry_count p.rows)))
      after_header

  pub same_rows : rows_in (encoding ed p) ≡ p.rows
  same_rows = rw nodes there.rows

  all_entries : length p.entries ≡ entry_count p.rows
  all_entries = omega (arith, held.counts)

  pub same_entries : entries_in (encoding ed p) ≡ p.entries
  same_entries =
      let z : 0 + length p.rows ≡ length p.rows = omega arith in
      rw (same_edition ed p, same_rows, nodes, ← all_entries)
      (entries_there ed (encoding ed p) (bodies_start (length p.rows)) p.entries [] fits.entries
      (written_fits ed 0 p.rows p.entries held.nodes (omega (arith, all_entries)))
      ((rw z at there.after) ∙ sym (append-nil _)))

  pub same_plan : plan_in (encoding ed p) ≡ p
  same_plan = plan_same same_rows same_entries

  long : length (encoding ed p) ≡ bodies_start (length p.rows) + entry_count p.rows * entry_length ed
  long = length-encoding ed p ∙ ap (λ n. bodies_start (length p.rows) + n * entry_length ed) all_entries

  header : header_check (encoding ed p) ≡ accepted
  header =
      let e = encoding_cons ed p in
      header_accepted (encoding ed p) (omega (arith, long)) (opens_known (encoding ed p) ed (encoding_opens ed p))
      (counted_true (encoding ed p)
      (record {
        some = omega (arith, nodes, held.some);
        few = omega (arith, nodes, held.few);
        zero5 = ap (λ f. get_or f 5 0) e;
        zero6 = ap (λ f. get_or f 6 0) e;
        zero7 = ap (λ f. get_or f 7 0) e;
      }))
      (omega (arith, nodes, long))

  layout : layout_check (entry_length (edition_of (encoding ed p))) (encoding ed p) 0 0 (bodies_start (node_count (encoding ed p)))
      (rows_in (encoding ed p))
      ≡ accepted
  unfolding layout_check
  layout = rw (same_edition ed p, same_rows, nodes, there.checks, held.rows_hold, eq-eqb _ _ long)

  pub encoding_accepted : file_check (encoding ed p) ≡ accepted
  encoding_accepted =
      file_bodies (encoding ed p) header layout
      ∙ rw (same_entries, same_rows) (written_nodes ed 0 p.rows p.entries held.nodes)
