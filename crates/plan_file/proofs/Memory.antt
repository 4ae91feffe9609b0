-- Laws of the entries of a file, taken as a plan or a node in memory.
use Prim.Native.Nat.{ℕ, zero, suc, ◌+◌, ◌-◌, ◌*◌, ◌/◌, ◌%◌, ◌≤◌, ◌<◌}
use mathlib.Core.Path.{◌≡◌, ◌∙◌, refl, sym, ap}
use mathlib.Core.List.{List, [], ◌∷◌, ◌++◌, append-nil}
use native.Mathlib.Nat.{zero-add, add-zero, add_assoc}
use native.Mathlib.Omega.{arith}
use lib.ListN.{length, take, drop, length-drop}
use lib.Seq.{sets, take_all, length-take-le}
use Rattle.refusals.specs.Refusals.{accepted}
use Rattle.task_model.specs.declared.Entry.{Entry}
use Rattle.task_model.specs.Limits.{Node}
use Rattle.node_words.specs.Words.{entry_size, entry_words, entry_from, words_of, entries_from, entries_of, EntriesFit, WordsFit}
use Rattle.node_words.proofs.Words.{length-entry, words_append, length-words as length-words-of, read_entries, write_entries, entries_fit}
use Rattle.byte_words.specs.Bytes.{Bytes, words_from}
use Rattle.byte_words.specs.Buffers.{over}
use Rattle.byte_words.proofs.Words.{length-words, word_below, words_behind}
use Rattle.byte_words.proofs.Buffers.{over_start, stored, over_next, tail_of}
use Rattle.byte_words.proofs.Runs.{run_split}
use Rattle.plan_file.specs.declared.Edition.{Edition}
use Rattle.plan_file.specs.declared.Edition.TheVariants.{First, Second}
use Rattle.plan_file.specs.Decoding.{edition_of, node_count, row_at, offset_at, entry_words_at, entry_in, entries_at, file_words}
use Rattle.plan_file.specs.Encoding.{entry_length}
use Rattle.plan_file.specs.Check.{file_check}
use Rattle.plan_file.specs.Limits.{EditionFits}
use Rattle.plan_file.specs.Answers.{Loaded}
use Rattle.plan_file.proofs.Words.{entries_in_words}
use Rattle.plan_file.proofs.Bodies.{Each}
use Rattle.plan_file.proofs.Contents.{entries_run, length-entries_at}
use Rattle.plan_file.proofs.Nodes.{node_at_lem}

words_below : (f : List ℕ) → Bytes f → (k n : ℕ) → WordsFit (words_from f k n)
unfolding words_from
words_below f b k zero i = omega arith
words_below f b k (suc n) zero = word_below f b k
words_below f b k (suc n) (suc i) = words_below f b (k + 4) n i

fit_append : (xs ys : List ℕ) → WordsFit xs → WordsFit ys → WordsFit (xs ++ ys)
fit_append [] ys h g i = g i
fit_append (x ∷ xs) ys h g zero = h 0
fit_append (x ∷ xs) ys h g (suc i) = fit_append xs ys (λ j. h (suc j)) g i

fit_zero : WordsFit (0 ∷ [])
fit_zero zero = omega arith
fit_zero (suc i) = omega arith

-- the words of an entry that lies in a file of bytes have 32 bits
words_fit : (ed : Edition) (f : List ℕ) → Bytes f → (k : ℕ) → WordsFit (entry_words_at ed f k)
words_fit First f b k = fit_append (words_from f k (file_words First)) (0 ∷ []) (words_below f b k (file_words First)) fit_zero
words_fit Second f b k = words_below f b k entry_size

-- so the fields of such entries have their widths
pub entries_at_fit : (ed : Edition) (f : List ℕ) → Bytes f → (k n : ℕ) → EntriesFit (entries_at ed f k n)
unfolding entries_at entries_from
entries_at_fit ed f b k zero = tt
entries_at_fit ed f b k (suc n) = ((entries_fit (entry_words_at ed f k) (words_fit ed f b k) 0 1).0, entries_at_fit ed f b (k + entry_length ed) n)

-- and the edition has a place for them: J is 0 in the first
edition_fits : (ed : Edition) (f : List ℕ) (k : ℕ) → EditionFits ed (entry_in ed f k)
unfolding entry_from words_from
edition_fits First f k = refl
edition_fits Second f k = tt

pub entries_at_edition : (ed : Edition) (f : List ℕ) (k n : ℕ) → Each (EditionFits ed) (entries_at ed f k n)
unfolding entries_at
entries_at_edition ed f k zero j h = absurd (omega arith)
entries_at_edition ed f k (suc n) zero h = edition_fits ed f k
entries_at_edition ed f k (suc n) (suc j) h = entries_at_edition ed f (k + entry_length ed) n j (omega arith)

-- the words of the entries that lie in a file of the second edition are the file's
pub words_of_entries : (f : List ℕ) → Bytes f → (k n : ℕ) → words_of (entries_at Second f k n) ≡ words_from f k (n * entry_size)
words_of_entries f b k n =
    let l = length-words f k (n * entry_size) in
    ap words_of (entries_in_words f k n)
    ∙ write_entries n _ (words_below f b k (n * entry_size)) (omega (arith, l))
    ∙ take_all (n * entry_size) _ (omega (arith, l))

-- entries in memory are read again
pub read_again : (es : List Entry) (n : ℕ) (rest : List ℕ) → length es ≡ n → EntriesFit es → entries_of (words_of es ++ rest) n ≡ es
read_again es n rest e h = rw (← e) (read_entries es rest h)

-- a node that is copied to the start of an array is loaded
pub loaded : (f : List ℕ) → Bytes f → file_check f ≡ accepted → (i : ℕ) → i < node_count f → (old new : List ℕ)
    → new ≡ over old 0 (words_of (entries_at (edition_of f) f (offset_at f i) (row_at f i).count)) → Loaded f i (row_at f i) old new
loaded f b a i h old new e =
    let start = e ∙ over_start old _ in
    let k = offset_at f i in
    let n = (row_at f i).count in
    let es = entries_at (edition_of f) f k n in
    let ws = ap (λ (n : Node). words_of n.entries) (node_at_lem f a i h) in
    record {
      row = refl;
      words = rw ws start;
      node = rw (node_at_lem f a i h, start, read_again es n _ (length-entries_at (edition_of f) f k n) (entries_at_fit (edition_of f) f b k n));
    }

-- entries copied to a buffer's start, and one more
pub entry_copied : (ed : Edition) (f : List ℕ) (k i : ℕ) (d w : List ℕ) (e : Entry) → w ≡ over d 0 (words_of (entries_at ed f k i))
    → length w ≡ length d → e ≡ entry_in ed f (k + i * entry_length ed) → i * entry_size + entry_size ≤ length d
    → sets w (i * entry_size) (entry_words e) ≡ over d 0 (words_of (entries_at ed f k (i + 1)))
unfolding words_of
entry_copied ed f k i d w e p q r h =
    let run = entries_run ed f in
    let es = entries_at ed f k i in
    let l : length (words_of es) ≡ i * entry_size = length-words-of es ∙ ap (λ n. n * entry_size) (length-entries_at ed f k i) in
    let more : words_of (entries_at ed f k (i + 1)) ≡ words_of es ++ entry_words e =
    rw (run_split run k i 1, run.more (k + i * entry_length ed) 0, run.none (k + i * entry_length ed + entry_length ed), ← r)
    (words_append es (e ∷ []) ∙ ap (λ ws. words_of es ++ ws) (append-nil (entry_words e))) in
    stored w (i * entry_size) (entry_words e) (omega (arith, length-entry e))
    ∙ rw (p, more) (ap (λ j. over (over d 0 (words_of es)) j (entry_words e)) (sym (zero-add (i * entry_size)))
    ∙ over_next d 0 (i * entry_size) (words_of es) (entry_words e) l (omega arith))

-- the words of whole entries
pub words_whole : (ed : Edition) (f : List ℕ) (k m : ℕ) → m % entry_size ≡ 0 → length (words_of (entries_at ed f k (m / entry_size))) ≡ m
words_whole ed f k m h = omega (arith, length-words-of (entries_at ed f k (m / entry_size)), length-entries_at ed f k (m / entry_size))

-- entries that lie behind byte `k`
entry_behind : (ed : Edition) (f : List ℕ) (k i : ℕ) → entry_in ed (drop k f) i ≡ entry_in ed f (k + i)
entry_behind First f k i = ap (λ ws. entry_from (ws ++ (0 ∷ [])) 0) (words_behind f k i (file_words First))
entry_behind Second f k i = ap (λ ws. entry_from ws 0) (words_behind f k i (file_words Second))

module _ (ed : Edition) (f : List ℕ) (k : ℕ) where
  pub entries_behind : (i n : ℕ) → entries_at ed (drop k f) i n ≡ entries_at ed f (k + i) n
  unfolding entries_at
  entries_behind i zero = refl
  entries_behind i (suc n) = rw (entry_behind ed f k i, entries_behind (i + entry_length ed) n, add_assoc k i (entry_length ed))

  -- `n` of them are copied to a buffer's start
  module _ (n : ℕ) (d : List ℕ) (h : n * entry_size ≤ length d) where
    taken : length (take (n * entry_size) d) / entry_size ≡ n
    taken = omega (arith, length-take-le (n * entry_size) d h)

    pub entries_room : k + n * entry_length ed ≤ length f
        → (length (take (n * entry_size) d) % entry_size ≡ 0)
        × (length (take (n * entry_size) d) / entry_size * entry_length ed ≤ length (take (length f - k) (drop k f)))
    entries_room r = (omega (arith, length-take-le (n * entry_size) d h), rw (taken, tail_of f k, length-drop k f) (omega (arith, r)))

    pub entries_filled : (new : List ℕ)
        → new ≡ words_of (entries_at ed (take (length f - k) (drop k f)) 0 (length (take (n * entry_size) d) / entry_size))
        → new ++ drop (n * entry_size) d ≡ over d 0 (words_of (entries_at ed f k n))
    entries_filled new e =
        let es = entries_at ed f k n in
        let many : length (words_of es) ≡ n * entry_size = length-words-of es ∙ ap (λ m. m * entry_size) (length-entries_at ed f k n) in
        let there : new ≡ words_of es = e ∙ rw (taken, tail_of f k, entries_behind 0 n, add-zero k) in
        rw (there, over_start d (words_of es), many)
