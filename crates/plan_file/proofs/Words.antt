-- Laws of words and the fields that they hold.
use Prim.Native.Nat.{ℕ, zero, suc, ◌+◌, ◌*◌, ◌/◌, ◌%◌, ◌≤◌, ◌<◌}
use mathlib.Core.Path.{◌≡◌, ◌∙◌, refl, sym, ap}
use mathlib.Core.List.{List, [], ◌∷◌, ◌++◌, append_assoc, append-nil}
use native.Mathlib.Omega.{arith}
use lib.ListN.{length, get_or, take, drop, length-drop}
use lib.Seq.{take-add, drop_at}
use Rattle.task_model.specs.declared.Entry.{Entry}
use Rattle.node_words.specs.Words.{entry_size, entry_from, entries_from, entries_of}
use Rattle.node_words.proofs.Words.{entries_cons, entry_front}
use Rattle.plan_file.specs.declared.Edition.{Edition}
use Rattle.plan_file.specs.declared.Edition.TheVariants.{First, Second}
use Rattle.plan_file.specs.declared.Row.{Row}
use Rattle.plan_file.specs.Plan.{row_word, row_of, RowFits}
use Rattle.plan_file.specs.Encoding.{entry_length, row_bytes, field_bytes, entry_bytes, bodies_bytes}
use Rattle.byte_words.specs.Bytes.{Bytes, low, word_at, words_from, bytes_of}
use Rattle.byte_words.proofs.Words.{head_bytes, words_run, length-words, bytes_append}
use Rattle.byte_words.proofs.Runs.{run_split}
use Rattle.plan_file.specs.Decoding.{entry_words_at, entries_at, file_words}

pub row_bytes_lem : (offset w : ℕ) → row_bytes offset (row_of w) ≡ low 4 w ++ low 4 offset
unfolding row_bytes row_of
row_bytes_lem offset w = rw head_bytes

-- a word of 32 bits is that of the row it holds
pub row_word_lem : (w : ℕ) → w < 4294967296 → row_word (row_of w) ≡ w
unfolding row_word row_of
row_word_lem w h = omega arith

-- a row is that of its word
row_same : {a b c a' b' c' : ℕ} → a ≡ a' → b ≡ b' → c ≡ c'
    → ◌≡◌ {A = Row} (record { number = a; levels = b; count = c }) (record { number = a'; levels = b'; count = c' })
row_same p q r = cc

pub row_of_word : (r : Row) → RowFits r → row_of (row_word r) ≡ r
unfolding row_of row_word
row_of_word r h = row_same (omega arith) (omega arith) (omega arith)

-- the bytes of an entry are those of the words that the edition holds
pub entry_bytes_lem : (ed : Edition) (ws : List ℕ) → entry_size ≤ length ws
    → entry_bytes ed (entry_from ws 0) ≡ bytes_of (take (file_words ed) ws)
unfolding entry_bytes field_bytes entry_from bytes_of
entry_bytes_lem ed [] l = absurd (omega arith)
entry_bytes_lem ed (a ∷ []) l = absurd (omega arith)
entry_bytes_lem ed (a ∷ b ∷ []) l = absurd (omega arith)
entry_bytes_lem ed (a ∷ b ∷ c ∷ []) l = absurd (omega arith)
entry_bytes_lem ed (a ∷ b ∷ c ∷ d ∷ []) l = absurd (omega arith)
entry_bytes_lem ed (a ∷ b ∷ c ∷ d ∷ e ∷ []) l = absurd (omega arith)
entry_bytes_lem First (a ∷ b ∷ c ∷ d ∷ e ∷ g ∷ ws) l = rw (head_bytes a) (simp (append_assoc, append-nil))
entry_bytes_lem Second (a ∷ b ∷ c ∷ d ∷ e ∷ g ∷ ws) l = rw (head_bytes a) (simp (append_assoc, append-nil))

-- in the second edition the bytes of entries are those of all their words
bodies_cons : (ws : List ℕ) (n : ℕ) → entry_size ≤ length ws
    → bodies_bytes Second (entries_of (drop entry_size ws) n) ≡ bytes_of (take (n * entry_size) (drop entry_size ws))
    → bodies_bytes Second (entries_of ws (suc n)) ≡ bytes_of (take (suc n * entry_size) ws)
unfolding bodies_bytes
bodies_cons ws n l p =
    let e : suc n * entry_size ≡ entry_size + n * entry_size = omega arith in
    rw (entries_cons ws n, e, take-add entry_size (n * entry_size) ws, bytes_append) (rw (entry_bytes_lem Second ws l, p))

pub bodies_bytes_lem : (n : ℕ) (ws : List ℕ) → n * entry_size ≤ length ws
    → bodies_bytes Second (entries_of ws n) ≡ bytes_of (take (n * entry_size) ws)
unfolding bodies_bytes entries_from bytes_of
bodies_bytes_lem zero ws l = refl
bodies_bytes_lem (suc n) ws l =
    bodies_cons ws n (omega arith) (bodies_bytes_lem n (drop entry_size ws) (omega (arith, length-drop entry_size ws)))

-- the fields in the first word of an entry
module _ (f : List ℕ) (b : Bytes f) (k : ℕ) where
  head_number : word_at f k % 65536 ≡ get_or f k 0 + get_or f (k + 1) 0 * 256
  unfolding word_at
  head_number = omega (arith, b k, b (k + 1), b (k + 2), b (k + 3))

  head_kind : word_at f k / 65536 % 256 ≡ get_or f (k + 2) 0
  unfolding word_at
  head_kind = omega (arith, b k, b (k + 1), b (k + 2), b (k + 3))

  head_calls : word_at f k / 16777216 % 256 ≡ get_or f (k + 3) 0
  unfolding word_at
  head_calls = omega (arith, b k, b (k + 1), b (k + 2), b (k + 3))

  -- an entry that has the fields of these bytes, and any J
  pub byte_entry : (e : Entry) → e.number ≡ get_or f k 0 + get_or f (k + 1) 0 * 256 → e.kind ≡ get_or f (k + 2) 0
      → e.calls ≡ get_or f (k + 3) 0
      → e.wcet ≡ word_at f (k + 4)
      → e.period ≡ word_at f (k + 8)
      → e.deadline ≡ word_at f (k + 12)
      → e.blocking ≡ word_at f (k + 16)
      → e ≡ entry_from (words_from f k (file_words First) ++ (e.jitter ∷ [])) 0
  unfolding entry_from words_from
  byte_entry e n kind calls c t d b =
      let e8 : k + 4 + 4 ≡ k + 8 = omega arith in
      let e12 : k + 8 + 4 ≡ k + 12 = omega arith in
      let e16 : k + 12 + 4 ≡ k + 16 = omega arith in
      rw (e8, e12, e16, head_number, head_kind, head_calls, ← n, ← kind, ← calls, ← c, ← t, ← d, ← b)

pub words_first : (f : List ℕ) (k : ℕ)
    → word_at f k ∷ word_at f (k + 4) ∷ word_at f (k + 8) ∷ word_at f (k + 12) ∷ word_at f (k + 16) ∷ 0 ∷ []
    ≡ entry_words_at First f k
unfolding words_from
words_first f k =
    let e8 : k + 4 + 4 ≡ k + 8 = omega arith in
    let e12 : k + 8 + 4 ≡ k + 12 = omega arith in
    let e16 : k + 12 + 4 ≡ k + 16 = omega arith in
    rw (e8, e12, e16)

pub words_second : (f : List ℕ) (k : ℕ)
    → word_at f k ∷ word_at f (k + 4) ∷ word_at f (k + 8) ∷ word_at f (k + 12) ∷ word_at f (k + 16) ∷ word_at f (k + 20) ∷ []
    ≡ entry_words_at Second f k
unfolding words_from
words_second f k =
    let e8 : k + 4 + 4 ≡ k + 8 = omega arith in
    let e12 : k + 8 + 4 ≡ k + 12 = omega arith in
    let e16 : k + 12 + 4 ≡ k + 16 = omega arith in
    let e20 : k + 16 + 4 ≡ k + 20 = omega arith in
    rw (e8, e12, e16, e20)

-- five words and J
pub words_jitter : (f : List ℕ) (k : ℕ) → words_from f k (file_words First) ++ (word_at f (k + 20) ∷ []) ≡ entry_words_at Second f k
unfolding words_from
words_jitter f k = let e : k + 4 + 4 + 4 + 4 + 4 ≡ k + 20 = omega arith in rw e

-- the entries that lie in a file of the second edition are those that its words hold
pub entries_in_words : (f : List ℕ) (k n : ℕ) → entries_at Second f k n ≡ entries_of (words_from f k (n * entry_size)) n
unfolding entries_at entries_from
entries_in_words f k zero = refl
entries_in_words f k (suc n) =
    let e : suc n * entry_size ≡ entry_size + n * entry_size = omega arith in
    let ws = words_from f k entry_size in
    let rest = words_from f (k + entry_length Second) (n * entry_size) in
    let l = length-words f k entry_size in
    let parts : words_from f k (suc n * entry_size) ≡ ws ++ rest = ap (words_from f k) e ∙ run_split (words_run f) k entry_size (n * entry_size) in
    sym
    (ap (λ (w : List ℕ). entries_of w (suc n)) parts
    ∙ (entries_cons (ws ++ rest) n
    ∙ rw (entry_front ws rest (omega (arith, l)), drop_at ws rest entry_size l, entries_in_words f (k + entry_length Second) n)))
