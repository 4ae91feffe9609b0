-- Entries and their words: reading undoes writing, and writing undoes reading. The first four laws are about one entry. All
-- others follow from them, and depend neither on the number of words of an entry nor on their contents.
use Prim.Native.Nat.{ℕ, zero, suc, ◌+◌, ◌-◌, ◌*◌, ◌/◌, ◌%◌, ◌≤◌, ◌<◌}
use mathlib.Core.Path.{◌≡◌, ◌∙◌, refl, sym, ap}
use mathlib.Core.List.{List, [], ◌∷◌, ◌++◌, append_assoc}
use native.Mathlib.Nat.{add-zero}
use native.Mathlib.Omega.{arith}
use lib.ListN.{length, take, drop, set, length-append, length-drop}
use lib.Seq.{sets, drop-drop, drop_at, drop-append-le, get_or-drop, take-add}
use Rattle.task_model.specs.declared.Entry.{Entry}
use Rattle.node_words.specs.Words.{entry_size, entry_words, entry_from, words_of, entries_from, entries_of, EntryFits, EntriesFit, WordsFit}

pub length-entry : (e : Entry) → length (entry_words e) ≡ entry_size
unfolding entry_words
length-entry e = refl

-- an entry that begins with word `k` is the first of the words from there on
pub entry_drop : (ws : List ℕ) (k : ℕ) → entry_from ws k ≡ entry_from (drop k ws) 0
unfolding entry_from
entry_drop ws k =
    let e : k + 0 ≡ k = omega arith in
    rw (get_or-drop k ws 0 0, get_or-drop k ws (0 + 1) 0, get_or-drop k ws (0 + 2) 0, get_or-drop k ws (0 + 3) 0, get_or-drop k ws (0 + 4) 0, get_or-drop k ws (0 + 5) 0, e)

-- what is written of an entry is read as that entry
parts : (n k c : ℕ) → n < 65536 → k < 256 → c < 256
    → ((n + k * 65536 + c * 16777216) % 65536 ≡ n)
    × ((n + k * 65536 + c * 16777216) / 65536 % 256 ≡ k)
    × ((n + k * 65536 + c * 16777216) / 16777216 % 256 ≡ c)
parts n k c hn hk hc =
    let q : (n + k * 65536 + c * 16777216) / 65536 ≡ k + c * 256 = omega arith in
    let r : (n + k * 65536 + c * 16777216) / 16777216 ≡ c = omega arith in
    (omega arith, rw q (omega arith), rw r (omega arith))

pub read_entry : (e : Entry) (rest : List ℕ) → EntryFits e → entry_from (entry_words e ++ rest) 0 ≡ e
unfolding entry_from entry_words
read_entry e rest h =
    let p = parts e.number e.kind e.calls h.number h.kind h.calls in
    rw (p.0, p.1, p.2)

-- what is read from words of 32 bits is written as these words
head_word : (w : ℕ) → w < 4294967296 → w % 65536 + w / 65536 % 256 * 65536 + w / 16777216 % 256 * 16777216 ≡ w
head_word w h = omega arith

first : (a b : ℕ) (l : List ℕ) → a ≡ b → a ∷ l ≡ b ∷ l
first a b l p = rw p

write_entry : (ws : List ℕ) → WordsFit ws → entry_size ≤ length ws → entry_words (entry_from ws 0) ≡ take entry_size ws
unfolding entry_from entry_words
write_entry [] h l = absurd (omega arith)
write_entry (a ∷ []) h l = absurd (omega arith)
write_entry (a ∷ b ∷ []) h l = absurd (omega arith)
write_entry (a ∷ b ∷ c ∷ []) h l = absurd (omega arith)
write_entry (a ∷ b ∷ c ∷ d ∷ []) h l = absurd (omega arith)
write_entry (a ∷ b ∷ c ∷ d ∷ e ∷ []) h l = absurd (omega arith)
write_entry (a ∷ b ∷ c ∷ d ∷ e ∷ f ∷ ws) h l = first _ _ _ (head_word a (h 0))

-- an entry goes by its own words alone
pub entry_front : (ws rest : List ℕ) → entry_size ≤ length ws → entry_from (ws ++ rest) 0 ≡ entry_from ws 0
unfolding entry_from
entry_front [] rest l = absurd (omega arith)
entry_front (a ∷ []) rest l = absurd (omega arith)
entry_front (a ∷ b ∷ []) rest l = absurd (omega arith)
entry_front (a ∷ b ∷ c ∷ []) rest l = absurd (omega arith)
entry_front (a ∷ b ∷ c ∷ d ∷ []) rest l = absurd (omega arith)
entry_front (a ∷ b ∷ c ∷ d ∷ e ∷ []) rest l = absurd (omega arith)
entry_front (a ∷ b ∷ c ∷ d ∷ e ∷ f ∷ ws) rest l = refl

-- the words of an entry whose fields have their widths have 32 bits
entry_words_fit : (e : Entry) (rest : List ℕ) → EntryFits e → WordsFit rest → WordsFit (entry_words e ++ rest)
unfolding entry_words
entry_words_fit e rest h r zero = omega (arith, h.number, h.kind, h.calls)
entry_words_fit e rest h r (suc zero) = h.wcet
entry_words_fit e rest h r (suc (suc zero)) = h.period
entry_words_fit e rest h r (suc (suc (suc zero))) = h.deadline
entry_words_fit e rest h r (suc (suc (suc (suc zero)))) = h.blocking
entry_words_fit e rest h r (suc (suc (suc (suc (suc zero))))) = h.jitter
entry_words_fit e rest h r (suc (suc (suc (suc (suc (suc i)))))) = r i

-- the fields of an entry that is read from words of 32 bits have their widths
entry_fits : (ws : List ℕ) (k : ℕ) → WordsFit ws → EntryFits (entry_from ws k)
unfolding entry_from
entry_fits ws k h =
    record {
      number = omega arith;
      kind = omega arith;
      calls = omega arith;
      wcet = h _;
      period = h _;
      deadline = h _;
      blocking = h _;
      jitter = h _;
    }

-- of lists of entries
pub words_append : (xs ys : List Entry) → words_of (xs ++ ys) ≡ words_of xs ++ words_of ys
unfolding words_of
words_append [] ys = refl
words_append (x ∷ xs) ys = ap (λ ws. entry_words x ++ ws) (words_append xs ys) ∙ sym (append_assoc (entry_words x) _ _)

pub length-words : (es : List Entry) → length (words_of es) ≡ length es * entry_size
unfolding words_of
length-words [] = refl
length-words (e ∷ es) = length-append (entry_words e) (words_of es) ∙ omega (arith, length-entry e, length-words es)

-- the entries of words from word `k` on
module _ (ws : List ℕ) where
  entry_later : (k i : ℕ) → entry_from (drop k ws) i ≡ entry_from ws (k + i)
  entry_later k i =
      entry_drop (drop k ws) i ∙ ap (λ l. entry_from l 0) (drop-drop i k ws) ∙ sym (entry_drop ws (k + i))

  entries_later : (j i n : ℕ) → entries_from (drop (j * entry_size) ws) i n ≡ entries_from ws (j + i) n
  unfolding entries_from
  entries_later j i zero = refl
  entries_later j i (suc n) =
      let e : j * entry_size + i * entry_size ≡ (j + i) * entry_size = omega arith in
      let e2 : j + suc i ≡ suc (j + i) = omega arith in
      rw (entry_later (j * entry_size) (i * entry_size), e, entries_later j (suc i) n, e2)

  pub entries_dropped : (j n : ℕ) → entries_of (drop (j * entry_size) ws) n ≡ entries_from ws j n
  entries_dropped j n = entries_later j 0 n ∙ ap (λ i. entries_from ws i n) (add-zero j)

  pub entries_cons : (n : ℕ) → entries_of ws (suc n) ≡ entry_from ws 0 ∷ entries_of (drop entry_size ws) n
  unfolding entries_from
  entries_cons n = ap (λ es. entry_from ws 0 ∷ es) (sym (entries_dropped 1 n))

  -- entries from a position on, and up to one
  pub entries_drop : (p j n : ℕ) → p ≤ n → drop p (entries_from ws j n) ≡ entries_from ws (j + p) (n - p)
  unfolding entries_from
  entries_drop zero j n h = let e : j + 0 ≡ j = omega arith in let e2 : n - 0 ≡ n = omega arith in rw (e, e2)
  entries_drop (suc p) j zero h = absurd (omega arith)
  entries_drop (suc p) j (suc n) h =
      let e : j + suc p ≡ suc j + p = omega arith in
      let e2 : suc n - suc p ≡ n - p = omega arith in
      rw (e, e2) (entries_drop p (suc j) n (omega arith))

  pub entries_take : (p j n : ℕ) → p ≤ n → take p (entries_from ws j n) ≡ entries_from ws j p
  unfolding entries_from
  entries_take zero j n h = refl
  entries_take (suc p) j zero h = absurd (omega arith)
  entries_take (suc p) j (suc n) h = rw (entries_take p (suc j) n (omega arith))

pub entries_front : (n : ℕ) (ws rest : List ℕ) → n * entry_size ≤ length ws → entries_of (ws ++ rest) n ≡ entries_of ws n
unfolding entries_from
entries_front zero ws rest l = refl
entries_front (suc n) ws rest l =
    entries_cons (ws ++ rest) n
    ∙ rw (
      entry_front ws rest (omega arith),
      drop-append-le entry_size ws rest (omega arith),
      entries_front n (drop entry_size ws) rest (omega (arith, length-drop entry_size ws)),
    )
    (sym (entries_cons ws n))

-- what is written of entries is read as these entries, whatever comes after them
pub read_entries : (es : List Entry) (rest : List ℕ) → EntriesFit es → entries_of (words_of es ++ rest) (length es) ≡ es
unfolding entries_from words_of entry_words
read_entries [] rest h = refl
read_entries (e ∷ es) rest h =
    rw (append_assoc (entry_words e) (words_of es) rest)
    (entries_cons (entry_words e ++ (words_of es ++ rest)) (length es)
    ∙ rw (read_entry e (words_of es ++ rest) h.0, drop_at (entry_words e) (words_of es ++ rest) entry_size (length-entry e), read_entries es rest h.1))

-- what is read from words of 32 bits is written as these words
fit_drop : (k : ℕ) (ws : List ℕ) → WordsFit ws → WordsFit (drop k ws)
fit_drop k ws h i = rw (get_or-drop k ws i 0) (h (k + i))

write_cons : (ws : List ℕ) (n : ℕ) → entry_words (entry_from ws 0) ≡ take entry_size ws
    → words_of (entries_of (drop entry_size ws) n) ≡ take (n * entry_size) (drop entry_size ws)
    → words_of (entries_of ws (suc n)) ≡ take (suc n * entry_size) ws
unfolding words_of
write_cons ws n p q =
    let e : suc n * entry_size ≡ entry_size + n * entry_size = omega arith in
    rw (entries_cons ws n, e) (rw (p, q) (sym (take-add entry_size (n * entry_size) ws)))

pub write_entries : (n : ℕ) (ws : List ℕ) → WordsFit ws → n * entry_size ≤ length ws → words_of (entries_of ws n) ≡ take (n * entry_size) ws
unfolding words_of entries_from
write_entries zero ws h l = refl
write_entries (suc n) ws h l =
    write_cons ws n (write_entry ws h (omega arith))
    (write_entries n (drop entry_size ws) (fit_drop entry_size ws h) (omega (arith, length-drop entry_size ws)))

pub write_entries_from : (ws : List ℕ) → WordsFit ws → (j n : ℕ) → (j + n) * entry_size ≤ length ws
    → words_of (entries_from ws j n) ≡ take (n * entry_size) (drop (j * entry_size) ws)
write_entries_from ws h j n l =
    ap words_of (sym (entries_dropped ws j n))
    ∙ write_entries n (drop (j * entry_size) ws) (fit_drop (j * entry_size) ws h) (omega (arith, length-drop (j * entry_size) ws))

pub words_fit : (es : List Entry) → EntriesFit es → WordsFit (words_of es)
unfolding words_of
words_fit [] h i = omega arith
words_fit (e ∷ es) h i = entry_words_fit e (words_of es) h.0 (words_fit es h.1) i

pub entries_fit : (ws : List ℕ) → WordsFit ws → (j n : ℕ) → EntriesFit (entries_from ws j n)
unfolding entries_from
entries_fit ws h j zero = tt
entries_fit ws h j (suc n) = (entry_fits ws (j * entry_size) h, entries_fit ws h (suc j) n)

-- an entry's words, stored one by one
pub stored_all : (d : List ℕ) (k : ℕ) (e : Entry)
    → set (set (set (set (set (set d k (e.number + e.kind * 65536 + e.calls * 16777216)) (k + 1) e.wcet) (k + 2) e.period) (k + 3) e.deadline) (k + 4) e.blocking) (k + 5) e.jitter
    ≡ sets d k (entry_words e)
unfolding entry_words
stored_all d k e =
    let e1 : k + 1 ≡ suc k = omega arith in
    let e2 : k + 2 ≡ suc (suc k) = omega arith in
    let e3 : k + 3 ≡ suc (suc (suc k)) = omega arith in
    let e4 : k + 4 ≡ suc (suc (suc (suc k))) = omega arith in
    let e5 : k + 5 ≡ suc (suc (suc (suc (suc k)))) = omega arith in
    rw (e1, e2, e3, e4, e5)
