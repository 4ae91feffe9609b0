-- Laws between a word and its four bytes.
use Prim.Native.Nat.{ℕ, zero, suc, ◌+◌, ◌*◌, ◌/◌, ◌%◌, ◌≤◌, ◌<◌}
use mathlib.Core.Path.{◌≡◌, ◌∙◌, refl, sym, ap}
use mathlib.Core.List.{List, [], ◌∷◌, ◌++◌, append_assoc, append-nil}
use native.Mathlib.Nat.{add-zero, add_assoc}
use native.Mathlib.Omega.{arith}
use native.Mathlib.Numerals.{add-one}
use lib.ListN.{length, get_or, take, drop}
use lib.Seq.{length-take-le, take-suc, get_or-drop}
use Rattle.std.proofs.lemmas.List.{get_or-take}
use Rattle.byte_words.specs.Bytes.{low, word_at, words_from, bytes_of, Bytes}
use Rattle.byte_words.proofs.Runs.{Run, run_length}

-- four bytes, whether they come as one number or as fields
four : {a b c d a' b' c' d' : ℕ} → a ≡ a' → b ≡ b' → c ≡ c' → d ≡ d'
    → ◌≡◌ {A = List ℕ} (a ∷ b ∷ c ∷ d ∷ []) (a' ∷ b' ∷ c' ∷ d' ∷ [])
four p q r s = cc

pub length-low : (k w : ℕ) → length (low k w) ≡ k
unfolding low
length-low zero w = refl
length-low (suc k) w = ap suc (length-low k (w / 256))

pub low_four : (w : ℕ) → w % 256 ∷ w / 256 % 256 ∷ w / 65536 % 256 ∷ w / 16777216 % 256 ∷ [] ≡ low 4 w
unfolding low
low_four w = four (omega arith) (omega arith) (omega arith) (omega arith)

pub head_bytes : (w : ℕ) → low 2 (w % 65536) ++ low 1 (w / 65536 % 256) ++ low 1 (w / 16777216 % 256) ≡ low 4 w
unfolding low
head_bytes w = four (omega arith) (omega arith) (omega arith) (omega arith)

pub words_run : (f : List ℕ) → Run 4 (word_at f) (words_from f)
unfolding words_from
words_run f = record { none = λ k. refl; more = λ k n. refl }

pub length-words : (f : List ℕ) (k n : ℕ) → length (words_from f k n) ≡ n
length-words f = run_length (words_run f)

-- words from byte `k` on are those of the bytes from there on
pub word_behind : (f : List ℕ) (k i : ℕ) → word_at (drop k f) i ≡ word_at f (k + i)
unfolding word_at
word_behind f k i =
    rw (get_or-drop k f i 0, get_or-drop k f (i + 1) 0, get_or-drop k f (i + 2) 0, get_or-drop k f (i + 3) 0, add_assoc k i 1, add_assoc k i 2, add_assoc k i 3)

-- the word in a part of four bytes
pub word_taken : (f : List ℕ) (k : ℕ) → word_at (take 4 (drop k f)) 0 ≡ word_at f k
unfolding word_at
word_taken f k =
    let g = drop k f in
    rw (get_or-take 4 g 0 0 (omega arith), get_or-take 4 g 1 0 (omega arith), get_or-take 4 g 2 0 (omega arith), get_or-take 4 g 3 0 (omega arith))
    (word_behind f k 0 ∙ ap (word_at f) (add-zero k))

pub words_behind : (f : List ℕ) (k i n : ℕ) → words_from (drop k f) i n ≡ words_from f (k + i) n
unfolding words_from
words_behind f k i zero = refl
words_behind f k i (suc n) = rw (word_behind f k i, words_behind f k (i + 4) n, add_assoc k i 4)

-- words as bytes
pub bytes_append : (xs ys : List ℕ) → bytes_of (xs ++ ys) ≡ bytes_of xs ++ bytes_of ys
unfolding bytes_of
bytes_append [] ys = refl
bytes_append (x ∷ xs) ys = ap (λ l. low 4 x ++ l) (bytes_append xs ys) ∙ sym (append_assoc (low 4 x) _ _)

pub length-bytes : (ws : List ℕ) → length (bytes_of ws) ≡ length ws * 4
unfolding bytes_of low
length-bytes [] = refl
length-bytes (w ∷ ws) = omega (arith, length-bytes ws)

pub bytes_length : (ws : List ℕ) (i : ℕ) → i ≤ length ws → length (bytes_of (take i ws)) ≡ i * 4
bytes_length ws i h = length-bytes (take i ws) ∙ ap (λ n. n * 4) (length-take-le i ws h)

pub bytes_more : (ws : List ℕ) (i : ℕ) → i < length ws → bytes_of (take i ws) ++ low 4 (get_or ws i 0) ≡ bytes_of (take (i + 1) ws)
unfolding bytes_of
bytes_more ws i h =
    rw (add-one i, take-suc ws i 0 h, bytes_append (take i ws)) (ap (λ l. bytes_of (take i ws) ++ l) (sym (append-nil (low 4 (get_or ws i 0)))))

pub word_below : (f : List ℕ) → Bytes f → (k : ℕ) → word_at f k < 4294967296
unfolding word_at
word_below f b k = omega (arith, b k, b (k + 1), b (k + 2), b (k + 3))
