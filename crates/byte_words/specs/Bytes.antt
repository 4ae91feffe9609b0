-- Numbers in bytes, low byte first, and words of 32 bits as four bytes each.
use Rattle.std.specs.Prelude.{ℕ, zero, suc, ◌+◌, ◌*◌, ◌/◌, ◌%◌, ◌<◌, List, [], ◌∷◌, ◌++◌, get_or}

-- Every number of the list is a byte.
abbrev pub Bytes : List ℕ → Type 0
Bytes f = (i : ℕ) → get_or f i 0 < 256

-- The low `k` bytes of a number, low byte first.
unfoldable pub low : ℕ → ℕ → List ℕ
low zero n = []
low (suc k) n = n % 256 ∷ low k (n / 256)

-- Words as bytes: four to a word, low byte first.
unfoldable pub bytes_of : List ℕ → List ℕ
bytes_of [] = []
bytes_of (w ∷ ws) = low 4 w ++ bytes_of ws

-- The word in the four bytes from byte `k` on, low byte first.
unfoldable pub word_at : List ℕ → ℕ → ℕ
word_at f k = get_or f k 0 + get_or f (k + 1) 0 * 256 + get_or f (k + 2) 0 * 65536 + get_or f (k + 3) 0 * 16777216

-- `n` words from byte `k` on.
unfoldable pub words_from : List ℕ → ℕ → ℕ → List ℕ
words_from f k zero = []
words_from f k (suc n) = word_at f k ∷ words_from f (k + 4) n
