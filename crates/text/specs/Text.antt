-- Text as bytes, and a buffer that text was written into.
use Rattle.std.specs.Prelude.{ℕ, ◌+◌, ◌≤◌, ◌≡◌, List, [], ◌∷◌, ◌++◌, length, take, drop}
use Rattle.text.specs.declared.Cursor.{Cursor}
use Prim.Native.Char.{code}
use Prim.Native.String.{String, [] as «empty», ◌∷◌ as «then»}

-- The bytes of an ASCII text: the code of each character.
abbrev pub text : String → List ℕ
text «empty» = []
text («then» c s) = code c ∷ text s

-- A buffer after the bytes `t` were written into it from position `at` on. The bytes before and beyond are kept.
abbrev pub written : List ℕ → ℕ → List ℕ → List ℕ
written buffer at t = take at buffer ++ t ++ drop (at + length t) buffer

-- `t` was written into the buffer of `old` from its position on, which left the cursor as `new`: in the same buffer, which
-- keeps its length, right after the text.
pub record Wrote (old : Cursor) (t : List ℕ) (new : Cursor) : Type 0 where
  pub same : new.out.ghost_name ≡ old.out.ghost_name
  pub buffer : new.out.now ≡ written old.out.now old.at t
  pub kept : length new.out.now ≡ length old.out.now
  pub after : new.at ≡ old.at + length t

-- The same for a text of at most `most` bytes.
pub record Upto (old : Cursor) (most : ℕ) (t : List ℕ) (new : Cursor) : Type 0 where
  pub wrote : Wrote old t new
  pub short : length t ≤ most
