-- Converting a file, and what was written back again, gives the same bytes, from the buffers as the calls leave them.
use Rattle.std.specs.Prelude.{ℕ, ◌≤◌, ◌≡◌, List, ◌++◌, length, take, drop}
use Rattle.refusals.specs.Answers.{Answer, gives, refuses}
use Rattle.plan_file.specs.declared.Edition.{Edition}
use Rattle.converter.specs.Conversion.{other, ConvertCall}

-- A file was converted. Then any call that converts the written part to the file's own edition, with room for the file,
-- gives the file's length. It writes the file's bytes from the start of its buffer and keeps the bytes beyond.
abbrev pub ConvertedAgain : Edition → List ℕ → Answer ℕ → List ℕ → Type 0
ConvertedAgain to f (refuses r) out = Unit
ConvertedAgain to f (gives n) out =
    (old : List ℕ) (a : Answer ℕ) (new : List ℕ)
    → length f ≤ length old
    → ConvertCall (other to) (take n out) old a new
    → (a ≡ gives (length f)) × (new ≡ f ++ drop (length f) old)
