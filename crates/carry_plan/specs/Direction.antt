-- What the words that the program is called with ask for.
use Rattle.std.specs.Prelude.{ℕ, ◌≡◌, List, [], Option, Some, None}
use Rattle.text.specs.Text.{text}
use Rattle.plan_file.specs.declared.Edition.{Edition}
use Rattle.plan_file.specs.declared.Edition.TheVariants.{First, Second}
use Rattle.carry_plan.specs.declared.Words.{Words}

-- The program is called with `count` words, its own name among them; `word` is the one after that name. With two words,
-- `forward` asks for the second edition and `back` for the first. Everything else asks for none.
abbrev pub Asks : Option Edition → ℕ → List ℕ → Type 0
Asks (Some Second) count word = (count ≡ 2) × (word ≡ text "forward")
Asks (Some First) count word = (count ≡ 2) × (word ≡ text "back")
Asks None count word = (count ≡ 2 → word ≡ text "forward" → ⊥) × (count ≡ 2 → word ≡ text "back" → ⊥)

-- The word after the program's name. Where there is none that is short enough to ask for anything, an empty word stands for it.
abbrev pub first_of : Words → List ℕ
first_of words =
    elim words.first [
      | Some word ↦ word.now
      | None ↦ []
    ]
