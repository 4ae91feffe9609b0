-- The numbers of the editions.
use Rattle.std.specs.Prelude.{ℕ, Bool, ◌≡◌, true, false, ◌||◌, eqb, Result, Ok, Err}
use Rattle.refusals.specs.declared.Refusal.{Refusal}
use Rattle.refusals.specs.declared.Refusal.TheVariants.{OpeningBytes}
use Rattle.plan_file.specs.declared.Edition.{Edition}
use Rattle.plan_file.specs.declared.Edition.TheVariants.{First, Second}

-- The number of an edition.
abbrev pub edition_number : Edition → ℕ
edition_number First = 1
edition_number Second = 2

-- There are editions 1 and 2.
abbrev pub is_edition : ℕ → Bool
is_edition number = eqb number 1 || eqb number 2

-- The edition with this number, if there is one.
unfoldable pub edition_for : ℕ → Edition
edition_for number = elim (eqb number 1) [ true ↦ First | false ↦ Second ]

-- The answer is the edition with this number, or that there is none.
abbrev pub EditionOf : ℕ → Result Edition Refusal → Type 0
EditionOf number r = r ≡ elim (is_edition number) [ true ↦ Ok (edition_for number) | false ↦ Err OpeningBytes ]
