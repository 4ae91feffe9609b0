-- What the program writes for an input.
use Rattle.std.specs.Prelude.{ℕ, List, [], Option, Some, None}
use Rattle.refusals.specs.Refusals.{accepted, refused}
use Rattle.text.specs.Text.{text}
use Rattle.plan_file.specs.declared.Edition.{Edition}
use Rattle.plan_file.specs.Encoding.{encoding}
use Rattle.plan_file.specs.Decoding.{plan_in}
use Rattle.listing.specs.Lines.{refused_line}
use Rattle.converter.specs.Conversion.{convert_check}

-- The plan's file in an edition; nothing if the input is refused.
unfoldable pub converted_file : Edition → List ℕ → List ℕ
converted_file to input =
    elim (convert_check to input) [
      | accepted ↦ encoding to (plan_in input)
      | refused r ↦ []
    ]

-- Nothing; one line with the refusal if the input is refused.
unfoldable pub refusal_line : Edition → List ℕ → List ℕ
refusal_line to input =
    elim (convert_check to input) [
      | accepted ↦ []
      | refused r ↦ refused_line r
    ]

-- To standard output: the new file, if one is asked for and given.
abbrev pub standard_output : Option Edition → List ℕ → List ℕ
standard_output (Some edition) input = converted_file edition input
standard_output None input = []

-- To standard error: the refusal, or how to call the program.
abbrev pub standard_error : Option Edition → List ℕ → List ℕ
standard_error (Some edition) input = refusal_line edition input
standard_error None input = text "usage: carry_plan forward <old.plan >new.plan, or carry_plan back <new.plan >old.plan\n"
