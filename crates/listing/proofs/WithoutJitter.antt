-- A file that does not open as the second edition is listed as it was before there was one.
use Prim.Native.Nat.{ℕ, ◌+◌, ◌<◌}
use mathlib.Core.Path.{◌≡◌, ◌∙◌, ap}
use mathlib.Core.Bool.{false}
use mathlib.Core.List.{List}
use native.Mathlib.Omega.{arith}
use lib.ListN.{length, take, drop, length-drop, length-take}
use lib.Seq.{get_or-drop, get_or-take}
use Rattle.task_model.specs.declared.Entry.{Entry}
use Rattle.task_model.specs.Limits.{no_entry}
use Rattle.task_model.specs.WithoutJitter.{Punctual}
use Rattle.completion.specs.Test.{completion_test}
use Rattle.completion.specs.WithoutJitter.{punctual_test}
use Rattle.completion.proofs.WithoutJitter.{test_punctual}
use Rattle.level_map.specs.Assignments.{level_of}
use Rattle.level_map.proofs.WithoutJitter.{map_punctual}
use Rattle.plan_file.specs.declared.Edition.TheVariants.{First, Second}
use Rattle.plan_file.specs.Plan.{Plan}
use Rattle.plan_file.specs.Decoding.{opening_test, plan_in}
use Rattle.plan_file.specs.Check.{file_check}
use Rattle.plan_file.specs.FirstEdition.{first_edition_check, first_edition_plan}
use Rattle.plan_file.proofs.FirstEdition.{first_edition, first_plan}
use Rattle.plan_file.proofs.Memory.{entries_at_edition}
use Rattle.listing.specs.Listing.{entry_text, entry_text_under, plan_text, plan_text_under, listing, listing_under}
use Rattle.listing.specs.FirstEdition.{first_edition_listing}
use Rattle.listing.proofs.Agreeing.{shown, Agree, plan_agrees, listing_agrees}

entry_text_lem : (es : List Entry) → Punctual es → (m : List ℕ) (i : ℕ) → entry_text es m i ≡ entry_text_under punctual_test es m i
unfolding entry_text_under
entry_text_lem es punctual m i = ap (shown es m i) (test_punctual es punctual (level_of m) i)

-- a part of a list of entries without jitter
part_punctual : (es : List Entry) → Punctual es → (k c : ℕ) → Punctual (take c (drop k es))
part_punctual es h k c j l =
    let inside : j < c = omega (arith, length-take c (drop k es)) in
    let there : k + j < length es = omega (arith, length-take c (drop k es), length-drop k es) in
    ap (λ (e : Entry). e.jitter) (get_or-take c (drop k es) j no_entry inside ∙ get_or-drop k es j no_entry) ∙ h (k + j) there

agree : Agree completion_test punctual_test Punctual
agree = record { lines = entry_text_lem; maps = map_punctual; parts = part_punctual }

-- A plan without jitter has the listing without J.
pub plan_text_punctual : (p : Plan) → Punctual p.entries → plan_text p ≡ plan_text_under punctual_test p
plan_text_punctual = plan_agrees completion_test punctual_test Punctual agree

-- A file of either edition whose every J is 0 has the listing without J.
pub listing_punctual : (f : List ℕ) → Punctual (plan_in f).entries
    → listing f ≡ listing_under punctual_test (file_check f) (plan_in f)
listing_punctual f h = listing_agrees completion_test punctual_test Punctual agree (plan_in f) h (file_check f)

-- Every file that does not open with the second edition's bytes has its listing of before.
pub listing_first : (f : List ℕ) → opening_test Second f ≡ false → listing f ≡ first_edition_listing f
unfolding first_edition_listing
listing_first f h =
    rw (first_edition f h, first_plan f h)
    (listing_agrees completion_test punctual_test Punctual agree (first_edition_plan f) (entries_at_edition First f _ _) (first_edition_check f))
