-- A converted file lists and maps as the file does that it was made from: laws of files with the same plan, and then the
-- theorems, about what a conversion leaves in its buffer.
use Prim.Native.Nat.{ℕ}
use mathlib.Core.Path.{◌≡◌, ◌∙◌, sym, ap}
use mathlib.Core.List.{List}
use lib.ListN.{length, take}
use Rattle.refusals.specs.Refusals.{accepted}
use Rattle.refusals.specs.Answers.{gives, left}
use Rattle.byte_words.specs.Bytes.{Bytes}
use Rattle.plan_file.specs.declared.Edition.{Edition}
use Rattle.plan_file.specs.Plan.{Plan}
use Rattle.plan_file.specs.Decoding.{plan_in}
use Rattle.plan_file.specs.Check.{file_check}
use Rattle.plan_file.specs.Find.{node_of_row, row_of_number, find_check, node_found}
use Rattle.level_map.specs.Answer.{map_of}
use Rattle.planner.specs.Mapping.{file_answer}
use Rattle.listing.specs.Listing.{listing_under, plan_text, text_answer, listing, list_answer}
use Rattle.converter.specs.Conversion.{ConvertCall}
use Rattle.converter.proofs.RoundTrip.{convert_given}
use Rattle.converter.proofs.Theorems.{new_file}

-- the listing of an accepted file is that of its plan
plan_listing : (f : List ℕ) → file_check f ≡ accepted → listing f ≡ plan_text (plan_in f)
unfolding listing_under
plan_listing f a = rw a

-- accepted files with the same plan
module _ (f g : List ℕ) (a : file_check f ≡ accepted) (h : file_check g ≡ accepted) (e : plan_in g ≡ plan_in f) where
  same_listing : listing g ≡ listing f
  same_listing = plan_listing g h ∙ ap plan_text e ∙ sym (plan_listing f a)

  same_check : (number : ℕ) → find_check g number ≡ find_check f number
  unfolding find_check
  same_check number = rw (h, a, ap (λ (p : Plan). p.rows) e)

  same_node : (number : ℕ) → node_found g number ≡ node_found f number
  same_node number = ap (λ (p : Plan). node_of_row p (row_of_number number p.rows)) e

  same_answer : (number room : ℕ) → file_answer g number room ≡ file_answer f number room
  unfolding file_answer
  same_answer number room = rw (same_check number, same_node number)

module _ {to : Edition} {f old new : List ℕ} {n : ℕ} (b : Bytes f) (c : ConvertCall to f old (gives n) new) where
  checked : file_check f ≡ accepted
  checked = (convert_given to f _ n c.answer).0.file

  -- Both files have the same listing, byte for byte.
  pub lists_alike : listing (take n new) ≡ listing f
  lists_alike = let g = new_file b c in same_listing f (take n new) checked g.checks g.plan

  -- So listing either, into any buffer, answers the same and leaves the same.
  pub lists_into_alike : (text : List ℕ)
      → (list_answer (take n new) (length text) ≡ list_answer f (length text))
      × (left (list_answer (take n new) (length text)) (listing (take n new)) text ≡ left (list_answer f (length text)) (listing f) text)
  lists_into_alike text = (
    ap (λ t. text_answer t (length text)) lists_alike,
    ap (λ t. left (text_answer t (length text)) t text) lists_alike,
  )

  -- Mapping any node of either, into any buffer, answers the same and leaves the same.
  pub maps_alike : (number : ℕ) (levels : List ℕ)
      → (file_answer (take n new) number (length levels) ≡ file_answer f number (length levels))
      × (left (file_answer (take n new) number (length levels)) (map_of (node_found (take n new) number)) levels
      ≡ left (file_answer f number (length levels)) (map_of (node_found f number)) levels)
  maps_alike number levels =
      let g = new_file b c in
      let same = same_answer f (take n new) checked g.checks g.plan number (length levels) in
      (same, rw (same, same_node f (take n new) checked g.checks g.plan number))
