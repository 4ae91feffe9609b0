-- What a conversion writes is an accepted file of the other edition with the same plan, and converting it again undoes it.
use Prim.Native.Nat.{ℕ, ◌≤◌}
use mathlib.Core.Path.{◌≡◌, ◌∙◌, refl, sym, ap, subst}
use mathlib.Core.Bool.{true}
use mathlib.Core.List.{List, ◌++◌}
use native.Mathlib.Omega.{arith}
use borrow.Author.Tests.{le-leb, leb-true}
use lib.ListN.{length, take, drop}
use lib.Seq.{take_at}
use Rattle.refusals.specs.Refusals.{accepted}
use Rattle.refusals.specs.Answers.{Answer, gives, refuses, left}
use Rattle.refusals.proofs.Outcomes.{both_accepted, giving_gives, demanded}
use Rattle.byte_words.specs.Bytes.{Bytes}
use Rattle.plan_file.specs.declared.Edition.{Edition}
use Rattle.plan_file.specs.declared.Edition.TheVariants.{First, Second}
use Rattle.plan_file.specs.Plan.{Plan, entry_count}
use Rattle.plan_file.specs.Encoding.{bodies_start, encoding}
use Rattle.plan_file.specs.Decoding.{opening_test, edition_of, node_count, rows_in, entries_in, plan_in}
use Rattle.plan_file.specs.Check.{nodes_by, file_check, plan_check}
use Rattle.plan_file.specs.Find.{row_in}
use Rattle.plan_file.specs.Limits.{EditionFits, EditionHolds}
use Rattle.plan_file.proofs.Tests.{Opens, opens_true}
use Rattle.plan_file.proofs.Bodies.{Each, each_part, nodes_accepted, nodes_all}
use Rattle.plan_file.proofs.Contents.{length-entries_at}
use Rattle.plan_file.proofs.Memory.{entries_at_edition}
use Rattle.plan_file.proofs.Fits.{plan_fits}
use Rattle.plan_file.proofs.File.{file_holds}
use Rattle.plan_file.proofs.Decoded.{same_edition, same_plan, encoding_accepted}
use Rattle.plan_file.proofs.Theorems.{read_write, plan_accepted, plan_limits}
use Rattle.converter.specs.Conversion.{other, loss_check, convert_check, convert_answer, ConvertCall}
use Rattle.converter.specs.RoundTrip.{ConvertedAgain}
use Rattle.converter.proofs.Lost.{kept_exactly}
use Rattle.converter.proofs.Converting.{opened, room_answer, check_rest, convert_accepted}

other_other : (to : Edition) → other (other to) ≡ to
other_other First = refl
other_other Second = refl

-- nothing of a list of entries is lost exactly if the edition has a place for each
pub nothing_lost : (to : Edition) (f : List ℕ) → Each (EditionFits to) (entries_in f) → nodes_by (loss_check to) 0 (rows_in f) (entries_in f) ≡ accepted
nothing_lost to f fits =
    nodes_accepted (loss_check to) (EditionFits to) (kept_exactly to) 0 (rows_in f) (entries_in f)
    (λ i h. each_part (EditionFits to) (entries_in f) fits (row_in (rows_in f) i).count (entry_count (take i (rows_in f))))

pub all_kept : (to : Edition) (f : List ℕ) → nodes_by (loss_check to) 0 (rows_in f) (entries_in f) ≡ accepted → EditionHolds to (plan_in f)
all_kept to f a =
    nodes_all (loss_check to) (EditionFits to) (kept_exactly to) 0 (rows_in f) (entries_in f) a
    (omega (arith, length-entries_at (edition_of f) f (bodies_start (node_count f)) (entry_count (rows_in f))))

-- the checks of a file that is converted
pub record Passes (to : Edition) (f : List ℕ) : Type 0 where
  pub file : file_check f ≡ accepted
  pub opens : opening_test (other to) f ≡ true
  pub kept : nodes_by (loss_check to) 0 (rows_in f) (entries_in f) ≡ accepted

pub passes : (to : Edition) (f : List ℕ) → convert_check to f ≡ accepted → Passes to f
unfolding convert_check
passes to f p =
    let p1 = both_accepted (file_check f) _ p in
    let p2 = both_accepted _ _ p1.1 in record { file = p1.0; opens = demanded _ _ p2.0; kept = p2.1 }

pub accepts : (to : Edition) (f : List ℕ) → Passes to f → convert_check to f ≡ accepted
accepts to f h = check_rest to f h.file h.opens ∙ h.kept

-- where a file is given
pub convert_given : (to : Edition) (f : List ℕ) (room n : ℕ) → gives n ≡ convert_answer to f room
    → Passes to f × (length (encoding to (plan_in f)) ≤ room) × (n ≡ length (encoding to (plan_in f)))
unfolding convert_answer
convert_given to f room n e =
    let g = giving_gives _ _ _ e in
    let p = both_accepted (convert_check to f) _ g.0 in
    (passes to f p.0, leb-true _ _ (demanded _ _ p.1), g.1)

-- the file that a conversion gives
module _ (to : Edition) (f : List ℕ) (b : Bytes f) (h : Passes to f) where
  from_other : edition_of f ≡ other to
  from_other = opened (other to) f h.opens

  plan_holds_in : plan_check to (plan_in f) ≡ accepted
  plan_holds_in =
      (plan_limits to (plan_in f)).1 (((plan_limits (edition_of f) (plan_in f)).0 (plan_accepted f h.file)).0, all_kept to f h.kept)

  pub encoded_accepted : file_check (encoding to (plan_in f)) ≡ accepted
  encoded_accepted = encoding_accepted to (plan_in f) plan_holds_in (plan_fits f b)

  pub encoded_plan : plan_in (encoding to (plan_in f)) ≡ plan_in f
  encoded_plan = same_plan to (plan_in f) plan_holds_in (plan_fits f b)

  -- it passes the checks of the way back
  opens_as : opening_test to (encoding to (plan_in f)) ≡ true
  opens_as =
      opens_true to _ (subst (λ ed. Opens ed (encoding to (plan_in f))) (same_edition to (plan_in f)) (file_holds _ encoded_accepted).header.opens)

  fits_other : Each (EditionFits (other to)) (entries_in f)
  fits_other =
      subst (λ ed. Each (EditionFits ed) (entries_in f)) from_other
      (entries_at_edition (edition_of f) f (bodies_start (node_count f)) (entry_count (rows_in f)))

  pub passes_back : Passes (other to) (encoding to (plan_in f))
  passes_back =
      record {
        file = encoded_accepted;
        opens = rw (other_other to) opens_as;
        kept =
            nothing_lost (other to) (encoding to (plan_in f))
            (subst (λ (p : Plan). Each (EditionFits (other to)) p.entries) (sym encoded_plan) fits_other);
      }

  -- and that way gives the file
  pub encoded_back : encoding (other to) (plan_in (encoding to (plan_in f))) ≡ f
  encoded_back = ap (encoding (other to)) encoded_plan ∙ ap (λ ed. encoding ed (plan_in f)) (sym from_other) ∙ read_write f b h.file

  again : (old : List ℕ) (a : Answer ℕ) (new : List ℕ) → length f ≤ length old
      → ConvertCall (other to) (encoding to (plan_in f)) old a new
      → (a ≡ gives (length f)) × (new ≡ f ++ drop (length f) old)
  again old a new l c =
      let g = encoding to (plan_in f) in
      let k = passes_back in
      let answered : room_answer (other to) g (length old) ≡ gives (length f) = rw (encoded_back, le-leb (length f) (length old) l) in
      let t : a ≡ gives (length f) = c.answer ∙ convert_accepted (other to) g (length old) (accepts (other to) g k) ∙ answered in (
        t,
        c.there ∙ ap (λ o. left o (encoding (other to) (plan_in g)) old) t ∙ ap (λ s. s ++ drop (length s) old) encoded_back,
      )

-- the part of the buffer that a conversion wrote
pub written_part : {to : Edition} {f old new : List ℕ} {n : ℕ} → ConvertCall to f old (gives n) new → take n new ≡ encoding to (plan_in f)
written_part {n} c =
    let g = convert_given _ _ _ n c.answer in ap (take n) c.there ∙ take_at _ _ n (sym g.2)

-- What a conversion leaves is converted back to the same file. That a file is one of bytes, the type of the slice says in a
-- function's proof.
pub converted_again : (to : Edition) (f old : List ℕ) (a : Answer ℕ) (new : List ℕ) → Bytes f → ConvertCall to f old a new
    → ConvertedAgain to f a new
converted_again to f old (refuses r) new b c = tt
converted_again to f old (gives n) new b c =
    let g = convert_given to f (length old) n c.answer in
    let e = written_part c in
    λ old' a' new' l c'. again to f b g.0 old' a' new' l (subst (λ s. ConvertCall (other to) s old' a' new') e c')

-- both promises of a function
pub convert_ensures : {to : Edition} {f old : List ℕ} {a : Answer ℕ} {new : List ℕ} → Bytes f → ConvertCall to f old a new
    → ConvertCall to f old a new × ConvertedAgain to f a new
convert_ensures b c = (c, converted_again _ _ _ _ _ b c)
