-- What the converter answers, check by check, and what its stores leave in the buffer.
use Prim.Native.Nat.{ℕ, ◌+◌, ◌*◌, ◌≤◌, ◌<◌}
use mathlib.Core.Path.{◌≡◌, ◌∙◌, refl, sym, ap}
use mathlib.Core.Bool.{true, false, false≢true}
use native.Mathlib.Omega.{arith}
use mathlib.Core.List.{List, ◌++◌}
use lib.ListN.{length, drop}
use lib.Dec.{leb}
use borrow.Author.Tests.{le-leb, lt-leb}
use Rattle.refusals.specs.Refusals.{Numbered, at, accepted, refused, must_hold}
use Rattle.refusals.specs.Answers.{Answer, gives, refuses, giving}
use Rattle.byte_words.specs.Buffers.{over}
use Rattle.byte_words.proofs.Buffers.{over_start}
use Rattle.plan_file.specs.declared.Edition.{Edition}
use Rattle.plan_file.specs.declared.Edition.TheVariants.{First, Second}
use Rattle.plan_file.specs.Plan.{entry_count}
use Rattle.plan_file.specs.Encoding.{header_length, entry_length, header_bytes, bodies_start, contents_bytes, bodies_bytes, encoding}
use Rattle.plan_file.specs.Decoding.{opening_test, edition_of, node_count, rows_from, rows_in, entries_at, entries_in, plan_in}
use Rattle.plan_file.specs.Check.{nodes_by, file_check}
use Rattle.plan_file.specs.Limits.{EditionFits}
use denote.Enum.Bare.{sameb}
use Rattle.plan_file.specs.contracts.Edition.{the_type}
use Rattle.plan_file.proofs.File.{file_holds}
use Rattle.task_model.proofs.Tests.{decided}
use Rattle.plan_file.proofs.Tests.{opens_true, opens_hold, edition_opens}
use Rattle.plan_file.proofs.Bodies.{nodes_accepted}
use Rattle.plan_file.proofs.Contents.{length-rows, length-entries_at}
use Rattle.plan_file.proofs.Encoding.{length-encoding}
use Rattle.plan_file.proofs.Writing.{plan_stored}
use Rattle.converter.specs.Conversion.{other, loss_check, convert_check, convert_answer}
use Rattle.converter.proofs.Lost.{kept_exactly}

-- a file that opens as an edition is of that edition
pub opened : (ed : Edition) (f : List ℕ) → opening_test ed f ≡ true → edition_of f ≡ ed
opened ed f p = edition_opens f ed (opens_hold ed f p)

-- two editions that are the same, by the test of the code, or not
pub same : (a b : Edition) → sameb the_type a b ≡ true → a ≡ b
same First First p = refl
same First Second p = absurd (false≢true p)
same Second First p = absurd (false≢true p)
same Second Second p = refl

pub differ : (a b : Edition) → sameb the_type a b ≡ false → a ≡ other b
differ First First p = absurd (false≢true (sym p))
differ First Second p = refl
differ Second First p = refl
differ Second Second p = absurd (false≢true (sym p))

-- so an accepted file of an edition opens as that one, and not as the other
not_other : (ed : Edition) → ed ≡ other ed → ⊥
not_other First p = absurd (let z : ◌≡◌ {A = ℕ} 0 1 = cc in omega arith)
not_other Second p = absurd (let z : ◌≡◌ {A = ℕ} 0 1 = cc in omega arith)

pub opens_other : (to : Edition) (f : List ℕ) → file_check f ≡ accepted → edition_of f ≡ other to → opening_test (other to) f ≡ true
opens_other to f a e = rw (← e) (opens_true (edition_of f) f (file_holds f a).header.opens)

pub opens_not : (to : Edition) (f : List ℕ) → edition_of f ≡ to → opening_test (other to) f ≡ false
opens_not to f e = decided (opening_test (other to) f) (opened (other to) f) (λ p. not_other to (sym e ∙ p))

-- going forward nothing is lost
pub forward_keeps : (f : List ℕ) → nodes_by (loss_check Second) 0 (rows_in f) (entries_in f) ≡ accepted
forward_keeps f =
    nodes_accepted (loss_check Second) (EditionFits Second) (kept_exactly Second) 0 (rows_in f) (entries_in f) (λ i h j l. tt)

-- the entries of a file of the second edition
pub second_losses : {f g : List ℕ} {n : ℕ} → ◌≡◌ {A = List ℕ × ℕ} (g, n) (f, node_count f) → edition_of f ≡ Second
    → nodes_by (loss_check First) 0 (rows_from g 0 n) (entries_at Second g (bodies_start n) (entry_count (rows_from g 0 n)))
    ≡ nodes_by (loss_check First) 0 (rows_in f) (entries_in f)
second_losses p e = rw (ap (λ q. q.0) p, ap (λ q. q.1) p, e)

-- the answer for an accepted file of the right edition of which nothing is lost
abbrev pub room_answer : Edition → List ℕ → ℕ → Answer ℕ
room_answer to f room =
    giving (must_hold (leb (length (encoding to (plan_in f))) room) (at 10 0 0)) (length (encoding to (plan_in f)))

module _ (to : Edition) (f : List ℕ) where
  -- the plan's file in the other edition is so long
  pub long : (n : ℕ) → n ≡ bodies_start (node_count f) + entry_count (rows_in f) * entry_length to → length (encoding to (plan_in f)) ≡ n
  long n e =
      length-encoding to (plan_in f)
      ∙ rw (length-rows f 0 (node_count f), length-entries_at (edition_of f) f (bodies_start (node_count f)) (entry_count (rows_in f))) (sym e)

  -- check by check, in their order
  pub check_own : (r : Numbered) → file_check f ≡ refused r → convert_check to f ≡ refused r
  unfolding convert_check
  check_own r p = rw p

  pub check_edition : file_check f ≡ accepted → opening_test (other to) f ≡ false → convert_check to f ≡ refused (at 2 0 0)
  unfolding convert_check
  check_edition a p = rw (a, p)

  pub check_rest : file_check f ≡ accepted → opening_test (other to) f ≡ true
      → convert_check to f ≡ nodes_by (loss_check to) 0 (rows_in f) (entries_in f)
  unfolding convert_check
  check_rest a p = rw (a, p)

  module _ (room : ℕ) where
    -- the answer after the checks
    pub convert_refused : (r : Numbered) → convert_check to f ≡ refused r → convert_answer to f room ≡ refuses r
    unfolding convert_answer
    convert_refused r p = rw p

    pub convert_accepted : convert_check to f ≡ accepted → convert_answer to f room ≡ room_answer to f room
    unfolding convert_answer
    convert_accepted p = rw p

    -- the room
    module _ (n : ℕ) (e : n ≡ bodies_start (node_count f) + entry_count (rows_in f) * entry_length to) where
      pub room_short : room < n → room_answer to f room ≡ refuses (at 10 0 0)
      room_short h = rw (long n e, lt-leb n room h)

      pub room_fits : n ≤ room → room_answer to f room ≡ gives n
      room_fits h = rw (long n e, le-leb n room h)

-- the three stores leave the plan's file in the buffer
module _ (to : Edition) (f : List ℕ) (e : edition_of f ≡ other to) (n k m : ℕ) (p : n ≡ node_count f) (q : k ≡ bodies_start n)
    (r : m ≡ entry_count (rows_in f)) where
  pub converted : (d : List ℕ)
      → over
      (over (over d 0 (header_bytes to n)) header_length (contents_bytes (entry_length to) (bodies_start n) (rows_from f 0 n)))
      k
      (bodies_bytes to (entries_at (other to) f k m))
      ≡ encoding to (plan_in f) ++ drop (length (encoding to (plan_in f))) d
  converted d =
      rw (q, r, ← e, p) (plan_stored to (plan_in f) (node_count f) (sym (length-rows f 0 (node_count f))) d ∙ over_start d (encoding to (plan_in f)))
