-- Reader and writer undo each other, from the buffers as the calls leave them.
use Prim.Native.Nat.{ℕ, ◌*◌, ◌/◌, ◌≤◌}
use mathlib.Core.Path.{◌≡◌, ◌∙◌, refl, sym, ap}
use mathlib.Core.Bool.{Bool, true, false}
use mathlib.Core.List.{List, ◌++◌, map}
use native.Mathlib.Omega.{arith}
use borrow.Author.Tests.{le-leb, leb-true}
use lib.ListN.{length, take, drop, length-map}
use lib.Dec.{leb}
use lib.Seq.{take-append_seam}
use Rattle.refusals.specs.Refusals.{Numbered, at, Outcome, accepted, refused, ◌and_then◌, must_hold}
use Rattle.node_words.specs.Words.{entry_size, words_of, WordsFit}
use Rattle.node_words.proofs.Words.{length-words as length-words-of}
use Rattle.refusals.specs.Answers.{Answer, gives, refuses, giving, left}
use Rattle.plan_file.specs.declared.Edition.{Edition}
use Rattle.plan_file.specs.Plan.{entry_count, row_word, plan_of}
use Rattle.plan_file.specs.Encoding.{bodies_start, encoding}
use Rattle.byte_words.specs.Bytes.{Bytes}
use Rattle.plan_file.specs.Decoding.{edition_of, node_count, rows_in, entries_in, plan_in}
use Rattle.plan_file.specs.Check.{file_check, words_check}
use Rattle.plan_file.specs.declared.ReadPlan.{ReadPlan}
use Rattle.plan_file.specs.Answers.{room_test, read_answer, write_answer, ReadCall, WriteCall}
use Rattle.plan_file.specs.RoundTrips.{WrittenAgain, ReadAgain}
use Rattle.task_model.proofs.Tests.{and_true}
use Rattle.plan_file.proofs.Contents.{length-row_words, length-entries_at}
use Rattle.plan_file.proofs.Reading.{read_filled}
use Rattle.plan_file.proofs.Theorems.{read_write_memory, write_read_memory}

-- where an answer gives something, the checks accepted and the last test holds
given : {A : Type 0} (o : Outcome) (b : Bool) (r : Numbered) (x y : A) → gives x ≡ giving (o and_then must_hold b r) y
    → (o ≡ accepted) × (b ≡ true) × (x ≡ y)
given accepted true r x y e = (refl, refl, cc)
given accepted false r x y e = let z : ◌≡◌ {A = ℕ} 0 1 = cc in absurd (omega arith)
given (refused q) b r x y e = let z : ◌≡◌ {A = ℕ} 0 1 = cc in absurd (omega arith)

read_given : (f : List ℕ) (rows words : ℕ) (n : ReadPlan) → gives n ≡ read_answer f rows words
    → (file_check f ≡ accepted) × (room_test (plan_in f) rows words ≡ true)
    × (n ≡ record { edition = edition_of f; rows = length (plan_in f).rows; entries = length (plan_in f).entries })
unfolding read_answer
read_given f rows words n e = given (file_check f) (room_test (plan_in f) rows words) (at 10 0 0) _ _ e

write_given : (ed : Edition) (rs ws : List ℕ) (room n : ℕ) → gives n ≡ write_answer ed rs ws room
    → (words_check ed rs ws ≡ accepted) × (leb (length (encoding ed (plan_of rs ws))) room ≡ true)
    × (n ≡ length (encoding ed (plan_of rs ws)))
unfolding write_answer
write_given ed rs ws room n e = given (words_check ed rs ws) (leb (length (encoding ed (plan_of rs ws))) room) (at 10 0 0) _ _ e

-- what was given from the start of a buffer on
front : (new old : List ℕ) (n : ℕ) → n ≡ length new → take n (new ++ drop (length new) old) ≡ new
front new old n e = rw e (take-append_seam new _)

-- calls on equal parts
write_same : {ed ed' : Edition} {rs rs' ws ws' old : List ℕ} {a : Answer ℕ} {new : List ℕ} → ed ≡ ed' → rs ≡ rs' → ws ≡ ws'
    → WriteCall ed rs ws old a new → WriteCall ed' rs' ws' old a new
write_same ee er ew c = rw (ee, er, ew) at c

read_same : {f f' rows words : List ℕ} {a : Answer ReadPlan} {rowsLeft words_left : List ℕ} → f ≡ f'
    → ReadCall f rows words a rowsLeft words_left → ReadCall f' rows words a rowsLeft words_left
read_same e c = rw e at c

-- What was filled, and what was written, lies in the buffers: a caller takes those parts.
pub filled_inside : {f rows words rowsLeft words_left : List ℕ} {n : ReadPlan} → ReadCall f rows words (gives n) rowsLeft words_left
    → (n.rows ≤ length rows) × (n.entries * entry_size ≤ length words)
filled_inside c =
    let g = read_given _ _ _ _ c.answer in
    let r = and_true _ _ g.1 in
    rw g.2 (leb-true _ _ r.0, leb-true _ _ r.1)

pub written_inside : {ed : Edition} {rs ws file fileLeft : List ℕ} {n : ℕ} → WriteCall ed rs ws file (gives n) fileLeft → n ≤ length file
written_inside c = let g = write_given _ _ _ _ _ c.answer in rw g.2 (leb-true _ _ g.1)

-- a call of the writer on words that it accepts, with room
module _ (ed : Edition) (rs ws f : List ℕ) (ok : words_check ed rs ws ≡ accepted) (e : encoding ed (plan_of rs ws) ≡ f) where
  write_gives_lem : (room : ℕ) → length f ≤ room → write_answer ed rs ws room ≡ gives (length f)
  unfolding write_answer
  write_gives_lem room h = rw (ok, e, le-leb (length f) room h)

  wrote : (old : List ℕ) (a : Answer ℕ) (new : List ℕ) → length f ≤ length old → WriteCall ed rs ws old a new
      → (a ≡ gives (length f)) × (new ≡ f ++ drop (length f) old)
  wrote old a new h c =
      let t = c.answer ∙ write_gives_lem (length old) h in (
        t,
        c.file_there ∙ ap (λ o. left o (encoding ed (plan_of rs ws)) old) t ∙ ap (λ s. s ++ drop (length s) old) e,
      )

-- a call of the reader on a file that it accepts, with room
module _ (ed : Edition) (f rs ws : List ℕ) (ok : file_check f ≡ accepted) (ee : edition_of f ≡ ed)
    (er : map row_word (plan_in f).rows ≡ rs) (ew : words_of (plan_in f).entries ≡ ws) where
  nodes : node_count f ≡ length rs
  nodes = sym (length-row_words f (node_count f)) ∙ ap length er

  counted : entry_count (rows_in f) * entry_size ≡ length ws
  counted =
      ap (λ n. n * entry_size) (sym (length-entries_at (edition_of f) f (bodies_start (node_count f)) (entry_count (rows_in f))))
      ∙ sym (length-words-of (entries_in f))
      ∙ ap length ew

  sizes : (rows words : ℕ) → length rs ≤ rows → length ws ≤ words
      → read_answer f rows words ≡ gives (record { edition = ed; rows = length rs; entries = length ws / entry_size })
  sizes rows words hr hw =
      read_filled f rows words ok ed (length rs) (length ws / entry_size) (sym ee) (sym nodes) (omega (arith, counted)) hr (omega (arith, counted))

  filled : (oldRows oldWords : List ℕ) (a : Answer ReadPlan) (newRows newWords : List ℕ)
      → length rs ≤ length oldRows → length ws ≤ length oldWords → ReadCall f oldRows oldWords a newRows newWords
      → (a ≡ gives (record { edition = ed; rows = length rs; entries = length ws / entry_size }))
      × (newRows ≡ rs ++ drop (length rs) oldRows)
      × (newWords ≡ ws ++ drop (length ws) oldWords)
  filled oldRows oldWords a newRows newWords hr hw c =
      let t = c.answer ∙ sizes (length oldRows) (length oldWords) hr hw in (
        t,
        c.rows_there ∙ ap (λ o. left o (map row_word (plan_in f).rows) oldRows) t ∙ ap (λ s. s ++ drop (length s) oldRows) er,
        c.words_there ∙ ap (λ o. left o (words_of (plan_in f).entries) oldWords) t ∙ ap (λ s. s ++ drop (length s) oldWords) ew,
      )

-- What a call of the reader leaves is written again as the same file. That a file is one of bytes, the type of the slice
-- says in a function's proof.
pub written_again : (f rows words : List ℕ) (a : Answer ReadPlan) (rowsLeft words_left : List ℕ) → Bytes f
    → ReadCall f rows words a rowsLeft words_left → WrittenAgain f a rowsLeft words_left
written_again f rows words (refuses r) rowsLeft words_left b c = tt
written_again f rows words (gives n) rowsLeft words_left b c =
    let g = read_given f _ _ n c.answer in
    let m = read_write_memory f b g.0 in
    let en : n.rows ≡ length (map row_word (rows_in f)) = ap (λ (s : ReadPlan). s.rows) g.2 ∙ sym (length-map (rows_in f) row_word) in
    let ek : n.entries * entry_size ≡ length (words_of (entries_in f)) = ap (λ (s : ReadPlan). s.entries * entry_size) g.2 ∙ sym (length-words-of (entries_in f)) in
    let er : take n.rows rowsLeft ≡ map row_word (rows_in f) = ap (take n.rows) c.rows_there ∙ front _ rows n.rows en in
    let ew : take (n.entries * entry_size) words_left ≡ words_of (entries_in f) = ap (take (n.entries * entry_size)) c.words_there ∙ front _ words (n.entries * entry_size) ek in
    λ old a new h w.
    wrote (edition_of f) (map row_word (rows_in f)) (words_of (entries_in f)) f m.0 m.1 old a new h
    (write_same (ap (λ (s : ReadPlan). s.edition) g.2) er ew w)

-- What a call of the writer leaves is read again as the same words. That words have 32 bits, the slices' types say.
pub read_again : (ed : Edition) (rs ws file : List ℕ) (a : Answer ℕ) (fileLeft : List ℕ) → WordsFit rs → WordsFit ws
    → WriteCall ed rs ws file a fileLeft → ReadAgain ed rs ws a fileLeft
read_again ed rs ws file (refuses r) fileLeft hr hw c = tt
read_again ed rs ws file (gives n) fileLeft hr hw c =
    let g = write_given ed rs ws _ n c.answer in
    let m = write_read_memory ed rs ws hr hw g.0 in
    let e : take n fileLeft ≡ encoding ed (plan_of rs ws) = ap (take n) c.file_there ∙ front _ file n g.2 in
    λ oldRows oldWords a newRows newWords lr lw t.
    filled ed (encoding ed (plan_of rs ws)) rs ws m.0 m.1 m.2 m.3 oldRows oldWords a newRows newWords lr lw (read_same e t)
