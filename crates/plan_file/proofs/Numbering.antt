-- Laws of the entries in a file, by an edition as a type: where they lie, and their fields by bytes.
use Prim.Native.Nat.{ℕ, ◌+◌, ◌*◌, ◌≤◌, ◌<◌}
use mathlib.Core.Path.{◌≡◌, ◌∙◌, sym, ap}
use mathlib.Core.List.{List, [], ◌∷◌, ◌++◌}
use native.Mathlib.Omega.{arith}
use lib.ListN.{get_or, length}
use Rattle.task_model.specs.declared.Entry.{Entry}
use Rattle.task_model.specs.Limits.{no_entry, entry_at}
use Rattle.node_words.specs.Words.{entry_from}
use Rattle.byte_words.specs.Bytes.{Bytes, word_at, words_from}
use Rattle.byte_words.proofs.Runs.{run_get}
use Rattle.plan_file.specs.declared.Edition.{Edition}
use Rattle.plan_file.specs.declared.Edition.TheVariants.{First, Second}
use Rattle.plan_file.specs.Encoding.{entry_length}
use Rattle.plan_file.specs.Decoding.{file_words, entry_in, entries_at}
use Rattle.plan_file.proofs.Words.{byte_entry, words_first, words_second, words_jitter}
use Rattle.plan_file.proofs.Contents.{entries_run, length-entries_at}

-- in both editions, the number of an entry is in its first two bytes
pub number_bytes : (ed : Edition) (f : List ℕ) → Bytes f → (k : ℕ) → (entry_in ed f k).number ≡ get_or f k 0 + get_or f (k + 1) 0 * 256
unfolding entry_from word_at
number_bytes First f b k =
    let h0 = b k in let h1 = b (k + 1) in let h2 = b (k + 2) in let h3 = b (k + 3) in rw (← words_first f k) (omega arith)
number_bytes Second f b k =
    let h0 = b k in let h1 = b (k + 1) in let h2 = b (k + 2) in let h3 = b (k + 3) in rw (← words_second f k) (omega arith)

-- and so are the others, but for J
pub jitter_first : (f : List ℕ) (k : ℕ) → 0 ≡ (entry_in First f k).jitter
unfolding entry_from
jitter_first f k = rw (← words_first f k)

pub jitter_second : (f : List ℕ) (k : ℕ) → word_at f (k + 20) ≡ (entry_in Second f k).jitter
unfolding entry_from
jitter_second f k = rw (← words_second f k)

module _ (f : List ℕ) (b : Bytes f) (k : ℕ) (e : Entry) (kind : e.kind ≡ get_or f (k + 2) 0) (calls : e.calls ≡ get_or f (k + 3) 0)
    (c : e.wcet ≡ word_at f (k + 4)) (t : e.period ≡ word_at f (k + 8)) (d : e.deadline ≡ word_at f (k + 12))
    (l : e.blocking ≡ word_at f (k + 16)) where
  with_jitter : (ed : Edition) → e.number ≡ (entry_in ed f k).number → (j : ℕ) → e.jitter ≡ j
      → e ≡ entry_from (words_from f k (file_words First) ++ (j ∷ [])) 0
  with_jitter ed n j q =
      byte_entry f b k e (n ∙ number_bytes ed f b k) kind calls c t d l
      ∙ ap (λ x. entry_from (words_from f k (file_words First) ++ (x ∷ [])) 0) q

  pub entry_fields_lem : (ed : Edition) → e.number ≡ (entry_in ed f k).number → e.jitter ≡ (entry_in ed f k).jitter → e ≡ entry_in ed f k
  entry_fields_lem First n j = with_jitter First n 0 (j ∙ sym (jitter_first f k))
  entry_fields_lem Second n j =
      with_jitter Second n (word_at f (k + 20)) (j ∙ sym (jitter_second f k)) ∙ ap (λ ws. entry_from ws 0) (words_jitter f k)

-- an entry has at least the 20 bytes of the first edition
pub at_least : (ed : Edition) → 20 ≤ entry_length ed
at_least First = omega arith
at_least Second = omega arith

-- the entry at a position of a body
module _ (start count position n : ℕ) (h : position < count) where
  inside : (ed : Edition) → start + count * entry_length ed ≤ n → start + position * entry_length ed + entry_length ed ≤ n
  inside First l = omega arith
  inside Second l = omega arith

module _ (ed : Edition) (start count position size : ℕ) (e : size ≡ entry_length ed) (h : position < count) where
  pub body_inside : (n : ℕ) → start + count * entry_length ed ≤ n → start + position * size + entry_length ed ≤ n
  body_inside n l = rw e (inside start count position n h ed l)

  pub body_entry : (f : List ℕ) → entry_in ed f (start + position * size) ≡ entry_at (entries_at ed f start count) position
  body_entry f = rw e (sym (run_get (entries_run ed f) start count position no_entry h))

-- an entry of a body in a file: it lies in the file
module _ (ed : Edition) (f : List ℕ) (start count position size : ℕ) (h : position < length (entries_at ed f start count)) (e : size ≡ entry_length ed) where
  body_has : position < count
  body_has = omega (arith, length-entries_at ed f start count)

  pub part_inside : start + count * entry_length ed ≤ length f → start + position * size + entry_length ed ≤ length f
  part_inside inside = body_inside ed start count position size e body_has _ inside

  pub part_entry : entry_in ed f (start + position * size) ≡ entry_at (entries_at ed f start count) position
  part_entry = body_entry ed start count position size e body_has f
