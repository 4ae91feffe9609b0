-- Laws of the rows and the entries of a file of one edition, stored as those of another.
use Prim.Native.Nat.{ℕ, ◌+◌, ◌*◌, ◌≤◌}
use mathlib.Core.Path.{◌≡◌, ◌∙◌, sym, ap}
use mathlib.Core.List.{List, [], ◌∷◌, ◌++◌, map, append-nil}
use native.Mathlib.Omega.{arith}
use lib.ListN.{length, take}
use Rattle.node_words.specs.Words.{entry_size}
use Rattle.byte_words.specs.Bytes.{word_at, bytes_of}
use Rattle.byte_words.specs.Buffers.{over}
use Rattle.byte_words.proofs.Buffers.{over_next}
use Rattle.byte_words.proofs.Runs.{run_split}
use Rattle.plan_file.specs.declared.Edition.{Edition}
use Rattle.plan_file.specs.declared.Edition.TheVariants.{First, Second}
use Rattle.plan_file.specs.Plan.{row_word, row_of}
use Rattle.plan_file.specs.Encoding.{entry_length, bodies_start, contents_bytes, bodies_bytes}
use Rattle.plan_file.specs.Decoding.{rows_from, file_words, entry_words_at, entry_in, entries_at}
use Rattle.plan_file.proofs.Words.{entry_bytes_lem, words_first, words_second}
use Rattle.plan_file.proofs.Numbering.{jitter_first, jitter_second}
use Rattle.plan_file.proofs.Contents.{entries_run, length-row_words, length-entries_at}
use Rattle.plan_file.proofs.Encoding.{bodies_append, length-bodies}
use Rattle.plan_file.proofs.Fits.{rows_words}

-- an entry of a file has as many words as in memory
length-in : (ed : Edition) (f : List ℕ) (k : ℕ) → length (entry_words_at ed f k) ≡ entry_size
length-in First f k = ap length (sym (words_first f k))
length-in Second f k = ap length (sym (words_second f k))

module _ (from to : Edition) (f : List ℕ) (start i : ℕ) where
  -- the entries of a file as bytes of another edition, and one more
  bodies_more : bodies_bytes to (entries_at from f start i) ++ bytes_of (take (file_words to) (entry_words_at from f (start + i * entry_length from)))
      ≡ bodies_bytes to (entries_at from f start (i + 1))
  unfolding bodies_bytes
  bodies_more =
      let run = entries_run from f in
      let k = start + i * entry_length from in
      sym
      (rw (run_split run start i 1, run.more k 0, run.none (k + entry_length from))
      (bodies_append to (entries_at from f start i) (entry_in from f k ∷ [])
      ∙ ap (λ l. bodies_bytes to (entries_at from f start i) ++ l)
      (append-nil _ ∙ entry_bytes_lem to (entry_words_at from f k) (omega (arith, length-in from f k)))))

  -- one more is stored
  pub entry_stored : (d w ws : List ℕ) → w ≡ over d start (bodies_bytes to (entries_at from f start i)) → start ≤ length d
      → ws ≡ take (file_words to) (entry_words_at from f (start + i * entry_length from))
      → over w (start + i * entry_length to) (bytes_of ws) ≡ over d start (bodies_bytes to (entries_at from f start (i + 1)))
  entry_stored d w ws e l p =
      rw (e, p)
      (over_next d start (i * entry_length to) (bodies_bytes to (entries_at from f start i)) _
      (length-bodies to (entries_at from f start i) ∙ ap (λ n. n * entry_length to) (length-entries_at from f start i)) l
      ∙ ap (over d start) bodies_more)

-- the words that the loop reads
pub read_words : (ed : Edition) (f : List ℕ) (k a b c d e j : ℕ) → a ≡ word_at f k → b ≡ word_at f (k + 4) → c ≡ word_at f (k + 8)
    → d ≡ word_at f (k + 12) → e ≡ word_at f (k + 16) → j ≡ (entry_in ed f k).jitter
    → a ∷ b ∷ c ∷ d ∷ e ∷ j ∷ [] ≡ entry_words_at ed f k
read_words First f k a b c d e j p q r s t u = rw (p, q, r, s, t, u, ← jitter_first f k) (words_first f k)
read_words Second f k a b c d e j p q r s t u = rw (p, q, r, s, t, u, ← jitter_second f k) (words_second f k)

-- the contents, from the words of a file's rows
pub contents_stored : (size : ℕ) (f : List ℕ) (nodes : ℕ) (words : List ℕ) → words ≡ map row_word (rows_from f 0 nodes)
    → contents_bytes size (bodies_start (length words)) (map row_of words) ≡ contents_bytes size (bodies_start nodes) (rows_from f 0 nodes)
contents_stored size f nodes words e = rw e (rw (length-row_words f nodes, rows_words f 0 nodes))
