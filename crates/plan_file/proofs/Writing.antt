-- What the writer answers, check by check, and what its stores leave in the buffer.
use Prim.Native.Nat.{ℕ, zero, suc, ◌+◌, ◌*◌, ◌/◌, ◌≤◌, ◌<◌}
use mathlib.Core.Path.{◌≡◌, ◌∙◌, sym, ap}
use mathlib.Core.List.{List, [], map, ◌++◌, append-nil}
use native.Mathlib.Omega.{arith}
use native.Mathlib.Nat.{zero-add}
use lib.ListN.{length, get_or, take, drop, length-append, length-drop, length-map}
use lib.Seq.{drop-drop}
use Rattle.std.proofs.lemmas.List.{take-take}
use Rattle.std.specs.Simd.{first_chunks}
use borrow.Author.Tests.{le-leb, lt-leb}
use Rattle.refusals.specs.Refusals.{Numbered, at, accepted, refused}
use Rattle.node_words.specs.Words.{entry_size, entry_of, entries_of}
use Rattle.node_words.proofs.Words.{entry_drop}
use Rattle.node_words.proofs.Entries.{length-entries}
use Rattle.plan_file.specs.declared.Edition.{Edition}
use Rattle.plan_file.specs.Plan.{Plan, row_of, plan_of}
use Rattle.plan_file.specs.Encoding.{header_length, entry_length, header_bytes, entry_bytes, bodies_start, contents_bytes, bodies_bytes, encoding}
use Rattle.plan_file.specs.Decoding.{file_words}
use Rattle.plan_file.specs.Check.{words_check}
use Rattle.byte_words.specs.Buffers.{over}
use Rattle.plan_file.specs.Answers.{write_answer}
use Rattle.refusals.specs.Answers.{gives, refuses}
use Rattle.byte_words.proofs.Buffers.{over_next}
use Rattle.byte_words.specs.Bytes.{bytes_of}
use Rattle.byte_words.proofs.Runs.{run_split}
use Rattle.plan_file.proofs.Words.{entry_bytes_lem}
use Rattle.plan_file.proofs.Contents.{words_entries_run}
use Rattle.plan_file.proofs.Encoding.{bodies_append, length-bodies, length-header, length-contents, length-encoding}

-- an entry's words are one chunk of all of them, and the first of these are what a file has
pub chunk_at : (n k : ℕ) (ws : List ℕ) (i : ℕ) → n ≤ entry_size → i < k
    → take n (get_or (first_chunks entry_size k ws) i []) ≡ take n (drop (i * entry_size) ws)
chunk_at n zero ws i f h = absurd (omega (arith, h))
chunk_at n (suc k) ws zero f h = take-take n entry_size ws f
chunk_at n (suc k) ws (suc i) f h =
    let e : entry_size + i * entry_size ≡ suc i * entry_size = omega arith in
    chunk_at n k (drop entry_size ws) i f (omega (arith, h))
    ∙ ap (take n) (drop-drop (i * entry_size) entry_size ws ∙ ap (λ m. drop m ws) e)

module _ (ed : Edition) (ws : List ℕ) (i : ℕ) (h : i * entry_size + entry_size ≤ length ws) where
  -- entries as bytes, and one more
  bodies_more : bodies_bytes ed (entries_of ws i) ++ bytes_of (take (file_words ed) (drop (i * entry_size) ws))
      ≡ bodies_bytes ed (entries_of ws (i + 1))
  unfolding bodies_bytes
  bodies_more =
      let run = words_entries_run ws in
      let z : 0 + i * 1 ≡ i = omega arith in
      let one : entry_bytes ed (entry_of ws (0 + i * 1)) ≡ bytes_of (take (file_words ed) (drop (i * entry_size) ws)) =
      rw z
      (ap (entry_bytes ed) (entry_drop ws (i * entry_size))
      ∙ entry_bytes_lem ed (drop (i * entry_size) ws) (omega (arith, length-drop (i * entry_size) ws))) in
      sym
      (rw (run_split run 0 i 1, run.more (0 + i * 1) 0, run.none (0 + i * 1 + 1))
      (bodies_append ed (entries_of ws i) _ ∙ ap (λ l. bodies_bytes ed (entries_of ws i) ++ l) (append-nil _ ∙ one)))

  -- one more is stored
  pub entry_put : (d w : List ℕ) (k : ℕ) → w ≡ over d k (bodies_bytes ed (entries_of ws i)) → k ≤ length d
      → over w (k + i * entry_length ed) (bytes_of (take (file_words ed) (drop (i * entry_size) ws)))
      ≡ over d k (bodies_bytes ed (entries_of ws (i + 1)))
  entry_put d w k e l =
      rw e
      (over_next d k (i * entry_length ed) (bodies_bytes ed (entries_of ws i)) _
      (length-bodies ed (entries_of ws i) ∙ ap (λ n. n * entry_length ed) (length-entries ws 0 i)) l
      ∙ ap (over d k) bodies_more)

-- the header, the contents and the bodies of a plan, stored one after the other, are its encoding
pub plan_stored : (ed : Edition) (p : Plan) (n : ℕ) → n ≡ length p.rows → (d : List ℕ)
    → over
    (over (over d 0 (header_bytes ed n)) header_length (contents_bytes (entry_length ed) (bodies_start n) p.rows))
    (bodies_start n)
    (bodies_bytes ed p.entries)
    ≡ over d 0 (encoding ed p)
unfolding encoding
plan_stored ed p n e d =
    let h = header_bytes ed n in
    let k = contents_bytes (entry_length ed) (bodies_start n) p.rows in
    let b = bodies_bytes ed p.entries in
    let l : length (h ++ k) ≡ bodies_start n =
    length-append h k ∙ omega (arith, length-header ed n, length-contents (entry_length ed) (bodies_start n) p.rows) in
    rw (over_next d 0 header_length h k (length-header ed n) (omega arith))
    (ap (λ i. over (over d 0 (h ++ k)) i b) (sym (zero-add (bodies_start n)))
    ∙ over_next d 0 (bodies_start n) (h ++ k) b l (omega arith)
    ∙ ap (λ i. over d 0 (header_bytes ed i ++ contents_bytes (entry_length ed) (bodies_start i) p.rows ++ b)) e)

module _ (ed : Edition) (rs ws : List ℕ) where
  -- so they are for a plan in memory
  pub written : (d : List ℕ)
      → over
      (over (over d 0 (header_bytes ed (length rs))) header_length (contents_bytes (entry_length ed) (bodies_start (length rs)) (map row_of rs)))
      (bodies_start (length rs))
      (bodies_bytes ed (entries_of ws (length ws / entry_size)))
      ≡ over d 0 (encoding ed (plan_of rs ws))
  written d = plan_stored ed (plan_of rs ws) (length rs) (sym (length-map rs row_of)) d

  module _ (room : ℕ) where
    pub write_refused : (r : Numbered) → words_check ed rs ws ≡ refused r → write_answer ed rs ws room ≡ refuses r
    unfolding write_answer
    write_refused r p = rw p

    module _ (a : words_check ed rs ws ≡ accepted) (n : ℕ) (e : n ≡ bodies_start (length rs) + length ws / entry_size * entry_length ed) where
      long : length (encoding ed (plan_of rs ws)) ≡ n
      long =
          length-encoding ed (plan_of rs ws)
          ∙ rw (length-map rs row_of, length-entries ws 0 (length ws / entry_size)) (sym e)

      pub write_short : room < n → write_answer ed rs ws room ≡ refuses (at 10 0 0)
      unfolding write_answer
      write_short h = rw (a, long, lt-leb n room h)

      pub write_fits : n ≤ room → write_answer ed rs ws room ≡ gives n
      unfolding write_answer
      write_fits h = rw (a, long, le-leb n room h)
