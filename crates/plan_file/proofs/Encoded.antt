-- An accepted file is the encoding of the plan that it holds.
use Prim.Native.Nat.{ℕ, zero, suc, ◌+◌, ◌*◌, ◌/◌, ◌%◌, ◌≤◌, ◌<◌}
use mathlib.Core.Path.{◌≡◌, ◌∙◌, refl, sym, ap}
use mathlib.Core.List.{List, [], ◌∷◌, ◌++◌}
use native.Mathlib.Nat.{zero-add}
use native.Mathlib.Omega.{arith}
use lib.ListN.{length, get_or, take, drop, length-append}
use lib.Seq.{drop-cons, drop-drop, take-add, take_at, take_all}
use Rattle.refusals.specs.Refusals.{accepted}
use Rattle.node_words.specs.Words.{entry_size}
use Rattle.plan_file.specs.declared.Edition.{Edition}
use Rattle.plan_file.specs.declared.Edition.TheVariants.{First, Second}
use Rattle.plan_file.specs.Plan.{entry_count}
use Rattle.plan_file.specs.Encoding.{opening_bytes, row_length, header_length, entry_length, header_bytes, row_bytes, entry_bytes, bodies_start, contents_bytes, bodies_bytes, encoding}
use Rattle.byte_words.specs.Bytes.{low, Bytes, word_at, words_from, bytes_of}
use Rattle.plan_file.specs.Decoding.{edition_of, node_count, row_at, offset_at, rows_from, rows_in, entry_in, entries_at, plan_in, file_words}
use Rattle.plan_file.specs.Check.{contents_check, file_check}
use Rattle.plan_file.proofs.Tests.{Opens, Counted}
use Rattle.plan_file.proofs.Words.{row_bytes_lem, entry_bytes_lem}
use Rattle.byte_words.proofs.Words.{length-words}
use Rattle.plan_file.proofs.Contents.{length-rows}
use Rattle.plan_file.proofs.File.{FileHolds, file_holds}
use Rattle.plan_file.proofs.Nodes.{row_placed}

-- `n` bytes of a file from byte `k` on
abbrev pub part : List ℕ → ℕ → ℕ → List ℕ
part f k n = take n (drop k f)

pub part_add : (f : List ℕ) (k m n : ℕ) → part f k m ++ part f (k + m) n ≡ part f k (m + n)
part_add f k m n = rw (take-add m n (drop k f), drop-drop m k f)

-- one byte, and the number above it
low_step : (k a q : ℕ) → a < 256 → low (suc k) (a + q * 256) ≡ a ∷ low k q
unfolding low
low_step k a q h =
    let m : (a + q * 256) % 256 ≡ a = omega arith in
    let d : (a + q * 256) / 256 ≡ q = omega arith in
    rw (m, d)

four_bytes : (a c d e : ℕ) → a < 256 → c < 256 → d < 256 → e < 256
    → low 4 (a + c * 256 + d * 65536 + e * 16777216) ≡ a ∷ c ∷ d ∷ e ∷ []
unfolding low
four_bytes a c d e ha hc hd he =
    let w : a + c * 256 + d * 65536 + e * 16777216 ≡ a + (c + (d + (e + 0 * 256) * 256) * 256) * 256 = omega arith in
    rw w
    (low_step 3 a _ ha
    ∙ ap (λ l. a ∷ l) (low_step 2 c _ hc ∙ ap (λ l. c ∷ l) (low_step 1 d _ hd ∙ ap (λ l. d ∷ l) (low_step 0 e 0 he))))

module _ (f : List ℕ) (b : Bytes f) where
  pub word_part : (k : ℕ) → k + 4 ≤ length f → low 4 (word_at f k) ≡ part f k 4
  unfolding word_at
  word_part k h =
      let e1 : k + 1 ≡ suc k = omega arith in
      let e2 : k + 2 ≡ suc (suc k) = omega arith in
      let e3 : k + 3 ≡ suc (suc (suc k)) = omega arith in
      four_bytes _ _ _ _ (b k) (b (k + 1)) (b (k + 2)) (b (k + 3))
      ∙ rw (
        drop-cons f k 0 (omega arith),
        drop-cons f (suc k) 0 (omega arith),
        drop-cons f (suc (suc k)) 0 (omega arith),
        drop-cons f (suc (suc (suc k))) 0 (omega arith),
        e1,
        e2,
        e3,
      )

  row_part : (i required : ℕ) → offset_at f i ≡ required → header_length + i * row_length + row_length ≤ length f
      → row_bytes required (row_at f i) ≡ part f (header_length + i * row_length) row_length
  row_part i required e h =
      row_bytes_lem required (word_at f (header_length + i * row_length))
      ∙ rw (← e, word_part (header_length + i * row_length) (omega arith), word_part (header_length + i * row_length + 4) (omega arith))
      (part_add f (header_length + i * row_length) 4 4)

  pub contents_part : (size i n least required : ℕ) → contents_check size f i least required (rows_from f i n) ≡ accepted
      → header_length + (i + n) * row_length ≤ length f
      → contents_bytes size required (rows_from f i n) ≡ part f (header_length + i * row_length) (n * row_length)
  unfolding rows_from contents_bytes
  contents_part size i zero least required a h = refl
  contents_part size i (suc n) least required a h =
      let p = row_placed size f i least required (row_at f i) (rows_from f (suc i) n) a in
      let e : header_length + suc i * row_length ≡ header_length + i * row_length + row_length = omega arith in
      let e2 : suc n * row_length ≡ row_length + n * row_length = omega arith in
      rw (
        row_part i required p.placed (omega arith),
        contents_part size (suc i) n _ _ p.rest (omega arith),
        e,
        e2,
      )
      (part_add f (header_length + i * row_length) row_length (n * row_length))

  words_part : (k n : ℕ) → k + n * 4 ≤ length f → bytes_of (words_from f k n) ≡ part f k (n * 4)
  unfolding words_from bytes_of
  words_part k zero h = refl
  words_part k (suc n) h =
      let e : suc n * 4 ≡ 4 + n * 4 = omega arith in
      rw (word_part k (omega arith), words_part (k + 4) n (omega arith), e) (part_add f k 4 (n * 4))

  entry_part : (ed : Edition) (k : ℕ) → k + entry_length ed ≤ length f → entry_bytes ed (entry_in ed f k) ≡ part f k (entry_length ed)
  entry_part First k h =
      let l = length-words f k (file_words First) in
      entry_bytes_lem First (words_from f k (file_words First) ++ (0 ∷ [])) (omega (arith, l, length-append (words_from f k (file_words First)) (0 ∷ [])))
      ∙ ap bytes_of (take_at (words_from f k (file_words First)) (0 ∷ []) (file_words First) l)
      ∙ words_part k (file_words First) h
  entry_part Second k h =
      let l = length-words f k entry_size in
      entry_bytes_lem Second (words_from f k entry_size) (omega (arith, l))
      ∙ ap bytes_of (take_all entry_size (words_from f k entry_size) (omega (arith, l)))
      ∙ words_part k entry_size h

  pub bodies_part : (ed : Edition) (k n : ℕ) → k + n * entry_length ed ≤ length f
      → bodies_bytes ed (entries_at ed f k n) ≡ part f k (n * entry_length ed)
  unfolding bodies_bytes entries_at
  bodies_part ed k zero h = let e : 0 * entry_length ed ≡ 0 = omega arith in rw e
  bodies_part ed k (suc n) h =
      let e : suc n * entry_length ed ≡ entry_length ed + n * entry_length ed = omega arith in
      rw (entry_part ed k (omega arith), bodies_part ed (k + entry_length ed) n (omega arith), e)
      (part_add f k (entry_length ed) (n * entry_length ed))

  -- an opening stands at the start of a file that opens with it
  opening_part : (ed : Edition) → Opens ed f → opening_bytes ed ≡ get_or f 0 0 ∷ get_or f 1 0 ∷ get_or f 2 0 ∷ get_or f 3 0 ∷ []
  opening_part First h = rw (h.first, h.second, h.third, h.fourth)
  opening_part Second h = rw (h.first, h.second, h.third, h.fourth)

  header_part : (ed : Edition) → Opens ed f → Counted f → header_length ≤ length f → header_bytes ed (node_count f) ≡ part f 0 header_length
  unfolding header_bytes low
  header_part ed o c l =
      let n : node_count f % 256 ≡ node_count f = omega (arith, c.few) in
      rw (
        opening_part ed o,
        drop-cons f 0 0 (omega arith),
        drop-cons f 1 0 (omega arith),
        drop-cons f 2 0 (omega arith),
        drop-cons f 3 0 (omega arith),
        drop-cons f 4 0 (omega arith),
        drop-cons f 5 0 (omega arith),
        drop-cons f 6 0 (omega arith),
        drop-cons f 7 0 (omega arith),
      )
      (rw (n, c.zero5, c.zero6, c.zero7))

  module _ (a : file_check f ≡ accepted) where
    held : FileHolds f
    held = file_holds f a

    pub same_bytes : encoding (edition_of f) (plan_in f) ≡ f
    unfolding encoding
    same_bytes =
        let ed = edition_of f in
        let n = node_count f in
        let m = entry_count (rows_in f) * entry_length ed in
        let s = held.ends in
        let l : header_length + (0 + n) * row_length ≤ length f = omega (arith, held.header.contents) in
        let t : bodies_start n + m ≤ length f = omega arith in
        let e : header_length + n * row_length + m ≡ length f = omega arith in
        rw (
          length-rows f 0 n,
          header_part ed held.header.opens held.header.counted held.header.long,
          contents_part (entry_length ed) 0 n 0 (bodies_start n) held.contents l,
          bodies_part ed (bodies_start n) (entry_count (rows_in f)) t,
        )
        (rw (part_add f 0 header_length (n * row_length))
        (ap (λ k. part f 0 (header_length + n * row_length) ++ part f k m) (sym (zero-add (header_length + n * row_length)))
        ∙ part_add f 0 (header_length + n * row_length) m
        ∙ rw e (take_all (length f) f (omega arith))))
