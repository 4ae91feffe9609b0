use Prim.Native.Nat.{ℕ, ◌+◌, ◌*◌, ◌/◌, ◌≤◌}
use mathlib.Core.Path.{◌≡◌, ◌∙◌, refl, sym, ap}
use native.Mathlib.Omega.{arith}
use native.Mathlib.Nat.{zero-add}
use borrow.Rule.Slice.PartMut.{same_len_mid}
use mathlib.Core.List.{List, [], ◌∷◌}
use lib.ListN.{length, get_or, take, drop, length-drop}
use Rattle.std.proofs.lemmas.List.{length-take, length-take-le}
use Rattle.node_words.specs.Words.{entry_size, entries_from}
use Rattle.byte_words.specs.Bytes.{bytes_of}
use Rattle.byte_words.specs.Buffers.{over}
use Rattle.byte_words.proofs.Buffers.{over_nothing, over_behind}
use Rattle.plan_file.specs.declared.Edition.TheVariants.{First}
use Rattle.plan_file.specs.Encoding.{entry_length, bodies_bytes}
use Rattle.plan_file.specs.Decoding.{file_words}
use Rattle.plan_file.proofs.Writing.{chunk_at, entry_put}
use Rattle.plan_file.proofs.store.put_first.Goals as goal

-- the words of an entry but the last, one by one
first_five : (x : List ℕ) → entry_size ≤ length x
    → take (file_words First) x ≡ get_or x 0 0 ∷ get_or x 1 0 ∷ get_or x 2 0 ∷ get_or x 3 0 ∷ get_or x 4 0 ∷ []
first_five [] h = absurd (omega arith)
first_five (a ∷ []) h = absurd (omega arith)
first_five (a ∷ b ∷ []) h = absurd (omega arith)
first_five (a ∷ b ∷ c ∷ []) h = absurd (omega arith)
first_five (a ∷ b ∷ c ∷ d ∷ []) h = absurd (omega arith)
first_five (a ∷ b ∷ c ∷ d ∷ e ∷ r) h = refl

-- a chunk that is the next entry of the words has all of its words
rest_long : (words : List ℕ) (i : ℕ) (chunk : List ℕ) → i * entry_size + entry_size ≤ length words
    → take entry_size chunk ≡ take entry_size (drop (i * entry_size) words) → entry_size ≤ length chunk
rest_long words i chunk h e =
    omega (
      arith,
      ap length e,
      length-take entry_size chunk,
      length-take-le entry_size (drop (i * entry_size) words) (omega (arith, length-drop (i * entry_size) words)),
    )

pub loop-i-init : goal.loop-i-init
unfolding bodies_bytes entries_from
loop-i-init c = (refl, sym (over_nothing _ _))

pub loop-i-preserved : goal.loop-i-preserved
loop-i-preserved c =
    let words = c.args.words.now in
    let at : ℕ = c.loop-i.i * entry_length First in
    let chunk = get_or c.as_chunks.result.0.now c.loop-i.i [] in
    let same = λ (n : ℕ) (h : n ≤ entry_size). ap (λ l. take n (get_or l c.loop-i.i [])) c.as_chunks.ensures.front ∙ chunk_at n _ words c.loop-i.i h (omega arith) in
    let long = rest_long words c.loop-i.i chunk (omega arith) (same entry_size (omega arith)) in
    let five = sym (first_five chunk long) ∙ same (file_words First) (omega arith) in (
      same_len_mid _ _ _ _ c.put_words.auto.bytes ∙ c.loop-i.invariant.0,
      over_behind c.loop-i.bytes at _ _ c.put_words.ensures
          ∙ ap (λ ws. over c.loop-i.bytes at (bytes_of ws)) five
          ∙ ap (λ k. over c.loop-i.bytes k (bytes_of (take (file_words First) (drop (c.loop-i.i * entry_size) words)))) (sym (zero-add at))
          ∙ entry_put First words _ (omega arith) _ _ 0 c.loop-i.invariant.1 (omega arith),
    )

pub returns : goal.returns
returns c = let e : c.loop-i.i ≡ length c.args.words.now / entry_size = omega arith in rw (← e) c.loop-i.invariant.1
