-- Laws of the encoding: its lengths, and one more row at the end.
use Prim.Native.Nat.{ℕ, ◌+◌, ◌-◌, ◌*◌, ◌/◌, ◌%◌, ◌≤◌}
use mathlib.Core.Path.{◌≡◌, ◌∙◌, refl, sym, ap}
use mathlib.Core.List.{List, [], ◌∷◌, ◌++◌, append_assoc, append-nil}
use native.Mathlib.Omega.{arith}
use borrow.Rule.Slice.PartMut.{put_mid}
use lib.ListN.{length, set, take, drop, length-append, length-set, length-take, length-drop}
use Rattle.task_model.specs.declared.Entry.{Entry}
use Rattle.plan_file.specs.declared.Edition.{Edition}
use Rattle.plan_file.specs.declared.Edition.TheVariants.{First, Second}
use Rattle.plan_file.specs.declared.Row.{Row}
use Rattle.plan_file.specs.Plan.{Plan, entry_count}
use Rattle.plan_file.specs.Encoding.{
  opening_bytes,
  header_length,
  row_length,
  entry_length,
  header_bytes,
  row_bytes,
  field_bytes,
  entry_bytes,
  bodies_start,
  contents_bytes,
  bodies_bytes,
  encoding,
}
use Rattle.byte_words.specs.Bytes.{low}
use Rattle.byte_words.specs.Buffers.{over}

pub count_snoc : (rs : List Row) (r : Row) → entry_count (rs ++ (r ∷ [])) ≡ entry_count rs + r.count
unfolding entry_count
count_snoc [] r = omega arith
count_snoc (q ∷ rs) r = omega (arith, count_snoc rs r)

-- an entry is longest in the second edition
pub entry_short : (ed : Edition) (n : ℕ) → n * entry_length ed ≤ n * entry_length Second
entry_short First n = omega arith
entry_short Second n = omega arith

-- and shortest in the first
pub entry_long : (ed : Edition) (n : ℕ) → n * entry_length First ≤ n * entry_length ed
entry_long First n = omega arith
entry_long Second n = omega arith

pub size_short : (ed : Edition) (size : ℕ) → size ≡ entry_length ed → (n : ℕ) → n * size ≤ n * entry_length Second
size_short ed size e n = rw e (entry_short ed n)

pub length-entry : (ed : Edition) (e : Entry) → length (entry_bytes ed e) ≡ entry_length ed
unfolding entry_bytes field_bytes low
length-entry First e = refl
length-entry Second e = refl

pub length-header : (ed : Edition) (nodes : ℕ) → length (header_bytes ed nodes) ≡ header_length
unfolding header_bytes low
length-header First nodes = refl
length-header Second nodes = refl

opening_four : (ed : Edition) → length (opening_bytes ed) ≡ 4
opening_four First = refl
opening_four Second = refl

-- its bytes, stored part by part
pub header_stored : (ed : Edition) (nodes : ℕ) (o z d : List ℕ) → o ≡ opening_bytes ed → z ≡ 0 ∷ 0 ∷ 0 ∷ [] → 8 ≤ length d
    → put_mid 5 3 (set (o ++ drop 4 d) 4 (nodes % 256)) z ≡ over d 0 (header_bytes ed nodes)
unfolding over header_bytes low
header_stored ed nodes o z [] e f h = absurd (omega arith)
header_stored ed nodes o z (a ∷ []) e f h = absurd (omega arith)
header_stored ed nodes o z (a ∷ b ∷ []) e f h = absurd (omega arith)
header_stored ed nodes o z (a ∷ b ∷ c ∷ []) e f h = absurd (omega arith)
header_stored ed nodes o z (a ∷ b ∷ c ∷ k ∷ []) e f h = absurd (omega arith)
header_stored ed nodes o z (a ∷ b ∷ c ∷ k ∷ l ∷ []) e f h = absurd (omega arith)
header_stored ed nodes o z (a ∷ b ∷ c ∷ k ∷ l ∷ m ∷ []) e f h = absurd (omega arith)
header_stored ed nodes o z (a ∷ b ∷ c ∷ k ∷ l ∷ m ∷ n ∷ []) e f h = absurd (omega arith)
header_stored First nodes o z (a ∷ b ∷ c ∷ k ∷ l ∷ m ∷ n ∷ p ∷ d) e f h = rw (e, f)
header_stored Second nodes o z (a ∷ b ∷ c ∷ k ∷ l ∷ m ∷ n ∷ p ∷ d) e f h = rw (e, f)

-- the last three
pub header_zeros : (ed : Edition) (o d : List ℕ) (x : ℕ) → o ≡ opening_bytes ed → 8 ≤ length d
    → length (take 3 (drop 5 (set (o ++ drop 4 d) 4 x))) ≡ 3
header_zeros ed o d x e h =
    let four : length (opening_bytes ed) ≡ 4 = opening_four ed in
    let l : List ℕ = set (o ++ drop 4 d) 4 x in
    omega (
      arith,
      ap length e,
      four,
      length-take 3 (drop 5 l),
      length-drop 5 l,
      length-set (o ++ drop 4 d) 4 x,
      length-append o (drop 4 d),
      length-drop 4 d,
    )

-- as many entries as there are, or fewer, lie inside
pub entries_inside : (ed : Edition) (total start m n : ℕ) → total ≡ start + m * entry_length ed → n ≤ m
    → start + n * entry_length ed ≤ total
entries_inside First total start m n e h = omega arith
entries_inside Second total start m n e h = omega arith

-- how many entries the bytes after a start hold
pub entries_counted : (ed : Edition) (total start m n : ℕ) → total ≡ start + m * entry_length ed
    → n ≡ (total - start) / entry_length ed → n ≡ m
entries_counted First total start m n e p = omega arith
entries_counted Second total start m n e p = omega arith

module _ (size : ℕ) where
  pub contents_snoc : (offset : ℕ) (rs : List Row) (r : Row)
      → contents_bytes size offset (rs ++ (r ∷ [])) ≡ contents_bytes size offset rs ++ row_bytes (offset + entry_count rs * size) r
  unfolding contents_bytes entry_count
  contents_snoc offset [] r = let e : offset + 0 * size ≡ offset = omega arith in rw e (append-nil _)
  contents_snoc offset (q ∷ rs) r =
      let e : offset + (q.count + entry_count rs) * size ≡ offset + q.count * size + entry_count rs * size = omega arith in
      rw (e, contents_snoc (offset + q.count * size) rs r) (sym (append_assoc (row_bytes offset q) _ _))

  pub length-contents : (offset : ℕ) (rs : List Row) → length (contents_bytes size offset rs) ≡ length rs * row_length
  unfolding contents_bytes row_bytes low
  length-contents offset [] = refl
  length-contents offset (r ∷ rs) = omega (arith, length-contents (offset + r.count * size) rs)

module _ (ed : Edition) where
  pub bodies_append : (xs ys : List Entry) → bodies_bytes ed (xs ++ ys) ≡ bodies_bytes ed xs ++ bodies_bytes ed ys
  unfolding bodies_bytes
  bodies_append [] ys = refl
  bodies_append (x ∷ xs) ys = rw (bodies_append xs ys) (sym (append_assoc (entry_bytes ed x) _ _))

  pub length-bodies : (es : List Entry) → length (bodies_bytes ed es) ≡ length es * entry_length ed
  unfolding bodies_bytes
  length-bodies [] = omega arith
  length-bodies (e ∷ es) = length-append (entry_bytes ed e) (bodies_bytes ed es) ∙ omega (arith, length-entry ed e, length-bodies es)

  pub length-encoding : (p : Plan) → length (encoding ed p) ≡ bodies_start (length p.rows) + length p.entries * entry_length ed
  unfolding encoding
  length-encoding p =
      simp length-append
      (omega (
        arith,
        length-header ed (length p.rows),
        length-contents (entry_length ed) (bodies_start (length p.rows)) p.rows,
        length-bodies p.entries,
      ))
