-- An encoding is a list of bytes.
use Prim.Native.Nat.{ℕ, zero, suc, ◌+◌, ◌*◌, ◌/◌, ◌%◌, ◌<◌}
use mathlib.Core.List.{List, [], ◌∷◌, ◌++◌}
use native.Mathlib.Omega.{arith}
use lib.Dec.{lit<}
use Rattle.task_model.specs.declared.Entry.{Entry}
use Rattle.plan_file.specs.declared.Edition.{Edition}
use Rattle.plan_file.specs.declared.Edition.TheVariants.{First, Second}
use Rattle.plan_file.specs.declared.Row.{Row}
use Rattle.plan_file.specs.Plan.{Plan}
use Rattle.plan_file.specs.Encoding.{opening_bytes, header_bytes, row_bytes, field_bytes, entry_bytes, contents_bytes, bodies_bytes, encoding}
use Rattle.byte_words.specs.Bytes.{low, Bytes}

data Small : List ℕ → Type 0 where
  none : Small []
  one : {a : ℕ} {l : List ℕ} → a < 256 → Small l → Small (a ∷ l)

both : {s t : List ℕ} → Small s → Small t → Small (s ++ t)
both none h = h
both (one a g) h = one a (both g h)

small_bytes : {l : List ℕ} → Small l → Bytes l
small_bytes none i = lit< tt
small_bytes (one a g) zero = a
small_bytes (one a g) (suc i) = small_bytes g i

small_low : (k n : ℕ) → Small (low k n)
unfolding low
small_low zero n = none
small_low (suc k) n = one {a = n % 256} (omega arith) (small_low k (n / 256))

small_contents : (size offset : ℕ) (rs : List Row) → Small (contents_bytes size offset rs)
unfolding contents_bytes row_bytes
small_contents size offset [] = none
small_contents size offset (r ∷ rs) =
    both (both (both (both (small_low 2 _) (small_low 1 _)) (small_low 1 _)) (small_low 4 _))
    (small_contents size (offset + r.count * size) rs)

small_fields : (e : Entry) → Small (field_bytes e)
unfolding field_bytes
small_fields e =
    both
    (both (both (both (both (both (small_low 2 _) (small_low 1 _)) (small_low 1 _)) (small_low 4 _)) (small_low 4 _)) (small_low 4 _))
    (small_low 4 _)

small_entry : (ed : Edition) (e : Entry) → Small (entry_bytes ed e)
unfolding entry_bytes
small_entry First e = small_fields e
small_entry Second e = both (small_fields e) (small_low 4 _)

small_bodies : (ed : Edition) (es : List Entry) → Small (bodies_bytes ed es)
unfolding bodies_bytes
small_bodies ed [] = none
small_bodies ed (e ∷ es) = both (small_entry ed e) (small_bodies ed es)

small_opening : (ed : Edition) → Small (opening_bytes ed)
small_opening First = one (lit< tt) (one (lit< tt) (one (lit< tt) (one (lit< tt) none)))
small_opening Second = one (lit< tt) (one (lit< tt) (one (lit< tt) (one (lit< tt) none)))

small_header : (ed : Edition) (n : ℕ) → Small (header_bytes ed n)
unfolding header_bytes
small_header ed n =
    both (both (small_opening ed) (small_low 1 n)) (one (lit< tt) (one (lit< tt) (one (lit< tt) none)))

pub bytes_encoding : (ed : Edition) (p : Plan) → Bytes (encoding ed p)
unfolding encoding
bytes_encoding ed p = small_bytes (both (both (small_header ed _) (small_contents _ _ _)) (small_bodies ed _))
