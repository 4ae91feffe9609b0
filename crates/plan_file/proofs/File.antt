-- What follows if a file is accepted, and the file's checks one after another.
use Prim.Native.Nat.{ℕ, ◌+◌, ◌*◌, ◌≤◌}
use mathlib.Core.Path.{◌≡◌, ap}
use mathlib.Core.List.{List}
use native.Mathlib.Omega.{arith}
use lib.ListN.{length}
use borrow.Author.Tests.{eqb-true}
use Rattle.refusals.specs.Refusals.{Numbered, accepted, refused}
use Rattle.task_model.specs.Checks.{body_check}
use Rattle.plan_file.specs.declared.Edition.{Edition}
use Rattle.plan_file.specs.declared.Row.{Row}
use Rattle.plan_file.specs.Plan.{entry_count}
use Rattle.plan_file.specs.Encoding.{entry_length, bodies_start}
use Rattle.plan_file.specs.Decoding.{edition_of, node_count, rows_from, rows_in, entries_at, entries_in}
use Rattle.plan_file.specs.Check.{header_check, contents_check, layout_check, bodies_by, file_check}
use Rattle.refusals.proofs.Outcomes.{both_accepted, demanded}
use Rattle.plan_file.proofs.Header.{HeaderHolds, header_holds}

pub layout_holds : (size : ℕ) (f : List ℕ) (i least required : ℕ) (rows : List Row) → layout_check size f i least required rows ≡ accepted
    → (contents_check size f i least required rows ≡ accepted) × (length f ≡ required + entry_count rows * size)
unfolding layout_check
layout_holds size f i least required rows p =
    let q = both_accepted _ _ p in (q.0, eqb-true _ _ (demanded _ _ q.1))

module _ (f : List ℕ) where
  pub file_header : (r : Numbered) → header_check f ≡ refused r → file_check f ≡ refused r
  unfolding file_check
  file_header r p = rw p

  module _ (h : header_check f ≡ accepted) where
    pub file_layout : (r : Numbered) → layout_check (entry_length (edition_of f)) f 0 0 (bodies_start (node_count f)) (rows_in f) ≡ refused r
        → file_check f ≡ refused r
    unfolding file_check
    file_layout r p = rw (h, p)

    pub file_bodies : layout_check (entry_length (edition_of f)) f 0 0 (bodies_start (node_count f)) (rows_in f) ≡ accepted
        → file_check f ≡ bodies_by body_check 0 (rows_in f) (entries_in f)
    unfolding file_check
    file_bodies p = rw (h, p)

  pub record FileHolds : Type 0 where
    pub header : HeaderHolds f
    pub contents : contents_check (entry_length (edition_of f)) f 0 0 (bodies_start (node_count f)) (rows_in f) ≡ accepted
    pub ends : length f ≡ bodies_start (node_count f) + entry_count (rows_in f) * entry_length (edition_of f)
    pub bodies : bodies_by body_check 0 (rows_in f) (entries_in f) ≡ accepted

  pub file_holds : file_check f ≡ accepted → FileHolds
  unfolding file_check
  file_holds p =
      let p1 = both_accepted _ _ p in
      let p2 = both_accepted _ _ p1.1 in
      let l = layout_holds _ f _ _ _ _ p2.0 in
      record { header = header_holds f p1.0; contents = l.0; ends = l.1; bodies = p2.1 }

-- what is known of the contents at hand holds of the file
module _ {f g : List ℕ} {n : ℕ} (told : ◌≡◌ {A = List ℕ × ℕ} (g, n) (f, node_count f)) where
  pub rows_listed : rows_from g 0 n ≡ rows_in f
  rows_listed = rw (ap (λ p. p.0) told, ap (λ p. p.1) told)

  module _ {ed : Edition} (e : ed ≡ edition_of g) where
    pub layout_same : layout_check (entry_length ed) g 0 0 (bodies_start n) (rows_from g 0 n)
        ≡ layout_check (entry_length (edition_of f)) f 0 0 (bodies_start (node_count f)) (rows_in f)
    layout_same = rw (e, ap (λ p. p.0) told, ap (λ p. p.1) told)

    -- its bodies, in the edition at hand
    module _ {v : Edition} (is : ed ≡ v) where
      pub bodies_room : layout_check (entry_length (edition_of f)) f 0 0 (bodies_start (node_count f)) (rows_in f) ≡ accepted
          → bodies_start n + entry_count (rows_from g 0 n) * entry_length v ≤ length g
      bodies_room a =
          rw (← is, e, ap (λ p. p.0) told, ap (λ p. p.1) told)
          (omega (arith, (layout_holds (entry_length (edition_of f)) f 0 0 _ (rows_in f) a).1))

      pub bodies_same : bodies_by body_check 0 (rows_from g 0 n) (entries_at v g (bodies_start n) (entry_count (rows_from g 0 n)))
          ≡ bodies_by body_check 0 (rows_in f) (entries_in f)
      bodies_same = rw (← is, e, ap (λ p. p.0) told, ap (λ p. p.1) told)
