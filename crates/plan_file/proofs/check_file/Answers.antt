use Prim.Native.Nat.{ℕ, ◌+◌, ◌*◌, ◌≤◌}
use mathlib.Core.Path.{◌≡◌, ◌∙◌, sym, ap}
use mathlib.Core.List.{List}
use lib.ListN.{length}
use Rattle.std.proofs.lemmas.Result.{err_from_is_err_and}
use Rattle.refusals.specs.Refusals.{Numbered, Outcome, accepted, refused}
use Rattle.refusals.specs.Answers.{Answer, gives, giving}
use Rattle.refusals.proofs.Outcomes.{giving_refuses, giving_gives}
use Rattle.task_model.specs.Checks.{body_check}
use Rattle.plan_file.specs.declared.Edition.{Edition}
use Rattle.plan_file.specs.Plan.{most_nodes, entry_count}
use Rattle.plan_file.specs.Encoding.{entry_length, bodies_start}
use Rattle.plan_file.specs.Decoding.{edition_of, node_count, rows_from, entries_at}
use Rattle.plan_file.specs.Check.{header_check, layout_check, bodies_by, file_check}
use Rattle.plan_file.proofs.File.{file_header, file_layout, file_bodies, layout_same, bodies_room, bodies_same}
use Rattle.plan_file.proofs.Header.{header_holds}
use Rattle.plan_file.proofs.Ensured.{file_ensures}
use Rattle.plan_file.proofs.check_file.Goals as goal

-- a file `f` whose header is accepted: the contents at hand have its bytes `g` and `n` rows
module _ (f : List ℕ) {g : List ℕ} {n : ℕ} (met : ◌≡◌ {A = Answer (List ℕ × ℕ)} (gives (g, n)) (giving (header_check f) (f, node_count f))) where
  told : (header_check f ≡ accepted) × ◌≡◌ {A = List ℕ × ℕ} (g, n) (f, node_count f)
  told = giving_gives _ _ _ met

  few_rows : n ≤ most_nodes
  few_rows = rw (ap (λ p. p.1) told.1) (header_holds _ told.0).counted.few

  -- and then the layout, by the edition at hand
  module _ {ed : Edition} (e : ed ≡ edition_of g) where
    layout_refused : {r : Numbered} → refused r ≡ layout_check (entry_length ed) g 0 0 (bodies_start n) (rows_from g 0 n)
        → refused r ≡ file_check f
    layout_refused says = sym (file_layout _ told.0 _ (sym (says ∙ layout_same told.1 e)))

    -- and then the bodies
    module _ (says : accepted ≡ layout_check (entry_length ed) g 0 0 (bodies_start n) (rows_from g 0 n)) {v : Edition} (is : ed ≡ v) where
      room : bodies_start n + entry_count (rows_from g 0 n) * entry_length v ≤ length g
      room = bodies_room told.1 e is (sym (says ∙ layout_same told.1 e))

      by_bodies : {o : Outcome} → o ≡ bodies_by body_check 0 (rows_from g 0 n) (entries_at v g (bodies_start n) (entry_count (rows_from g 0 n)))
          → o ≡ file_check f
      by_bodies b = b ∙ bodies_same told.1 e is ∙ sym (file_bodies _ told.0 (sym (says ∙ layout_same told.1 e)))

pub returns-in_err-contents : goal.returns-in_err-contents
returns-in_err-contents c =
    let p = err_from_is_err_and c.from_residual.result c.from_residual.ensures.1 in
    let both = file_ensures (λ i. (c.type_inv.file i).fits) (sym (file_header _ _ (giving_refuses _ _ _ c.in_err-contents.ensures))) in
    rw (p.1, p.2) (record { answer = both.0; exactly = both.1 })

pub check_layout-requires : goal.check_layout-requires
check_layout-requires c = few_rows _ c.in_ok-contents.ensures

pub returns-in_err-check_layout : goal.returns-in_err-check_layout
returns-in_err-check_layout c =
    let p = err_from_is_err_and c.from_residual-in_err-check_layout.result c.from_residual-in_err-check_layout.ensures.1 in
    let both = file_ensures (λ i. (c.type_inv.file i).fits) (layout_refused _ c.in_ok-contents.ensures c.edition-edition.ensures c.in_err-check_layout.ensures) in
    rw (p.1, p.2) (record { answer = both.0; exactly = both.1 })

pub check_file_bodies-requires-clause-there : goal.check_file_bodies-requires-clause-there
check_file_bodies-requires-clause-there c = room _ c.in_ok-contents.ensures c.edition-edition.ensures c.in_ok-check_layout.ensures c.in-First.is

pub check_file_bodies-requires-in-Second-clause-there : goal.check_file_bodies-requires-in-Second-clause-there
check_file_bodies-requires-in-Second-clause-there c = room _ c.in_ok-contents.ensures c.edition-edition.ensures c.in_ok-check_layout.ensures c.in-Second.is

pub returns-in-First : goal.returns-in-First
returns-in-First c =
    let both = file_ensures (λ i. (c.type_inv.file i).fits)
    (by_bodies _ c.in_ok-contents.ensures c.edition-edition.ensures c.in_ok-check_layout.ensures c.in-First.is c.check_file_bodies.ensures) in
    record { answer = both.0; exactly = both.1 }

pub returns-in-Second : goal.returns-in-Second
returns-in-Second c =
    let both = file_ensures (λ i. (c.type_inv.file i).fits)
    (by_bodies _ c.in_ok-contents.ensures c.edition-edition.ensures c.in_ok-check_layout.ensures c.in-Second.is c.check_file_bodies-in-Second.ensures) in
    record { answer = both.0; exactly = both.1 }
