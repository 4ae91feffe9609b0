use Prim.Native.Nat.{ℕ, ◌*◌}
use mathlib.Core.List.{List, map}
use mathlib.Core.Path.{◌≡◌, ◌∙◌, refl, sym, ap}
use native.Mathlib.Omega.{arith}
use Rattle.std.proofs.lemmas.Result.{err_from_is_err_and}
use Rattle.byte_words.specs.Buffers.{over}
use Rattle.byte_words.proofs.Buffers.{over_start}
use Rattle.refusals.proofs.Outcomes.{giving_refuses, giving_gives}
use Rattle.plan_file.specs.declared.Edition.{Edition}
use Rattle.plan_file.specs.Plan.{entry_count, row_word}
use Rattle.plan_file.specs.Encoding.{entry_length, bodies_start}
use Rattle.plan_file.specs.Decoding.{edition_of, node_count, rows_in}
use Rattle.plan_file.proofs.Encoding.{entry_long}
use Rattle.plan_file.proofs.Reading.{read_refused, read_few_rows, read_few_words, read_filled, entries_left}
use Rattle.plan_file.proofs.Memory.{entries_room, entries_filled}
use Rattle.plan_file.proofs.File.{file_holds, rows_listed}
use Rattle.plan_file.proofs.Ensured.{read_ensures}
use Rattle.plan_file.proofs.read_plan.Goals as goal

-- what is known of a file that the check gives as accepted, of another name
module _ (f g : List ℕ) (same : g ≡ f) where
  nodes_same : (n : ℕ) → n ≡ node_count g → n ≡ node_count f
  nodes_same n e = e ∙ ap node_count same

  count_same : (n : ℕ) → n ≡ entry_count (rows_in g) → n ≡ entry_count (rows_in f)
  count_same n e = e ∙ ap (λ h. entry_count (rows_in h)) same

  edition_same : (ed : Edition) → ed ≡ edition_of g → ed ≡ edition_of f
  edition_same ed e = e ∙ ap edition_of same

  -- and of its contents, with bytes `h` and `n` rows
  start_same : {h : List ℕ} {n : ℕ} → ◌≡◌ {A = List ℕ × ℕ} (h, n) (g, node_count g) → (k : ℕ) → k ≡ bodies_start n
      → k ≡ bodies_start (node_count f)
  start_same told k e = e ∙ ap bodies_start (ap (λ p. p.1) told ∙ ap node_count same)

pub returns-in_err-accepted : goal.returns-in_err-accepted
returns-in_err-accepted c =
    let p = err_from_is_err_and c.from_residual.result c.from_residual.ensures.1 in
    rw (p.1, p.2)
    (record {
      read_call = record { answer = sym (read_refused _ _ _ _ (giving_refuses _ _ _ c.in_err-accepted.ensures)); rows_there = refl; words_there = refl };
      written_again = tt;
    })

pub returns-then-rows-nodes : goal.returns-then-rows-nodes
returns-then-rows-nodes c =
    let told = giving_gives _ _ _ c.in_ok-accepted.ensures in
    let nodes = nodes_same c.args.file.now _ told.1 _ c.nodes-nodes.ensures.value in
    record {
      read_call = record {
        answer = sym (read_few_rows _ _ _ told.0 (rw (← nodes) c.if-rows-nodes.true));
        rows_there = refl;
        words_there = refl;
      };
      written_again = tt;
    }

pub overflow_mul-count : goal.overflow_mul-count
overflow_mul-count c =
    let told = giving_gives _ _ _ c.in_ok-accepted.ensures in
    let count = count_same c.args.file.now _ told.1 _ c.entries-count.ensures in
    omega (arith, count, (file_holds _ told.0).ends, entry_long (edition_of c.args.file.now) (entry_count (rows_in c.args.file.now)))

pub returns-then-entries-count : goal.returns-then-entries-count
returns-then-entries-count c =
    let told = giving_gives _ _ _ c.in_ok-accepted.ensures in
    let nodes = nodes_same c.args.file.now _ told.1 _ c.nodes-nodes.ensures.value in
    let count = count_same c.args.file.now _ told.1 _ c.entries-count.ensures in
    record {
      read_call = record {
        answer = sym (read_few_words _ _ _ told.0 (omega (arith, nodes)) (omega (arith, count)));
        rows_there = refl;
        words_there = refl;
      };
      written_again = tt;
    }

pub copy_rows-requires : goal.copy_rows-requires
copy_rows-requires c =
    let told = giving_gives _ _ _ c.in_ok-accepted.ensures in
    let nodes = nodes_same c.args.file.now _ told.1 _ c.nodes-nodes.ensures.value in
    omega (arith, nodes, ap (λ p. p.1) (rw told.1 at c.contents-contents.ensures))

pub copy_entries-requires : goal.copy_entries-requires
copy_entries-requires c =
    let told = giving_gives _ _ _ c.in_ok-accepted.ensures in
    let nodes = nodes_same c.args.file.now _ told.1 _ c.nodes-nodes.ensures.value in
    let count = count_same c.args.file.now _ told.1 _ c.entries-count.ensures in
    let edition = edition_same c.args.file.now _ told.1 _ c.edition-edition.ensures in
    let start = start_same c.args.file.now _ told.1 c.contents-contents.ensures _ c.bodies_start-start.ensures in
    entries_room c.edition-edition.result c.args.file.now _ c.entries-count.result c.args.entries.now (omega arith)
    (omega (
      arith,
      (file_holds _ told.0).ends,
      start,
      ap (λ n. n * entry_length c.edition-edition.result) count,
      ap (λ ed. entry_count (rows_in c.args.file.now) * entry_length ed) edition,
    ))

pub returns : goal.returns
returns c =
    let told = giving_gives _ _ _ c.in_ok-accepted.ensures in
    let nodes = nodes_same c.args.file.now _ told.1 _ c.nodes-nodes.ensures.value in
    let count = count_same c.args.file.now _ told.1 _ c.entries-count.ensures in
    let edition = edition_same c.args.file.now _ told.1 _ c.edition-edition.ensures in
    let start = start_same c.args.file.now _ told.1 c.contents-contents.ensures _ c.bodies_start-start.ensures in
    let both = read_ensures {f = c.args.file.now} {rows = c.args.rows.now} {words = c.args.entries.now} (λ i. (c.type_inv.file i).fits)
    (record {
      answer = sym (read_filled _ _ _ told.0 _ _ _ edition nodes count (omega arith) (omega arith));
      rows_there = c.copy_rows.ensures ∙ ap (λ rs. over c.args.rows.now 0 (map row_word rs)) (rows_listed (rw told.1 at c.contents-contents.ensures)) ∙ over_start _ _;
      words_there = entries_left _ _ _ _ edition start count _ _ (entries_filled _ _ _ _ _ (omega arith) _ c.copy_entries.ensures);
    }) in
    record { read_call = both.0; written_again = both.1 }
