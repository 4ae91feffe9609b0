-- The map of a session equals the map of its node in a plan file: laws, and then the theorems.
use Prim.Native.Nat.{ℕ, zero, suc, ◌≤◌, ◌<◌}
use mathlib.Core.Path.{◌≡◌, ◌∙◌, refl, ap, ap₂, sym}
use mathlib.Core.List.{List, ◌∷◌}
use native.Mathlib.Omega.{arith}
use lib.ListN.{length}
use lib.Seq.{take-length}
use Rattle.refusals.specs.Refusals.{accepted}
use Rattle.task_model.specs.Limits.{most_levels, Node, NodeValid}
use Rattle.refusals.specs.Answers.{left}
use Rattle.node_words.proofs.Entries.{length-entries}
use Rattle.plan_file.specs.Plan.{Plan, entry_count, PlanFits}
use Rattle.task_model.specs.WithoutJitter.{Punctual}
use Rattle.plan_file.specs.declared.Edition.{Edition}
use Rattle.plan_file.specs.declared.Edition.TheVariants.{First, Second}
use Rattle.plan_file.specs.Encoding.{encoding}
use Rattle.plan_file.specs.Limits.{EditionHolds}
use Rattle.plan_file.specs.Decoding.{plan_in, node_count}
use Rattle.plan_file.specs.Check.{file_check, plan_check}
use Rattle.plan_file.specs.Find.{row_in, node_of_row, find_check, node_found}
use Rattle.plan_file.proofs.Contents.{length-rows}
use Rattle.plan_file.proofs.Theorems.{write_read, accepted_exactly, plan_limits, finds, nodes_valid}
use Rattle.level_map.specs.Answer.{map_of, held_answer}
use Rattle.planner.specs.Mapping.{file_answer}
use Rattle.planner.proofs.Answers.{file_found}
use Rattle.session.specs.declared.Session.{Session}
use Rattle.session.specs.State.{node_in, Sound}
use Rattle.map_store.specs.Store.{stored_levels}
use Rattle.session.specs.Asking.{map_given}
use Rattle.session.proofs.Reading.{Kept, kept_fit, number_short}
use Rattle.session.specs.Operations.{Operation, opening, AllCallable}
use Rattle.session.specs.InWords.{session_in, words_after_all}
use Rattle.session.proofs.Theorems.{map_answers, map_writes, words_sound}
use Rattle.planner_c.specs.OneRow.{one_row}

-- the node of any row of an accepted file, mapped under the number of that row
module _ (f : List ℕ) (a : file_check f ≡ accepted) (i number : ℕ) (has : i < length (plan_in f).rows)
    (named : (row_in (plan_in f).rows i).number ≡ number) where
  found : (find_check f number ≡ accepted) × (node_found f number ≡ node_of_row (plan_in f) i)
  found = finds f a number i has named

  row_answer : (room : ℕ) → file_answer f number room ≡ held_answer (node_of_row (plan_in f) i) room
  row_answer room = file_found f number found.0 room ∙ ap (λ n. held_answer n room) found.1

  row_valid : NodeValid (node_of_row (plan_in f) i)
  row_valid = nodes_valid f a i (omega (arith, length-rows f 0 (node_count f)))

-- a node within the limits, with each number once and numbers of 16 bits, is a plan of one row that the writer accepts in an
-- edition that has a place for all that its entries have
module _ (ed : Edition) (n : Node) (k : Kept n) (number : ℕ) (short : number < 65536) (placed : EditionHolds ed (one_row number n)) where
  one_fits : PlanFits (one_row number n)
  one_fits =
      record {
        rows = (
          record {
            number = short;
            levels = omega (arith, k.valid.within.few_levels);
            count = omega (arith, k.valid.within.few_entries);
          },
          tt,
        );
        entries = kept_fit n k;
      }

  only_node : node_of_row (one_row number n) 0 ≡ n
  unfolding node_of_row entry_count
  only_node = ap (λ es. record { levels = n.levels; entries = es }) (take-length n.entries)

  each_valid : (i : ℕ) → i < 1 → NodeValid (node_of_row (one_row number n) i)
  each_valid zero h = rw only_node k.valid
  each_valid (suc i) h = absurd (omega arith)

  counted : entry_count (one_row number n).rows ≡ length n.entries
  unfolding entry_count
  counted = omega arith

  one_accepted : plan_check ed (one_row number n) ≡ accepted
  one_accepted =
      (plan_limits ed (one_row number n)).1 (
        record {
          some = omega arith;
          few = omega arith;
          rising = λ i h. absurd (omega arith);
          nodes = each_valid;
          counts = counted;
        },
        placed,
      )

  -- its file, whose only row has the node
  abbrev file : List ℕ
  file = encoding ed (one_row number n)

  one_file : file_check file ≡ accepted
  one_file = ((accepted_exactly file).1 (ed, one_row number n, one_fits, one_accepted, refl)).1

  one_plan : plan_in file ≡ one_row number n
  one_plan = (write_read ed (one_row number n) one_fits one_accepted).0

  one_row_lem : 0 < length (plan_in file).rows
  one_row_lem = omega (arith, ap (λ (p : Plan). length p.rows) one_plan)

  one_number : (row_in (plan_in file).rows 0).number ≡ number
  one_number = ap (λ (p : Plan). (row_in p.rows 0).number) one_plan

  one_node : node_of_row (plan_in file) 0 ≡ n
  one_node = ap (λ (p : Plan). node_of_row p 0) one_plan ∙ only_node

-- what words hold has numbers of 16 bits
kept_in : (s : Session) → NodeValid (node_in s) → Kept (node_in s)
kept_in s h =
    record { valid = h; short = λ j l. number_short s.words s.count j (omega (arith, length-entries s.words 0 s.count)) }

-- The map of a session that opening and operations made is that of the same node in a file: in any accepted file, at any row
-- that holds this node, mapped under that row's number. Answer, count and bytes are the same.
module _ (s : Session) (h : Sound s) (f : List ℕ) (a : file_check f ≡ accepted) (i number : ℕ) (has : i < length (plan_in f).rows)
    (named : (row_in (plan_in f).rows i).number ≡ number) (same : node_of_row (plan_in f) i ≡ node_in s) where
  -- Mapping the file answers as mapping the session does.
  pub file_answers : (room : ℕ) → file_answer f number room ≡ map_given s room
  file_answers room = row_answer f a i number has named room ∙ ap (λ n. held_answer n room) same ∙ sym (map_answers s h room)

  -- And it leaves any buffer as mapping the session does.
  pub file_writes : (buffer : List ℕ)
      → left (file_answer f number (length buffer)) (map_of (node_found f number)) buffer
      ≡ left (map_given s (length buffer)) (stored_levels s.store s.count) buffer
  file_writes buffer =
      ap₂ (λ x n. left x (map_of n) buffer) (row_answer f a i number has named (length buffer)) (found f a i number has named).1
      ∙ ap (λ n. left (held_answer n (length buffer)) (map_of n) buffer) same
      ∙ sym (map_writes s h buffer)

-- There is such a file, under any number: that of the node as a plan of one row, which the writer accepts in the second
-- edition, and in the first if every J is 0.
module _ (ed : Edition) (s : Session) (h : Sound s) (number : ℕ) (short : number < 65536)
    (placed : EditionHolds ed (one_row number (node_in s))) where
  kept : Kept (node_in s)
  kept = kept_in s h.valid

  -- The writer accepts that plan.
  pub one_row_written : plan_check ed (one_row number (node_in s)) ≡ accepted
  one_row_written = one_accepted ed (node_in s) kept number short placed

  -- Its file is accepted, and its only row has the number and the node.
  pub one_row_read : (file_check (encoding ed (one_row number (node_in s))) ≡ accepted)
      × (0 < length (plan_in (encoding ed (one_row number (node_in s)))).rows)
      × ((row_in (plan_in (encoding ed (one_row number (node_in s)))).rows 0).number ≡ number)
      × (node_of_row (plan_in (encoding ed (one_row number (node_in s)))) 0 ≡ node_in s)
  one_row_read = (
    one_file ed (node_in s) kept number short placed,
    one_row_lem ed (node_in s) kept number short placed,
    one_number ed (node_in s) kept number short placed,
    one_node ed (node_in s) kept number short placed,
  )

  -- Mapping that file answers as mapping the session does.
  pub one_row_answers : (room : ℕ) → file_answer (encoding ed (one_row number (node_in s))) number room ≡ map_given s room
  one_row_answers =
      let r = one_row_read in file_answers s h (encoding ed (one_row number (node_in s))) r.0 0 number r.1 r.2 r.3

  -- And it leaves any buffer as mapping the session does.
  pub one_row_writes : (buffer : List ℕ)
      → left (file_answer (encoding ed (one_row number (node_in s))) number (length buffer))
      (map_of (node_found (encoding ed (one_row number (node_in s))) number)) buffer
      ≡ left (map_given s (length buffer)) (stored_levels s.store s.count) buffer
  one_row_writes =
      let r = one_row_read in file_writes s h (encoding ed (one_row number (node_in s))) r.0 0 number r.1 r.2 r.3

-- The second edition has a place for every node, and the first for a node without jitter.
pub second_placed : (number : ℕ) (n : Node) → EditionHolds Second (one_row number n)
second_placed number n j l = tt

pub first_placed : (number : ℕ) (n : Node) → Punctual n.entries → EditionHolds First (one_row number n)
first_placed number n h = h

-- So the map of a session, in any buffer, is that of the same node in a file of the second edition,
pub second_maps : (s : Session) → Sound s → (number : ℕ) → number < 65536 → (buffer : List ℕ)
    → (file_answer (encoding Second (one_row number (node_in s))) number (length buffer) ≡ map_given s (length buffer))
    × (left (file_answer (encoding Second (one_row number (node_in s))) number (length buffer))
    (map_of (node_found (encoding Second (one_row number (node_in s))) number)) buffer
    ≡ left (map_given s (length buffer)) (stored_levels s.store s.count) buffer)
second_maps s h number short buffer =
    let placed = second_placed number (node_in s) in (
      one_row_answers Second s h number short placed (length buffer),
      one_row_writes Second s h number short placed buffer,
    )

-- and that in a file of the first edition if every J is 0.
pub first_maps : (s : Session) → Sound s → (number : ℕ) → number < 65536 → Punctual (node_in s).entries → (buffer : List ℕ)
    → (file_answer (encoding First (one_row number (node_in s))) number (length buffer) ≡ map_given s (length buffer))
    × (left (file_answer (encoding First (one_row number (node_in s))) number (length buffer))
    (map_of (node_found (encoding First (one_row number (node_in s))) number)) buffer
    ≡ left (map_given s (length buffer)) (stored_levels s.store s.count) buffer)
first_maps s h number short punctual buffer =
    let placed = first_placed number (node_in s) punctual in (
      one_row_answers First s h number short placed (length buffer),
      one_row_writes First s h number short placed buffer,
    )

-- So it is with the words that a caller lends, after the opening and any row of operations, whatever they held before.
pub words_map : (levels : ℕ) → 1 ≤ levels → levels ≤ most_levels → (os : List Operation) → AllCallable os → (w : List ℕ)
    → (number : ℕ) → number < 65536 → (buffer : List ℕ)
    → let s = session_in (words_after_all (opening levels ∷ os) w) in
    (file_answer (encoding Second (one_row number (node_in s))) number (length buffer) ≡ map_given s (length buffer))
    × (left (file_answer (encoding Second (one_row number (node_in s))) number (length buffer))
    (map_of (node_found (encoding Second (one_row number (node_in s))) number)) buffer
    ≡ left (map_given s (length buffer)) (stored_levels s.store s.count) buffer)
words_map levels low few os call w number short buffer = second_maps _ (words_sound levels low few os call w) number short buffer
