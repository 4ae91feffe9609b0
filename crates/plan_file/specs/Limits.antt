-- The limits of a plan, stated without the checks.
use Rattle.std.specs.Prelude.{ℕ, suc, ◌+◌, ◌*◌, ◌%◌, ◌≤◌, ◌<◌, ◌≡◌, List, length}
use Rattle.task_model.specs.declared.Entry.{Entry}
use Rattle.task_model.specs.Limits.{most_entries, entry_at, NodeValid}
use Rattle.node_words.specs.Words.{entry_size}
use Rattle.plan_file.specs.declared.Edition.{Edition}
use Rattle.plan_file.specs.declared.Edition.TheVariants.{First, Second}
use Rattle.plan_file.specs.Plan.{most_nodes, Plan, PlanFits, entry_count, plan_of}
use Rattle.plan_file.specs.Encoding.{entry_length, bodies_start, encoding}
use Rattle.plan_file.specs.Find.{row_in, node_of_row}

-- A plan within the limits: 1 to 32 rows, node numbers that rise from row to row, each node within its limits and with each
-- entry number once, and rows that count as many entries as there are.
pub record PlanHolds (p : Plan) : Type 0 where
  pub some : 1 ≤ length p.rows
  pub few : length p.rows ≤ most_nodes
  pub rising : (i : ℕ) → suc i < length p.rows → (row_in p.rows i).number < (row_in p.rows (suc i)).number
  pub nodes : (i : ℕ) → i < length p.rows → NodeValid (node_of_row p i)
  pub counts : entry_count p.rows ≡ length p.entries

-- An edition has a place for all that an entry has: the first has none for J, which must be 0.
abbrev pub EditionFits : Edition → Entry → Type 0
EditionFits First e = e.jitter ≡ 0
EditionFits Second e = Unit

-- And for every entry of a plan.
abbrev pub EditionHolds : Edition → Plan → Type 0
EditionHolds ed p = (j : ℕ) → j < length p.entries → EditionFits ed (entry_at p.entries j)

-- A list of bytes is the file, in some edition, of some plan that is within the limits and whose fields fit the file's
-- widths.
abbrev pub IsPlanFile : List ℕ → Type 0
IsPlanFile f = (ed : Edition) × (p : Plan) × PlanFits p × PlanHolds p × EditionHolds ed p × (encoding ed p ≡ f)

-- The words of rows and the words of entries hold a plan within the limits, and of the edition, with no part of an entry
-- left over.
abbrev pub IsPlanInMemory : Edition → List ℕ → List ℕ → Type 0
IsPlanInMemory ed rs ws = PlanHolds (plan_of rs ws) × EditionHolds ed (plan_of rs ws) × (length ws % entry_size ≡ 0)

-- The most bytes of a file, with 32 nodes of 64 entries: 41,224 in the first edition, 49,416 in the second.
abbrev pub longest : Edition → ℕ
longest ed = bodies_start most_nodes + most_nodes * most_entries * entry_length ed
