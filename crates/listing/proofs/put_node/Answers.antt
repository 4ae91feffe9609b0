use Prim.Native.Nat.{ℕ, ◌*◌, ◌≤◌, ◌<◌}
use mathlib.Core.Path.{◌≡◌, ◌∙◌, refl, ap, ap₂, sym}
use mathlib.Core.Option.{some}
use mathlib.Core.List.{List, ◌++◌}
use native.Mathlib.Omega.{arith}
use lib.ListN.{length}
use Rattle.refusals.specs.Refusals.{accepted}
use Rattle.task_model.specs.Limits.{most_entries, Node, NodeHolds}
use Rattle.node_words.specs.Words.{node_of}
use Rattle.node_words.proofs.Entries.{length-entries}
use Rattle.plan_file.specs.declared.Row.{Row}
use Rattle.plan_file.specs.Decoding.{node_count, plan_in}
use Rattle.plan_file.specs.Check.{file_check}
use Rattle.plan_file.specs.Answers.{Loaded}
use Rattle.plan_file.specs.Find.{row_in, node_of_row}
use Rattle.plan_file.proofs.Contents.{row_get}
use Rattle.plan_file.proofs.Theorems.{nodes_hold}
use Rattle.level_map.specs.declared.cuts.Cuts.{Cuts}
use Rattle.level_map.specs.Map.{the_map}
use Rattle.level_map.specs.Assignments.{levels_used}
use Rattle.level_map.specs.Cuts.{levels_of_cuts, CutsOf}
use Rattle.level_map.specs.Found.{starts_in, levels_in}
use Rattle.listing.specs.Lines.{node_line}
use Rattle.listing.specs.Room.{node_most}
use Rattle.listing.specs.Listing.{entries_text, node_text}
use Rattle.listing.proofs.Lines.{upto_same, upto_more, upto_room, upto_append}
use Rattle.listing.proofs.Texts.{node_mapped, node_no_map}
use Rattle.listing.proofs.put_node.Goals as goal

-- what is known of the node in a row, by what was loaded
module _ (f : List ℕ) (a : file_check f ≡ accepted) (i : ℕ) (inside : i < node_count f) (row : Row) (old words : List ℕ)
    (loaded : Loaded f i row old words) where
  abbrev node : Node
  node = node_of words row.count row.levels

  holds : NodeHolds node
  holds = rw loaded.node (nodes_hold f a i inside)

  sized : length node.entries ≡ row.count
  sized = length-entries words 0 row.count

  few : row.count ≤ most_entries
  few = omega (arith, holds.few_entries, sized)

  named : node_text row.number node ≡ node_text (row_in (plan_in f).rows i).number (node_of_row (plan_in f) i)
  named = ap₂ node_text (ap (λ (r : Row). r.number) (loaded.row ∙ sym (row_get f (node_count f) i inside))) loaded.node

  -- and of its lines, by the cuts that were found
  lines : (c : Cuts) → CutsOf (the_map node.entries node.levels) row.count row.levels (starts_in c) → c.count ≡ row.count → (used : ℕ)
      → used ≡ length (starts_in c)
      → node_line row.number used row.levels ++ entries_text node.entries (levels_in c) row.count ≡ node_text row.number node
  lines c found e used u =
      let l : levels_in c ≡ levels_of_cuts (starts_in c) row.count = ap (levels_of_cuts (starts_in c)) e in
      let n : levels_used (levels_in c) ≡ used = ap levels_used l ∙ found.counted ∙ sym u in
      sym (node_mapped row.number node (levels_in c) (found.levels ∙ ap some (sym l)) ∙ rw (n, sized) refl)

pub invariant_of-node : goal.invariant_of-node
invariant_of-node c =
    let p = c.args.plan.now in
    let l = c.load_node-r.ensures in
    record {
      few = few p.bytes.now p.accepted c.args.row c.requires.inside c.load_node-r.result _ c.load_node-r.new.words l;
      held = (holds p.bytes.now p.accepted c.args.row c.requires.inside c.load_node-r.result _ c.load_node-r.new.words l).each;
    }

pub returns-in_default : goal.returns-in_default
returns-in_default c =
    let p = c.args.plan.now in
    let row = c.load_node-r.result in
    let named = named p.bytes.now p.accepted c.args.row c.requires.inside row _ c.load_node-r.new.words c.load_node-r.ensures in
    upto_same (sym (node_no_map row.number (node_of c.load_node-r.new.words row.count row.levels) c.in_default.ensures) ∙ named)
    (upto_more node_most (omega arith) c.put_no_map_line.ensures)

pub put_entries-requires : goal.put_entries-requires
put_entries-requires c =
    let p = c.args.plan.now in
    let row = c.load_node-r.result in
    let few = few p.bytes.now p.accepted c.args.row c.requires.inside row _ c.load_node-r.new.words c.load_node-r.ensures in
    record {
      same = c.in-Some.ensures.1;
      room = upto_room c.put_node_line.ensures (omega arith) (56 * row.count) (omega (arith, few));
    }

pub returns : goal.returns
returns c =
    let p = c.args.plan.now in
    let row = c.load_node-r.result in
    let words = c.load_node-r.new.words in
    let l = c.load_node-r.ensures in
    let few = few p.bytes.now p.accepted c.args.row c.requires.inside row _ words l in
    let named = named p.bytes.now p.accepted c.args.row c.requires.inside row _ words l in
    let found = c.in-Some.ensures in
    let lines =
    lines p.bytes.now p.accepted c.args.row c.requires.inside row _ words l c.in-Some.cuts found.0 found.1 c.groups.result c.groups.ensures in
    upto_same (lines ∙ named) (upto_more node_most (omega (arith, few)) (upto_append c.put_node_line.ensures (omega arith) c.put_entries.ensures))
