-- The theorems of the listing, apart from case P (Cases) and long inputs (Long).
use Prim.Native.Nat.{ℕ, ◌<◌}
use mathlib.Core.Path.{◌≡◌, ◌∙◌, ap, sym}
use mathlib.Core.Bool.{false≢true}
use mathlib.Core.Option.{some}
use mathlib.Core.List.{List, [], append-nil}
use native.Mathlib.Omega.{arith}
use lib.ListN.{length}
use Rattle.task_model.specs.declared.Entry.{Entry}
use Rattle.refusals.specs.Refusals.{accepted}
use Rattle.task_model.specs.Limits.{AllHold}
use Rattle.completion.specs.Test.{on_time, completion_test, is_on_time}
use Rattle.completion.proofs.Theorems.{by_answer, timing_right}
use Rattle.plan_file.specs.Check.{file_check}
use Rattle.plan_file.specs.Decoding.{node_count, plan_in}
use Rattle.plan_file.specs.Find.{node_of_row}
use Rattle.plan_file.proofs.Contents.{length-rows}
use Rattle.plan_file.proofs.Theorems.{nodes_hold}
use Rattle.level_map.specs.Assignments.{level_of}
use Rattle.level_map.specs.Map.{the_map}
use Rattle.level_map.proofs.Theorems.{map_best, map_empty}
use Rattle.listing.specs.Lines.{node_line}
use Rattle.listing.specs.Listing.{entry_text, node_text, listing}
use Rattle.listing.specs.Timed.{TimedLine, StandsIn}
use Rattle.listing.proofs.Texts.{entry_on_time, entries_none, node_mapped}
use Rattle.listing.proofs.Inside.{entry_in_listing}

-- Every entry of a node with a map has its line, with a time and rounds that are right.
pub entry_has_line : (es : List Entry) → AllHold es → (most : ℕ) (m : List ℕ) → the_map es most ≡ some m → (i : ℕ) → i < length es
    → TimedLine es m i
entry_has_line es all most m p i h =
    by_answer (completion_test es (level_of m) i)
    (λ t n e.
    record {
      time = t;
      rounds = n;
      line = entry_on_time es m i t n e;
      tested = e;
      right = timing_right _ es all (level_of m) i h (on_time t n) (sym e);
    })
    (λ n over e. absurd (false≢true (sym (ap is_on_time e) ∙ (map_best es all most m p).chosen.passes i h)))

-- In the listing of an accepted file, each entry of the node of row k, if it has a map, has its line.
pub listing_has_line : (f : List ℕ) → file_check f ≡ accepted → (k : ℕ) → k < node_count f → (m : List ℕ)
    → the_map (node_of_row (plan_in f) k).entries (node_of_row (plan_in f) k).levels ≡ some m
    → (i : ℕ) → i < length (node_of_row (plan_in f) k).entries
    → StandsIn (listing f) (entry_text (node_of_row (plan_in f) k).entries m i) × TimedLine (node_of_row (plan_in f) k).entries m i
listing_has_line f a k h m p i l = (
  entry_in_listing f a k (omega (arith, length-rows f 0 (node_count f))) m p i l,
  entry_has_line _ (nodes_hold f a k h).each _ m p i l,
)

-- An empty node uses 0 of its levels and has no entry line.
pub empty_node_lem : (number levels : ℕ) → node_text number (record { levels = levels; entries = [] }) ≡ node_line number 0 levels
empty_node_lem number levels =
    node_mapped number (record { levels = levels; entries = [] }) [] (map_empty levels)
    ∙ rw (entries_none [] [], append-nil)
