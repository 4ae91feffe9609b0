-- A node that is found in a file is within the limits.
use Prim.Native.Nat.{ℕ}
use mathlib.Core.Path.{◌≡◌}
use mathlib.Core.List.{List}
use native.Mathlib.Omega.{arith}
use lib.ListN.{length}
use borrow.Author.Tests.{ltb-true}
use Rattle.refusals.specs.Refusals.{accepted}
use Rattle.task_model.specs.Limits.{NodeHolds}
use Rattle.plan_file.specs.Check.{file_check}
use Rattle.plan_file.specs.Decoding.{node_count, rows_in}
use Rattle.plan_file.specs.Find.{row_of_number, find_check, node_found}
use Rattle.refusals.proofs.Outcomes.{both_accepted, demanded}
use Rattle.plan_file.proofs.Contents.{length-rows}
use Rattle.plan_file.proofs.Theorems.{nodes_hold}

pub found_holds : (f : List ℕ) (number : ℕ) → find_check f number ≡ accepted → NodeHolds (node_found f number)
unfolding find_check
found_holds f number p =
    let q = both_accepted (file_check f) _ p in
    nodes_hold f q.0 (row_of_number number (rows_in f))
    (omega (
      arith,
      ltb-true (row_of_number number (rows_in f)) (length (rows_in f)) (demanded _ _ q.1),
      length-rows f 0 (node_count f),
    ))
