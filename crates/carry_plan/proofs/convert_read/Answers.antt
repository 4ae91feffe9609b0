use Prim.Native.Nat.{ℕ}
use mathlib.Core.Path.{◌≡◌, ◌∙◌}
use mathlib.Core.List.{List}
use native.Mathlib.Omega.{arith}
use lib.ListN.{take}
use Rattle.text.proofs.Writing.{shown_front}
use Rattle.plan_file.specs.declared.Edition.{Edition}
use Rattle.plan_file.specs.declared.input.Input.{Input}
use Rattle.plan_file.specs.Input.{InputOf}
use Rattle.carry_plan.proofs.Writes.{Alike, read_alike, converted_writes, nothing_writes}
use Rattle.carry_plan.proofs.convert_read.Goals as goal

-- what was read is converted as the whole input is
whole : (to : Edition) (read : Input) (bytes : List ℕ) → bytes ≡ take read.count read.array.now → (input : List ℕ) → InputOf input read
    → Alike to bytes input
whole to read bytes e input p = rw e (read_alike to input read.array.now read.count (omega arith) p)

pub shared_ref_as_front-result : goal.shared_ref_as_front-result
shared_ref_as_front-result c = let w = converted_writes (omega arith) c.in-Ok.ensures.convert_call in omega (arith, w.0)

pub returns-in-Ok : goal.returns-in-Ok
returns-in-Ok c =
    let w = converted_writes (omega arith) c.in-Ok.ensures.convert_call in
    let alike = whole c.args.to c.args.read.now _ c.bytes.ensures in
    record {
      file = λ input p. w.1 ∙ (alike input p).output;
      line = λ input p. w.2 ∙ (alike input p).error;
    }

pub returns-in-Err : goal.returns-in-Err
returns-in-Err c =
    let w = nothing_writes (omega arith) c.in-Err.ensures.convert_call in
    let l = c.put_refused_line-length.ensures in
    let alike = whole c.args.to c.args.read.now _ c.bytes.ensures in
    record {
      file = λ input p. w.0 ∙ (alike input p).output;
      line = λ input p. shown_front _ l.size l.buffer ∙ w.1 ∙ (alike input p).error;
    }
