-- The bytes of an accepted file.
use Rattle.std.specs.Prelude.{ℕ, List}
use Rattle.plan_file.specs.declared.checked.PlanFile.{PlanFile}

abbrev pub bytes_of : PlanFile → List ℕ
bytes_of f = f.bytes.now
