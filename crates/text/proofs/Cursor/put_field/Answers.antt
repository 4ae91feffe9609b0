use native.Mathlib.Omega.{arith}
use Rattle.text.proofs.Writing.{wrote_then}
use Rattle.text.proofs.Cursor.put_field.Goals as goal

pub returns : goal.returns
returns c = wrote_then c.put_bytes.ensures (omega arith) c.put_number.ensures
