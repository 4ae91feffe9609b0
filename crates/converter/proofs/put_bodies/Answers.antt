use Prim.Native.Nat.{◌*◌}
use mathlib.Core.Path.{ap}
use native.Mathlib.Omega.{arith}
use Rattle.plan_file.specs.Encoding.{entry_length}
use Rattle.converter.specs.Conversion.{other}
use Rattle.converter.proofs.put_bodies.Goals as goal

pub put_entries-requires : goal.put_entries-requires
put_entries-requires c = let e = c.in-First.is in
    let n = c.args.count in omega (arith, ap (λ to. n * entry_length to) e, ap (λ to. n * entry_length (other to)) e)

pub put_entries-requires-in-Second : goal.put_entries-requires-in-Second
put_entries-requires-in-Second c = let e = c.in-Second.is in
    let n = c.args.count in omega (arith, ap (λ to. n * entry_length to) e, ap (λ to. n * entry_length (other to)) e)

pub returns-in-First : goal.returns-in-First
returns-in-First c = rw c.in-First.is c.put_entries.ensures

pub returns-in-Second : goal.returns-in-Second
returns-in-Second c = rw c.in-Second.is c.put_entries-in-Second.ensures
