use mathlib.Core.Path.{sym}
use native.Mathlib.Omega.{arith}
use Rattle.std.proofs.lemmas.Result.{err_from_is_err_and}
use Rattle.session.specs.Lent.{session_lent}
use Rattle.session.proofs.Mapping.{maps_forged, maps_held, found_within, found_few}
use Rattle.session.proofs.lent.LentSession.map.Goals as goal

pub returns-in_err-check : goal.returns-in_err-check
returns-in_err-check c =
    let p = err_from_is_err_and c.from_residual.result c.from_residual.ensures.1 in
    rw (p.1, p.2) (maps_forged _ _ _ (sym c.in_err-check.ensures))

pub overflow_cast-self : goal.overflow_cast-self
overflow_cast-self c = omega (arith, (found_within (session_lent c.args.self.now) c.in_ok-check.ensures).few_levels)

pub stored_map-requires : goal.stored_map-requires
stored_map-requires c = omega (arith, found_few (session_lent c.args.self.now) c.in_ok-check.ensures)

pub returns : goal.returns
returns c = maps_held _ _ (sym c.in_ok-check.ensures) _ _ c.stored_map.ensures.answered c.stored_map.ensures.written
