use mathlib.Core.Path.{sym}
use native.Mathlib.Omega.{arith}
use borrow.Author.Rules.{rules}
use Rattle.map_store.proofs.Lists.{length-stored}
use Rattle.map_store.proofs.Asking.{asked_short, asked_none, asked_given, has_few}
use Rattle.map_store.proofs.stored_map.Goals as goal

pub returns-then-out-count-clause-answered : goal.returns-then-out-count-clause-answered
returns-then-out-count-clause-answered c = sym (asked_short _ _ _ _ c.if-out-count.true)

pub returns-then-not-has_map-clause-answered : goal.returns-then-not-has_map-clause-answered
returns-then-not-has_map-clause-answered c = sym (asked_none _ _ _ _ (omega arith) (search rules))

pub overflow_cast-result : goal.overflow_cast-result
overflow_cast-result c = omega (arith, has_few c.args.store.now c.args.levels (search rules))

pub returns : goal.returns
returns c = record {
  answered = sym (asked_given _ _ _ _ (omega arith) (search rules));
  written = rw (length-stored c.args.store.now c.args.count) c.put_stored.ensures;
}
