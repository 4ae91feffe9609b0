use Rattle.std.proofs.Common.{◌≡◌, refl, [], take, drop, length, arith}
use lib.ListN.{length-set}
use lib.Seq.{length-take-le}
use Rattle.std.proofs.lemmas.List.{drop_all}
use Rattle.std.proofs.lemmas.Grind.{common_steps}
use Rattle.map_store.proofs.Lists.{stored_none, stored_next}
use Rattle.map_store.proofs.put_stored.Goals as goal

pub loop-position-init : goal.loop-position-init
loop-position-init c = (refl, stored_none _ _)

pub loop-position-preserved : goal.loop-position-preserved
loop-position-preserved c = (
  simp length-set c.loop-position.invariant.0,
  stored_next c.args.store.now _ c.loop-position.position _ (omega (arith, c.loop-position.invariant.0)) c.loop-position.invariant.1,
)

pub returns : goal.returns
returns c =
    let out = c.args.out.now in
    let n = c.args.count in
    let l = c.loop-position in
    let part : length (take n out) ≡ n = length-take-le n out (omega (arith, c.requires)) in
    let e : l.position ≡ n = omega (arith, part) in
    let none : drop n (take n out) ≡ [] = drop_all n (take n out) (omega (arith, part)) in
    let all = rw e at l.invariant.1 in
    grind (arith, common_steps, none, all)
