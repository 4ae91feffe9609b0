use Rattle.std.proofs.Common.{◌≡◌, ◌<◌, ◌^◌, ap, arith}
use Rattle.node_words.specs.Words.{entry_of}
use Rattle.completion.specs.Demand.{sum_to}
use Rattle.completion.proofs.Sums.{sum_to-more}
use Rattle.completion.proofs.entry_sums.sum_over.Goals as goal

pub loop-position-preserved : goal.loop-position-preserved
loop-position-preserved g c =
    let l = c.loop-position in
    let small : c.part-sum.result < 2 ^ 32 = c.requires.small _ _ c.part-sum.ensures in
    record {
      fits = omega (arith, l.invariant.fits, small);
      summed = λ f h.
          let part : c.part-sum.result ≡ f (entry_of c.args.node.now.words.now l.position) = rw c.entry.ensures at (h _ _ c.part-sum.ensures) in
          omega (arith, part, l.invariant.summed f h, sum_to-more (λ j. f (entry_of c.args.node.now.words.now j)) l.position);
    }

pub returns : goal.returns
returns g c =
    let l = c.loop-position in
    let whole : l.position ≡ c.args.end = omega arith in
    record {
      fits = omega (arith, l.invariant.fits);
      value = λ f h. omega (arith, l.invariant.summed f h, ap (sum_to (λ j. f (entry_of c.args.node.now.words.now j))) whole);
    }
