use mathlib.Core.Path.{refl}
use Rattle.plan_file.proofs.Numbering.{entry_fields_lem}
use Rattle.plan_file.proofs.layout.entry_at.Goals as goal

pub returns : goal.returns
returns g c =
    entry_fields_lem c.args.file.now (λ i. (c.type_inv.file i).fits) c.args.k _ refl refl c.word_at.ensures c.word_at-2.ensures c.word_at-3.ensures
    c.word_at-4.ensures g.E.Layout.edition c.number_at.ensures c.jitter.ensures
