use mathlib.Core.Path.{◌∙◌, ap}
use native.Mathlib.Omega.{arith}
use Rattle.task_model.specs.declared.Entry.{Entry}
use Rattle.plan_file.proofs.Numbering.{part_inside, part_entry}
use Rattle.plan_file.proofs.layout.BodyEntryList.number.Goals as goal

pub overflow_mul-position : goal.overflow_mul-position
overflow_mul-position g c =
    let b = c.args.self.now in
    omega (arith, part_inside g.E.Layout.edition b.file.now b.start b.count c.args.position _ c.requires (c.ENTRY_BYTES.ensures ∙ g.met.E.Layout.entry_bytes) b.inside)

pub overflow_add-self : goal.overflow_add-self
overflow_add-self g c =
    let b = c.args.self.now in
    omega (arith, part_inside g.E.Layout.edition b.file.now b.start b.count c.args.position _ c.requires (c.ENTRY_BYTES.ensures ∙ g.met.E.Layout.entry_bytes) b.inside)

pub number_at-requires : goal.number_at-requires
number_at-requires g c =
    let b = c.args.self.now in
    part_inside g.E.Layout.edition b.file.now b.start b.count c.args.position _ c.requires (c.ENTRY_BYTES.ensures ∙ g.met.E.Layout.entry_bytes) b.inside

pub returns : goal.returns
returns g c =
    let b = c.args.self.now in
    c.number_at.ensures ∙ ap (λ (e : Entry). e.number) (part_entry g.E.Layout.edition b.file.now b.start b.count c.args.position _ c.requires (c.ENTRY_BYTES.ensures ∙ g.met.E.Layout.entry_bytes))
