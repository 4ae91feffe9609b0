use Prim.Native.Nat.{◌%◌}
use mathlib.Core.Path.{◌≡◌, ◌∙◌}
use Rattle.plan_file.specs.Encoding.{opening_bytes}
use Rattle.plan_file.proofs.Encoding.{header_stored, header_zeros}
use Rattle.plan_file.proofs.store.put_header.Goals as goal

pub returns : goal.returns
returns c =
    let opening : c.copy_from_slice.new.self ≡ opening_bytes c.args.edition = c.copy_from_slice.ensures.after ∙ c.opening.ensures in
    let zeros = c.fill.ensures.after (λ y e. e) in
    let three = header_zeros c.args.edition _ c.args.file.now (c.args.nodes % 256) opening c.requires in
    header_stored c.args.edition c.args.nodes _ _ c.args.file.now opening (rw three at zeros) c.requires
