use Rattle.std.proofs.Common.{◌∙◌, arith}
use Rattle.level_map.proofs.InOrder.{group_start, group_stop, group_some, group_inside}
use Rattle.level_map.proofs.cuts.Cuts.group.Goals as goal

pub returns : goal.returns
returns c =
    let cuts = c.args.self.now in
    let level = c.args.level in
    let high = c.requires.1 in
    let first = group_start cuts level c.requires.0 high in
    let end = c.group_end.ensures ∙ group_stop cuts level c.requires.0 high in
    record {
      first = first;
      end = end;
      inside = (omega (arith, first, end, group_some cuts level c.requires.0 high), omega (arith, end, group_inside cuts level c.requires.0 high));
    }
