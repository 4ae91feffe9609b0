use Rattle.std.proofs.Common.{arith, rules, add-one}
use Rattle.level_map.specs.Found.{levels_in}
use Rattle.level_map.proofs.Filled.{written_none, written_all}
use Rattle.level_map.proofs.InOrder.{levels_count, first_start, no_group}
use Rattle.level_map.proofs.LevelsWritten.{level_written, last_written}
use Rattle.level_map.proofs.cuts.Cuts.write_levels.Goals as goal

pub loop-level-init : goal.loop-level-init
loop-level-init c = rw (← first_start c.args.self.now) (written_none (levels_in c.args.self.now) c.args.out.now)

pub loop-level-preserved : goal.loop-level-preserved
loop-level-preserved c =
    let l = c.loop-level in
    let g = c.group-group in
    rw (add-one l.level, ← g.ensures.end)
    (level_written c.args.self.now c.args.out.now l.level g.result.first g.result.end l.out _ g.ensures.first g.ensures.end (omega arith) (omega arith) (search rules) l.invariant)

pub returns : goal.returns
returns c =
    let cuts = c.args.self.now in
    let l = c.loop-level in
    let all = no_group cuts _ l.level c.groups-groups.ensures c.loop-level-test.false l.auto.level-end in
    written_all (levels_in cuts) c.args.out.now cuts.count l.out (levels_count cuts) c.requires (rw all at l.invariant)

pub returns-2 : goal.returns-2
returns-2 c =
    let l = c.loop-level in
    let g = c.group-group in
    last_written c.args.self.now c.args.out.now l.level g.result.first g.result.end l.out _ g.ensures.first g.ensures.end (omega arith) (omega arith) (search rules) l.invariant
    (omega (arith, c.groups-groups.ensures)) c.requires
