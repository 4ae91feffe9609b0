use mathlib.Core.Path.{◌≡◌}
use Rattle.std.proofs.Common.{length, rules}
use Rattle.std.specs.Option.{option_to_list}
use Rattle.node_words.proofs.Changing.{list_spliced}
use Rattle.node_words.proofs.list.splice.Goals as goal

pub returns-clause-list : goal.returns-clause-list
returns-clause-list c =
    let a = c.args in
    let come : c.from-come.result ≡ length (option_to_list a.new) = search rules in
    list_spliced a.words.now c.fits-words c.told-words a.count c.requires.within.1 a.position a.gone _ c.requires.within.0 c.requires.room
    (rw (← come) c.copy_within.ensures.after) c.store_new.ensures (rw (← come) c.clear_from.ensures)
