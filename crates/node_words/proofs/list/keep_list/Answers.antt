use Rattle.node_words.proofs.Changing.{list_kept}
use Rattle.node_words.proofs.list.keep_list.Goals as goal

pub returns : goal.returns
returns c = let a = c.args in
    list_kept a.words.now c.fits-words c.told-words a.count c.requires c.clear_from.ensures
