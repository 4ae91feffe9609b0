use native.Mathlib.Omega.{arith}
use mathlib.Core.Path.{◌∙◌, sym, ap, subst}
use Rattle.task_model.specs.Limits.{NodeHolds}
use Rattle.session.specs.declared.Session.{Session}
use Rattle.session.specs.State.{node_in}
use Rattle.session.specs.Lent.{remembered}
use Rattle.session.specs.InWords.{words_in}
use Rattle.session.proofs.InWords.{splice_back}
use Rattle.session.proofs.in_words.splice.Goals as goal

pub remember-requires : goal.remember-requires
remember-requires c =
    let a = c.args in
    let parts = c.split_at_mut-rest.ensures in
    let node = rw (c.unwrap.ensures, parts.back) at c.first_chunk_mut.ensures.cases in
    let e = splice_back a.words.now (omega arith) a.position a.gone _ c.requires.within.0 c.requires.few _ _ c.splice-left.ensures.left (rw node.same at c.splice-left.ensures.list) in
    rw (parts.front, parts.back) (subst (λ (s : Session). NodeHolds (node_in s)) (sym e) c.requires.held)

pub returns : goal.returns
returns c =
    let a = c.args in
    let parts = c.split_at_mut-rest.ensures in
    let node = rw (c.unwrap.ensures, parts.back) at c.first_chunk_mut.ensures.cases in
    let e = splice_back a.words.now (omega arith) a.position a.gone _ c.requires.within.0 c.requires.few _ _ c.splice-left.ensures.left (rw node.same at c.splice-left.ensures.list) in
    c.remember.ensures ∙ rw (parts.front, parts.back) (ap (λ (s : Session). words_in (remembered s)) e)
