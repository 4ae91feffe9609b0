use mathlib.Core.Path.{◌∙◌, ap}
use native.Mathlib.Omega.{arith}
use Rattle.std.proofs.lemmas.Result.{err_from_is_err_and}
use Rattle.node_words.specs.Words.{words_of, entries_of}
use Rattle.node_words.specs.Lists.{zero_padded}
use Rattle.session.specs.declared.Session.{Session}
use Rattle.session.specs.Operations.{setting_levels}
use Rattle.session.proofs.InWords.{asked, in_refused, part, part_ready, levels_held, levels_follow}
use Rattle.session.proofs.in_words.set_levels.Goals as goal

pub returns-in_err-check_set_levels : goal.returns-in_err-check_set_levels
returns-in_err-check_set_levels c =
    let p = err_from_is_err_and c.from_residual.result c.from_residual.ensures.1 in
    rw (p.1, p.2) (in_refused _ _ _ (asked (setting_levels c.args.levels) c.lent-lent.ensures c.in_err-check_set_levels.ensures))

pub keep_list-requires : goal.keep_list-requires
keep_list-requires c =
    let w = c.args.words.now in
    let x = setting_levels c.args.levels in
    let ready = part_ready w x (asked x c.lent-lent.ensures c.in_ok-check_set_levels.ensures) in
    let count = ap (λ (s : Session). s.count) c.lent-lent.ensures in
    omega (arith, ready.few)

pub remember_at_levels-requires : goal.remember_at_levels-requires
remember_at_levels-requires c =
    let w = c.args.words.now in
    let parts = c.split_at_mut-rest.ensures in
    let node = rw (c.unwrap.ensures, parts.back) at c.first_chunk_mut.ensures.cases in
    rw (parts.front, parts.back)
    (levels_held w (omega arith) c.args.levels (asked (setting_levels c.args.levels) c.lent-lent.ensures c.in_ok-check_set_levels.ensures)
    ((rw node.same at c.keep_list.ensures) ∙ ap (λ (s : Session). zero_padded (words_of (entries_of (part w) s.count))) c.lent-lent.ensures))

pub returns : goal.returns
returns c =
    let w = c.args.words.now in
    let parts = c.split_at_mut-rest.ensures in
    let node = rw (c.unwrap.ensures, parts.back) at c.first_chunk_mut.ensures.cases in
    let before = ap (λ (s : Session). s.levels) c.lent-lent.ensures in
    levels_follow w (omega arith) c.args.levels (asked (setting_levels c.args.levels) c.lent-lent.ensures c.in_ok-check_set_levels.ensures)
    ((rw node.same at c.keep_list.ensures) ∙ ap (λ (s : Session). zero_padded (words_of (entries_of (part w) s.count))) c.lent-lent.ensures)
    (rw (parts.front, parts.back, before) at c.remember_at_levels.ensures)
