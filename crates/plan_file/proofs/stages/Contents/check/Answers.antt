use mathlib.Core.Path.{◌∙◌, sym}
use native.Mathlib.Omega.{arith}
use borrow.Author.Tests.{not-true, not-false}
use Rattle.plan_file.proofs.Header.{header_short, header_opening, header_count, header_cut, header_accepted}
use Rattle.plan_file.proofs.stages.Contents.check.Goals as goal

pub returns-then-file-lt-HEADER_BYTES : goal.returns-then-file-lt-HEADER_BYTES
returns-then-file-lt-HEADER_BYTES c = rw (header_short c.args.file.now (omega arith))

pub returns-then-not-opens_known : goal.returns-then-not-opens_known
returns-then-not-opens_known c = rw (header_opening c.args.file.now (omega arith) (sym c.opens_known.ensures ∙ not-true _ c.if-not-opens_known.true-raw))

pub returns-then-not-counted : goal.returns-then-not-counted
returns-then-not-counted c = rw (header_count c.args.file.now (omega arith) (sym c.opens_known.ensures ∙ not-false _ c.if-not-opens_known.false-raw) (sym c.counted.ensures ∙ not-true _ c.if-not-counted.true-raw))

pub returns-then-file-bodies_start : goal.returns-then-file-bodies_start
returns-then-file-bodies_start c = rw (header_cut c.args.file.now (omega arith) (sym c.opens_known.ensures ∙ not-false _ c.if-not-opens_known.false-raw) (sym c.counted.ensures ∙ not-false _ c.if-not-counted.false-raw) (omega arith))

pub returns : goal.returns
returns c = rw (header_accepted c.args.file.now (omega arith) (sym c.opens_known.ensures ∙ not-false _ c.if-not-opens_known.false-raw) (sym c.counted.ensures ∙ not-false _ c.if-not-counted.false-raw) (omega arith), ← c.nodes-nodes.ensures.0)
