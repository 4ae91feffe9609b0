use mathlib.Core.Path.{sym}
use Rattle.plan_file.proofs.Contents.{length-entries_at}
use Rattle.plan_file.proofs.layout.BodyEntryList.len.Goals as goal

pub returns : goal.returns
returns g c = let b = c.args.self.now in sym (length-entries_at g.E.Layout.edition b.file.now b.start b.count)
