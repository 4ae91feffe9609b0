-- What the types of the values that are passed say: a session has as many words as a node and a store, and the number of an
-- entry has 16 bits.
use Prim.Native.Nat.{◌<◌}
use denote.Laws.{Is}
use denote.Struct.Laws as LL
use Rattle.task_model.specs.declared.Entry.{Entry}
use Rattle.task_model.specs.contracts.Entry as TE
use Rattle.task_model.proofs.Entry.TheLaws as TE'
use Rattle.session.specs.declared.Session.{Session}
use Rattle.session.specs.contracts.Session as T
use Rattle.session.proofs.Session.TheLaws as T'
use Rattle.session.proofs.InWords.{Sized}

pub held_sized : (s : Session) → Is T.the_row s (LL.vals T.the_type T'.the_laws s) → Sized s
held_sized s is =
    let o = (LL.owed T.the_type T'.the_laws s _ is).1.1 in
    record {
      node = o.0.1.0.1;
      store = o.1.0.1.0.1;
    }

pub held_number : (e : Entry) → Is TE.the_row e (LL.vals TE.the_type TE'.the_laws e) → e.number < 65536
held_number e is = (LL.owed TE.the_type TE'.the_laws e _ is).0.1
