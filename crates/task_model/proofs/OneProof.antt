-- The limits of entries have at most one proof, so a struct may keep them.
use Prim.Native.Nat.{◌≤◌}
use mathlib.Core.Path.{◌≡◌, ap}
use mathlib.Core.Logic.{inl, inr}
use mathlib.Core.List.{List}
use Rattle.std.proofs.Props.{props}
use native.Mathlib.Omega.{arith}
use Rattle.task_model.specs.declared.Entry.{Entry}
use Rattle.task_model.specs.Limits.{KindHolds, EntryHolds, AllHold}

pub KindHolds-prop : (e : Entry) → IsProp (KindHolds e)
KindHolds-prop e (inl a) (inl b) = let p : IsProp ((e.kind ≡ 1) × (e.calls ≤ 15)) = Prim.hlevel props in ap inl (p a b)
KindHolds-prop e (inl a) (inr b) = absurd (omega arith)
KindHolds-prop e (inr a) (inl b) = absurd (omega arith)
KindHolds-prop e (inr a) (inr b) = let p : IsProp ((e.kind ≡ 2) × (e.calls ≡ 0)) = Prim.hlevel props in ap inr (p a b)

pub EntryHolds-prop : (e : Entry) → IsProp (EntryHolds e)
EntryHolds-prop e = Prim.hlevel (props, KindHolds-prop)

pub AllHold-prop : (es : List Entry) → IsProp (AllHold es)
AllHold-prop es = Prim.hlevel (props, EntryHolds-prop)
