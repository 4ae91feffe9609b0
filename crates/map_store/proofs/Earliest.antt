-- What is known of the entries of a group once some of them are timed.
use Prim.Native.Nat.{ℕ, ◌≤◌, ◌<◌}
use mathlib.Core.Path.{◌≡◌, ◌∙◌, sym, ap}
use mathlib.Core.Logic.{by_cases}
use mathlib.Core.List.{List}
use native.Mathlib.Omega.{arith}
use native.Mathlib.Decide.{dec_le, ℕ_discrete}
use borrow.Author.Tests.{le-leb, lt-leb, eq-eqb, ne_eqb}
use lib.ListN.{length}
use Rattle.task_model.specs.declared.Entry.{Entry}
use Rattle.task_model.specs.Limits.{entry_at, AllHold}
use Rattle.completion.specs.Demand.{demand_with}
use Rattle.completion.specs.Group.{group_level}
use Rattle.completion.specs.Test.{completion_test}
use Rattle.completion.proofs.Theorems.{later_ends}
use Rattle.std.specs.Prelude.{Option, None, Some}
use Rattle.on_time.specs.Deciding.{completion_time}
use Rattle.on_time.proofs.Early.{time_given}
use Rattle.map_store.specs.declared.Known.{Known}
use Rattle.map_store.specs.Putting.{Earliest, known_time, known_next}

module _ (es : List Entry) (first last : ℕ) where
  module _ (i : ℕ) (lo : first ≤ i) (up : i ≤ last) where
    -- no entry with as much blocking ends before what is known for it
    pub known_before : (known : Option Known) → Earliest es first last known → (b : ℕ) → b ≡ (entry_at es i).blocking
        → (u : ℕ) → demand_with (entry_at es i).blocking es (group_level first last) i u ≤ u → known_time known b ≤ u
    unfolding known_time
    known_before None e b p u h = omega arith
    known_before (Some k) e b p u h =
        by_cases (dec_le k.blocking b)
        (λ y. rw (le-leb k.blocking b y, known_time) (e i lo up (omega arith) u h))
        (λ z. rw (lt-leb k.blocking b (omega arith), known_time) (omega arith))

    -- what is known once the entry at i is timed
    pub earliest_after : AllHold es → last < length es → (known : Option Known) → Earliest es first last known → (own : Entry)
        → own ≡ entry_at es i → (time : Option ℕ) → time ≡ completion_time (completion_test es (group_level first last) i)
        → Earliest es first last (known_next known own time)
    unfolding known_next
    earliest_after all inside known e own p None q = e
    earliest_after all inside known e own p (Some t) q =
        by_cases (ℕ_discrete own.calls 0)
        (λ none.
        rw (eq-eqb own.calls 0 none, known_next)
        (λ j l u b v h.
        rw (time_given _ _ q)
        (later_ends es all first last j i l u lo up inside (sym (ap (λ (x : Entry). x.calls) p) ∙ none) _ _
        (omega (arith, b, ap (λ (x : Entry). x.blocking) p)) v h)))
        (λ some. rw (ne_eqb own.calls 0 some, known_next) e)
