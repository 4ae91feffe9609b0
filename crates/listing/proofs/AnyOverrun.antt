-- The listing does not show overruns: it is that under the test of before, whatever overrun its late answers are given.
use Prim.Native.Nat.{ℕ}
use mathlib.Core.Path.{◌≡◌, ◌∙◌, refl, ap}
use mathlib.Core.List.{List}
use Rattle.task_model.specs.declared.Entry.{Entry}
use Rattle.task_model.specs.Limits.{entry_at}
use Rattle.completion.specs.Test.{completion_test}
use Rattle.completion.specs.WithoutOverrun.{BareCompletion, bare_on_time, bare_late, bare_test, with_overrun, bare_with}
use Rattle.completion.proofs.WithoutOverrun.{test_bare}
use Rattle.level_map.specs.Assignments.{level_of}
use Rattle.level_map.proofs.AnyOverrun.{map_any_overrun}
use Rattle.plan_file.specs.Decoding.{plan_in}
use Rattle.plan_file.specs.Check.{file_check}
use Rattle.listing.specs.Listing.{entry_text, entry_text_under, listing, listing_under}
use Rattle.listing.proofs.Agreeing.{shown, Agree, listing_agrees}

module _ (x : List Entry → (ℕ → ℕ) → ℕ → ℕ) where
  module _ (es : List Entry) (m : List ℕ) (i : ℕ) where
    shown_any : (y z : ℕ) (u : BareCompletion) → shown es m i (with_overrun y u) ≡ shown es m i (with_overrun z u)
    shown_any y z (bare_on_time time rounds) = refl
    shown_any y z (bare_late rounds) = refl

    line_any : entry_text es m i ≡ entry_text_under (bare_with x) es m i
    unfolding entry_text_under
    line_any =
        ap (shown es m i) (test_bare (entry_at es i).blocking es (level_of m) i)
        ∙ shown_any _ (x es (level_of m) i) (bare_test (entry_at es i).blocking es (level_of m) i)

  agree : Agree completion_test (bare_with x) (λ es. Unit)
  agree = record { lines = λ es h. line_any es; maps = λ es h. map_any_overrun x es; parts = λ es h k c. tt }

  pub listing_any_overrun : (f : List ℕ) → listing f ≡ listing_under (bare_with x) (file_check f) (plan_in f)
  listing_any_overrun f = listing_agrees completion_test (bare_with x) (λ es. Unit) agree (plan_in f) tt (file_check f)
