-- Mapping a session that is lent as words gives the stored map.
use Prim.Native.Nat.{ℕ}
use mathlib.Core.Path.{◌≡◌, ◌∙◌, ap}
use mathlib.Core.List.{List}
use lib.ListN.{length}
use Rattle.std.specs.Prelude.{Result}
use Rattle.refusals.specs.declared.Refusal.{Refusal}
use Rattle.refusals.specs.Answers.{answered, left}
use Rattle.level_map.specs.Answer.{NodeBestMapOrNone}
use Rattle.map_store.specs.Store.{stored_levels}
use Rattle.session.specs.declared.Session.{Session}
use Rattle.session.specs.State.{node_in, Sound}
use Rattle.session.specs.Asking.{map_given}
use Rattle.session.specs.Mapping.{Maps}
use Rattle.planner_c.specs.Returned.{Returned, sized}

module _ (s : Session) (buffer : List ℕ) {a : Result ℕ Refusal} {after : List ℕ} (h : Maps s buffer a after) where
  pub map_returned : (r : Returned) → r ≡ sized (answered a) → r ≡ sized (map_given s (length buffer))
  map_returned r p = p ∙ ap sized h.answers

  pub map_buffer : after ≡ left (map_given s (length buffer)) (stored_levels s.store s.count) buffer
  map_buffer = rw h.answers at h.written

  pub map_best : Sound s → NodeBestMapOrNone (node_in s) buffer (map_given s (length buffer)) after
  map_best sound = rw h.answers at (h.best sound)
