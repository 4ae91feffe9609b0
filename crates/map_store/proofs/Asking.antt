-- Laws of asking a store, one for each of its checks.
use Prim.Native.Nat.{ℕ, ◌≤◌, ◌<◌}
use mathlib.Core.Path.{◌≡◌}
use mathlib.Core.Bool.{true, false}
use mathlib.Core.Logic.{◌≢◌}
use mathlib.Core.List.{List}
use lib.ListN.{get_or}
use lib.Dec.{leb, eqb}
use borrow.Author.Tests.{le-leb, lt-leb, lt-ltb, le-ltb, eq-eqb, ne_eqb, leb-true}
use Rattle.task_model.proofs.Tests.{and_true}
use Rattle.refusals.specs.Refusals.{at}
use Rattle.refusals.specs.Answers.{gives, refuses}
use Rattle.map_store.specs.Store.{has_map, stored_used, stored_time}
use Rattle.map_store.specs.Asking.{map_check, map_asked, time_check, time_asked}

module _ (store : List ℕ) (levels : ℕ) where
  -- by the first word, and then by the second
  pub has_one : get_or store 0 0 ≡ 1 → has_map store levels ≡ leb (get_or store 1 0) levels
  unfolding has_map
  has_one p = rw (eq-eqb (get_or store 0 0) 1 p)

  pub has_none : get_or store 0 0 ≢ 1 → has_map store levels ≡ false
  unfolding has_map
  has_none p = rw (ne_eqb (get_or store 0 0) 1 p)

  -- a map that there is uses no more levels than that
  pub has_few : has_map store levels ≡ true → stored_used store ≤ levels
  unfolding has_map
  has_few p = leb-true (stored_used store) levels (and_true (eqb (get_or store 0 0) 1) (leb (stored_used store) levels) p).1

  module _ (count room : ℕ) where
    pub asked_short : room < count → map_asked store levels count room ≡ refuses (at 10 0 0)
    unfolding map_asked map_check
    asked_short h = rw (lt-leb count room h)

    pub asked_none : count ≤ room → has_map store levels ≡ false → map_asked store levels count room ≡ refuses (at 11 0 0)
    unfolding map_asked map_check
    asked_none h p = rw (le-leb count room h, p)

    pub asked_given : count ≤ room → has_map store levels ≡ true → map_asked store levels count room ≡ gives (stored_used store)
    unfolding map_asked map_check
    asked_given h p = rw (le-leb count room h, p)

  module _ (count i : ℕ) where
    pub timed_outside : count ≤ i → time_asked store levels count i ≡ refuses (at 12 0 0)
    unfolding time_asked time_check
    timed_outside h = rw (le-ltb i count h)

    pub timed_none : i < count → has_map store levels ≡ false → time_asked store levels count i ≡ refuses (at 11 0 0)
    unfolding time_asked time_check
    timed_none h p = rw (lt-ltb i count h, p)

    pub timed_given : i < count → has_map store levels ≡ true → time_asked store levels count i ≡ gives (stored_time store i)
    unfolding time_asked time_check
    timed_given h p = rw (lt-ltb i count h, p)
