-- The figures of stores: every line of the table holds.
use mathlib.Core.Path.{refl}
use Rattle.completion.specs.Demand.{ceil_div, releases, sum_to, higher_level_interference, same_level_interference, demand_with, initial_time_with}
use Rattle.completion.specs.Test.{limit, overrun, iterate, test_from, test_with}
use Rattle.level_map.specs.Map.{from_longest, maps_with, maps, first_of, none_late_to, pass_test, map_under}
use Rattle.map_store.specs.Store.{up_to, padded, times_under, keeping, store_under, store_at_levels, has_map}
use Rattle.map_store.specs.Asking.{map_check, map_asked, time_check, time_asked}
use Rattle.map_store.specs.StoreCases.{AllStored, store_cases}

pub store_cases_hold : AllStored store_cases
unfolding store_cases map_asked map_check time_asked time_check store_at_levels has_map store_under keeping times_under padded up_to map_under pass_test none_late_to first_of maps maps_with from_longest test_with limit overrun test_from iterate initial_time_with demand_with same_level_interference higher_level_interference sum_to releases ceil_div
store_cases_hold =
    ((refl, refl, refl, refl), ((refl, refl, refl, refl), (refl, (refl, ((refl, refl, refl, refl), (refl, ((refl, refl, refl, refl), (refl, ((refl, refl, refl, refl), ((refl, refl, refl, refl), ((refl, refl, refl), ((refl, refl, refl), ((refl, refl, refl), ((refl, refl, refl), ((refl, refl, refl), ((refl, refl, refl), ((refl, refl, refl), (refl, (refl, (refl, (refl, (refl, (refl, (refl, (refl, (refl, tt))))))))))))))))))))))))))
