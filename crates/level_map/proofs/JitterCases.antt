-- The figures of entries that start late: every line of the table holds.
use mathlib.Core.Path.{refl}
use Rattle.task_model.specs.Checks.{kind_test, times_test, jitter_test, entry_check, entries_by, has_number, number_check, body_by, size_test, node_check_by}
use Rattle.task_model.proofs.Theorems.{node_accepted}
use Rattle.completion.specs.Demand.{ceil_div, releases, sum_to, higher_level_interference, same_level_interference, demand_with, initial_time_with}
use Rattle.completion.specs.Test.{limit, overrun, iterate, test_from, test_with, rounds_bound}
use Rattle.level_map.specs.Map.{from_longest, maps_with, maps, first_of, none_late_to, pass_test, map_under}
use Rattle.level_map.specs.Cases.{All, count_to, answers_to}
use Rattle.level_map.specs.JitterCases.{jitter_cases}
use Rattle.level_map.proofs.Cases.{◌▸◌}

-- line by line, in the table's order
pub jitter_cases_hold : All jitter_cases
unfolding jitter_cases rounds_bound count_to node_check_by size_test body_by number_check has_number entries_by entry_check kind_test times_test jitter_test answers_to map_under pass_test none_late_to first_of maps maps_with from_longest test_with limit overrun test_from iterate initial_time_with demand_with same_level_interference higher_level_interference sum_to releases ceil_div
jitter_cases_hold =
    -- P
    (((node_accepted 0 _).0 refl).within, refl)
    ▸ (refl, refl)
    ▸ refl
    ▸ (((node_accepted 0 _).0 refl).within, refl)
    ▸ refl
    -- two entries
    ▸ (((node_accepted 0 _).0 refl).within, refl)
    ▸ refl
    ▸ refl
    ▸ (((node_accepted 0 _).0 refl).within, refl)
    ▸ refl
    ▸ refl
    ▸ refl
    ▸ (refl, refl)
    -- V
    ▸ (((node_accepted 0 _).0 refl).within, refl)
    ▸ refl
    ▸ refl
    ▸ refl
    ▸ (((node_accepted 0 _).0 refl).within, refl)
    ▸ refl
    -- beside
    ▸ (((node_accepted 0 _).0 refl).within, refl)
    ▸ refl
    ▸ (((node_accepted 0 _).0 refl).within, refl)
    ▸ refl
    -- H
    ▸ (((node_accepted 0 _).0 refl).within, refl)
    ▸ (refl, refl)
    ▸ (((node_accepted 0 _).0 refl).within, refl)
    ▸ refl
    ▸ (((node_accepted 0 _).0 refl).within, refl)
    ▸ refl
    ▸ (((node_accepted 0 _).0 refl).within, refl)
    ▸ refl
    -- refused
    ▸ refl
    ▸ tt
