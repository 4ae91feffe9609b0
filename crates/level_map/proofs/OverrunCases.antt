-- The figures of late entries: every line of the table holds.
use mathlib.Core.Path.{refl}
use Rattle.task_model.specs.Checks.{kind_test, times_test, jitter_test, entry_check, entries_by, has_number, number_check, body_by, size_test, node_check_by}
use Rattle.task_model.proofs.Theorems.{node_accepted}
use Rattle.completion.specs.Demand.{ceil_div, releases, sum_to, higher_level_interference, same_level_interference, demand_with, initial_time_with}
use Rattle.completion.specs.Test.{limit, overrun, iterate, test_from, test_with}
use Rattle.level_map.specs.Cases.{All, count_to}
use Rattle.level_map.specs.OverrunCases.{overrun_cases}
use Rattle.level_map.proofs.Cases.{◌▸◌}

-- line by line, in the table's order
pub overrun_cases_hold : All overrun_cases
unfolding overrun_cases count_to node_check_by size_test body_by number_check has_number entries_by entry_check kind_test times_test jitter_test test_with limit overrun test_from iterate initial_time_with demand_with same_level_interference higher_level_interference sum_to releases ceil_div
overrun_cases_hold =
    -- F
    (((node_accepted 0 _).0 refl).within, refl)
    ▸ refl
    -- R
    ▸ (((node_accepted 0 _).0 refl).within, refl)
    ▸ refl
    -- S
    ▸ (((node_accepted 0 _).0 refl).within, refl)
    ▸ refl
    ▸ refl
    ▸ refl
    -- H
    ▸ (((node_accepted 0 _).0 refl).within, refl)
    ▸ refl
    ▸ refl
    ▸ refl
    -- P
    ▸ (((node_accepted 0 _).0 refl).within, refl)
    ▸ refl
    -- a longer D
    ▸ (((node_accepted 0 _).0 refl).within, refl)
    ▸ refl
    ▸ (((node_accepted 0 _).0 refl).within, refl)
    ▸ refl
    -- on time beyond
    ▸ (((node_accepted 0 _).0 refl).within, refl)
    ▸ refl
    ▸ refl
    -- beyond 32 bits
    ▸ (((node_accepted 0 _).0 refl).within, refl)
    ▸ refl
    ▸ tt
