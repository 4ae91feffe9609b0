-- The cases of docs/SPEC.md: every line of the table holds.
use mathlib.Core.Path.{refl}
use native.Mathlib.Omega.{arith}
use Rattle.task_model.specs.Checks.{kind_test, times_test, jitter_test, entry_check, entries_by, has_number, number_check, body_by, size_test, node_check_by}
use Rattle.task_model.proofs.Theorems.{node_accepted}
use Rattle.completion.specs.Demand.{ceil_div, releases, sum_to, higher_level_interference, same_level_interference, demand_with, initial_time_with}
use Rattle.completion.specs.Test.{limit, iterate, test_from, test_with}
use Rattle.level_map.specs.Map.{from_longest, maps_with, maps, first_of, none_late_to, pass_test, map_under}
use Rattle.level_map.specs.Cases.{All, cases, count_to, answers_to, floor_demand, one_run_demand, least_from}

-- two parts of a table
infixr 60 ◌▸◌
abbrev pub ◌▸◌ : {A B : Type 0} → A → B → A × B
◌▸◌ p q = (p, q)

-- line by line, in the table's order
pub cases_hold : All cases
unfolding cases count_to node_check_by size_test body_by number_check has_number entries_by entry_check kind_test times_test jitter_test answers_to floor_demand one_run_demand least_from map_under pass_test none_late_to first_of maps maps_with from_longest test_with limit test_from iterate initial_time_with demand_with same_level_interference higher_level_interference sum_to releases ceil_div
cases_hold =
    -- P, Q, R
    (((node_accepted 0 _).0 refl).within, refl)
    ▸ (refl, refl)
    ▸ refl
    ▸ (((node_accepted 0 _).0 refl).within, refl)
    ▸ (refl, refl)
    ▸ refl
    ▸ (((node_accepted 0 _).0 refl).within, refl)
    ▸ refl
    -- F
    ▸ (((node_accepted 0 _).0 refl).within, refl)
    ▸ refl
    ▸ (refl, refl)
    ▸ refl
    ▸ refl
    ▸ refl
    -- H
    ▸ (((node_accepted 0 _).0 refl).within, refl)
    ▸ refl
    ▸ refl
    ▸ refl
    ▸ (refl, refl)
    ▸ refl
    -- S
    ▸ (((node_accepted 0 _).0 refl).within, refl)
    ▸ refl
    ▸ (refl, refl)
    ▸ (refl, refl)
    ▸ (refl, refl)
    ▸ (refl, refl)
    -- U
    ▸ (((node_accepted 0 _).0 refl).within, refl)
    ▸ (refl, refl)
    ▸ refl
    -- V
    ▸ (((node_accepted 0 _).0 refl).within, refl)
    ▸ refl
    ▸ refl
    ▸ (refl, omega arith)
    -- E
    ▸ (((node_accepted 0 _).0 refl).within, refl)
    ▸ (refl, refl)
    ▸ (((node_accepted 0 _).0 refl).within, refl)
    ▸ (refl, refl)
    ▸ tt
