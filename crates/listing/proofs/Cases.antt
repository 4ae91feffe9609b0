-- Case P: the listing of its file, byte for byte.
use mathlib.Core.Path.{◌≡◌, refl}
use Rattle.text.specs.Text.{text}
use Rattle.text.specs.Decimal.{digits, decimal}
use Rattle.task_model.specs.Checks.{kind_test, times_test, jitter_test, entry_check, entries_by, has_number, number_check, body_by, size_test}
use Rattle.node_words.specs.Words.{entry_from}
use Rattle.completion.specs.Demand.{ceil_div, releases, sum_to, higher_level_interference, same_level_interference, demand_with, initial_time_with}
use Rattle.completion.specs.Test.{limit, iterate, test_from, test_with}
use Rattle.plan_file.specs.Plan.{entry_count, row_of}
use Rattle.plan_file.specs.Check.{count_test, zeros_test, row_test, contents_check, bodies_by, header_by, layout_check, file_check}
use Rattle.byte_words.specs.Bytes.{word_at, words_from}
use Rattle.plan_file.specs.Decoding.{opening_test, edition_of, rows_from, entries_at}
use Rattle.plan_file.proofs.Examples.{case_p}
use Rattle.plan_file.specs.Find.{node_of_row}
use Rattle.level_map.specs.Map.{from_longest, maps_with, maps, first_of, none_late_to, pass_test, map_under}
use Rattle.listing.specs.Lines.{plan_line, node_line, no_map_line, entry_line, refused_line}
use Rattle.listing.specs.Listing.{entry_text_under, entries_text_under, node_text_under, nodes_text_under, plan_text_under, listing, listing_under}

pub listing-P : listing case_p
    ≡ text "plan 1\nnode 7 levels 2 of 2\nentry 1 level 1 time 20 rounds 1\nentry 2 level 2 time 138 rounds 2\nentry 3 level 2 time 138 rounds 2\n"
unfolding listing_under plan_text_under nodes_text_under node_text_under entries_text_under entry_text_under plan_line node_line no_map_line entry_line refused_line map_under pass_test none_late_to first_of maps maps_with from_longest node_of_row entries_at rows_from words_from word_at file_check layout_check header_by bodies_by body_by number_check has_number contents_check edition_of row_test zeros_test count_test opening_test row_of entry_count test_with limit test_from iterate initial_time_with demand_with same_level_interference higher_level_interference sum_to releases ceil_div entry_from size_test entries_by entry_check jitter_test times_test kind_test decimal digits
listing-P = refl
