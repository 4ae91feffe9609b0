-- The listing of a file as it was before there was a second edition and entries had a jitter, but for the check of numbers (16),
-- which came later.
use Rattle.std.specs.Prelude.{ℕ, List}
use Rattle.completion.specs.WithoutJitter.{punctual_test}
use Rattle.plan_file.specs.FirstEdition.{first_edition_check, first_edition_plan}
use Rattle.listing.specs.Listing.{listing_under}

-- The file is checked and read as one of the first edition, and its entries are timed without J.
unfoldable pub first_edition_listing : List ℕ → List ℕ
first_edition_listing f = listing_under punctual_test (first_edition_check f) (first_edition_plan f)
