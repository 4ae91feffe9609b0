-- What follows if a header is accepted.
use Prim.Native.Nat.{ℕ, ◌≤◌, ◌<◌}
use mathlib.Core.Path.{◌≡◌}
use mathlib.Core.Bool.{true, false, ◌&&◌}
use mathlib.Core.List.{List}
use lib.ListN.{length}
use borrow.Author.Tests.{leb-true, le-leb, lt-leb}
use Rattle.refusals.specs.Refusals.{at, accepted, refused}
use Rattle.plan_file.specs.Encoding.{bodies_start}
use Rattle.plan_file.specs.Decoding.{edition_of, node_count}
use Rattle.plan_file.specs.Check.{opens_test, count_test, zeros_test, header_by, header_check}
use Rattle.refusals.proofs.Outcomes.{both_accepted, demanded}
use Rattle.plan_file.proofs.Tests.{Opens, opens_hold, opens_edition, Counted, counted_hold}

module _ (f : List ℕ) where
  pub record HeaderHolds : Type 0 where
    pub long : 8 ≤ length f
    pub opens : Opens (edition_of f) f
    pub counted : Counted f
    pub contents : bodies_start (node_count f) ≤ length f

  pub header_holds : header_check f ≡ accepted → HeaderHolds
  unfolding header_by
  header_holds p =
      let p1 = both_accepted _ _ p in
      let p2 = both_accepted _ _ p1.1 in
      let p3 = both_accepted _ _ p2.1 in
      record {
        long = leb-true _ _ (demanded _ _ p1.0);
        opens = opens_hold (edition_of f) f (opens_edition f (demanded _ _ p2.0));
        counted = counted_hold f (demanded _ _ p3.0);
        contents = leb-true _ _ (demanded _ _ p3.1);
      }

  -- check by check, in their order
  pub header_short : length f < 8 → header_check f ≡ refused (at 1 0 0)
  unfolding header_by
  header_short h = rw (lt-leb 8 (length f) h)

  pub header_opening : 8 ≤ length f → opens_test f ≡ false → header_check f ≡ refused (at 2 0 0)
  unfolding header_by
  header_opening h1 h2 = rw (le-leb 8 (length f) h1, h2)

  pub header_count : 8 ≤ length f → opens_test f ≡ true → (count_test (node_count f) && zeros_test f) ≡ false
      → header_check f ≡ refused (at 3 0 0)
  unfolding header_by
  header_count h1 h2 h3 = rw (le-leb 8 (length f) h1, h2, h3)

  module _ (h1 : 8 ≤ length f) (h2 : opens_test f ≡ true) (h3 : (count_test (node_count f) && zeros_test f) ≡ true) where
    pub header_cut : length f < bodies_start (node_count f) → header_check f ≡ refused (at 1 0 0)
    unfolding header_by
    header_cut h4 = rw (le-leb 8 (length f) h1, h2, h3, lt-leb (bodies_start (node_count f)) (length f) h4)

    pub header_accepted : bodies_start (node_count f) ≤ length f → header_check f ≡ accepted
    unfolding header_by
    header_accepted h4 = rw (le-leb 8 (length f) h1, h2, h3, le-leb (bodies_start (node_count f)) (length f) h4)
