-- An input that is longer than any plan gets the same listing as its beginning.
use Prim.Native.Nat.{ℕ, ◌<◌}
use mathlib.Core.Path.{◌≡◌, ◌∙◌, ap, sym}
use mathlib.Core.Logic.{⊎_elim}
use mathlib.Core.List.{List}
use lib.ListN.{take}
use lib.Seq.{take_all}
use Rattle.plan_file.proofs.Long.{long_refused}
use Rattle.listing.specs.Listing.{listing}
use Rattle.listing.proofs.Texts.{listing_refused}

-- An input is listed as its first n bytes are, for any n above 65,536: nobody has to read more of it.
pub long_listing : (n : ℕ) → 65536 < n → (f : List ℕ) → listing (take n f) ≡ listing f
long_listing n h f =
    ⊎_elim
    (λ l. ap listing (take_all n f l))
    (λ r. listing_refused (take n f) r.0 r.1 ∙ sym (listing_refused f r.0 r.2))
    (long_refused n h f)
