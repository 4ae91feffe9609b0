use Prim.Native.Nat.{ℕ}
use mathlib.Core.Path.{◌≡◌, ◌∙◌, sym, ap}
use mathlib.Core.List.{List}
use native.Mathlib.Omega.{arith}
use lib.ListN.{length, take, drop}
use lib.Seq.{take_at}
use Rattle.std.specs.Prelude.{Result, Ok}
use Rattle.refusals.specs.declared.Refusal.{Refusal}
use Rattle.refusals.specs.Answers.{answered}
use Rattle.listing.specs.Listing.{listing, ListCall}
use Rattle.listing.proofs.Texts.{listed_size, listed_text}
use Rattle.listing.proofs.Long.{long_listing}
use Rattle.plan_file.specs.declared.input.Input.{Input}
use Rattle.plan_file.specs.Input.{InputOf}
use Rattle.list_plan.proofs.list_read.Goals as goal

-- what the call leaves of the bytes that were read
module _ (read : Input) (bytes old new : List ℕ) (result : Result ℕ Refusal) (e : bytes ≡ take read.count read.array.now)
    (room : length old ≡ 115625) (p : ListCall bytes old (answered result) new) where
  -- the text always fits
  size : result ≡ Ok (length (listing bytes))
  size = listed_size bytes old new result (omega (arith, p.short)) p.text

  -- so it is given with its length
  long : {n : ℕ} → result ≡ Ok n → n ≡ length (listing bytes)
  long q = let s = size in cc

  -- what was read is listed as the whole input is
  shown : {n : ℕ} → result ≡ Ok n → (input : List ℕ) → InputOf input read → take n new ≡ listing input
  shown {n} q input r =
      ap (take n) (listed_text bytes old new result (omega (arith, p.short)) p.text)
      ∙ take_at (listing bytes) (drop (length (listing bytes)) old) n (sym (long q))
      ∙ ap listing (e ∙ sym r)
      ∙ long_listing (length read.array.now) (omega arith) input

pub unwrap-length-requires : goal.unwrap-length-requires
unwrap-length-requires c =
    let s = size c.args.read.now _ c.args.text.now c.list_plan.new.out c.list_plan.result c.bytes.ensures (omega arith) c.list_plan.ensures in
    cc

pub shared_ref_as_front-result : goal.shared_ref_as_front-result
shared_ref_as_front-result c =
    let called = c.list_plan.ensures in
    let same = long c.args.read.now _ c.args.text.now c.list_plan.new.out c.list_plan.result c.bytes.ensures (omega arith) called c.unwrap-length.ensures in
    omega (arith, called.short)

pub returns : goal.returns
returns c =
    shown c.args.read.now _ c.args.text.now c.list_plan.new.out c.list_plan.result c.bytes.ensures (omega arith) c.list_plan.ensures
    c.unwrap-length.ensures
