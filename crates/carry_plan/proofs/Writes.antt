-- What the program writes, by the answer of the conversion of what it read.
use Prim.Native.Nat.{ℕ, ◌≤◌, ◌<◌}
use mathlib.Core.Path.{◌≡◌, ◌∙◌, refl, sym}
use mathlib.Core.Logic.{⊎_elim}
use mathlib.Core.List.{List, []}
use native.Mathlib.Omega.{arith}
use lib.ListN.{length, take}
use lib.Seq.{take_all}
use Rattle.refusals.specs.Refusals.{Numbered, accepted, refused}
use Rattle.refusals.specs.Answers.{gives, refuses}
use Rattle.refusals.proofs.Outcomes.{giving_gives, giving_refuses}
use Rattle.plan_file.specs.declared.Edition.{Edition}
use Rattle.plan_file.specs.declared.Edition.TheVariants.{First, Second}
use Rattle.plan_file.specs.Encoding.{encoding}
use Rattle.plan_file.specs.Decoding.{plan_in}
use Rattle.plan_file.specs.Limits.{longest}
use Rattle.plan_file.specs.Input.{ReadOf}
use Rattle.plan_file.proofs.Long.{long_refused}
use Rattle.listing.specs.Lines.{refused_line}
use Rattle.converter.specs.Conversion.{convert_check, ConvertCall}
use Rattle.converter.proofs.Converting.{check_own}
use Rattle.converter.proofs.RoundTrip.{convert_given, written_part}
use Rattle.converter.proofs.Theorems.{suffices}
use Rattle.carry_plan.specs.Output.{converted_file, refusal_line}

-- two inputs of which the program writes the same
pub record Alike (to : Edition) (f g : List ℕ) : Type 0 where
  pub output : converted_file to f ≡ converted_file to g
  pub error : refusal_line to f ≡ refusal_line to g

module _ (to : Edition) (f : List ℕ) where
  pub accepted_writes : convert_check to f ≡ accepted → (converted_file to f ≡ encoding to (plan_in f)) × (refusal_line to f ≡ [])
  unfolding converted_file refusal_line
  accepted_writes a = rw (a, converted_file, refusal_line) (refl, refl)

  pub refused_writes : (r : Numbered) → convert_check to f ≡ refused r → (converted_file to f ≡ []) × (refusal_line to f ≡ refused_line r)
  unfolding converted_file refusal_line
  refused_writes r a = rw (a, converted_file, refusal_line) (refl, refl)

-- what was read of an input is converted as the whole input is
pub read_alike : (to : Edition) (input array : List ℕ) (n : ℕ) → 65536 < length array → ReadOf input array n → Alike to (take n array) input
read_alike to input array n h p =
    rw (← p)
    (⊎_elim
    (λ l. rw (take_all (length array) input l) (record { output = refl; error = refl }))
    (λ r.
    let part = refused_writes to (take (length array) input) r.0 (check_own to (take (length array) input) r.0 r.1) in
    let whole = refused_writes to input r.0 (check_own to input r.0 r.2) in
    record { output = part.0 ∙ sym whole.0; error = part.1 ∙ sym whole.1 })
    (long_refused (length array) h input))

-- the program's buffer suffices for both editions
enough : (to : Edition) → longest to ≤ 49416
enough First = omega arith
enough Second = omega arith

module _ {to : Edition} {f old new : List ℕ} (room : length old ≡ 49416) where
  -- a file that was converted
  pub converted_writes : {n : ℕ} → ConvertCall to f old (gives n) new
      → (n ≤ length old) × (take n new ≡ converted_file to f) × ([] ≡ refusal_line to f)
  converted_writes c =
      let g = giving_gives (convert_check to f) _ _ (suffices (omega (arith, enough to)) c) in
      let w = accepted_writes to f g.0 in
      let k = convert_given to f _ _ c.answer in
      (omega (arith, k.1, k.2), written_part c ∙ sym w.0, sym w.1)

  -- and one that was refused
  pub nothing_writes : {r : Numbered} → ConvertCall to f old (refuses r) new → ([] ≡ converted_file to f) × (refused_line r ≡ refusal_line to f)
  nothing_writes c =
      let q = giving_refuses (convert_check to f) _ _ (suffices (omega (arith, enough to)) c) in
      let w = refused_writes to f _ q in
      (sym w.0, sym w.1)
