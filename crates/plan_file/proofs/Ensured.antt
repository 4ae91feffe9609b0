-- Derives a function's second promise from its first. The types of its slices bound bytes and words.
use Prim.Native.Nat.{ℕ}
use mathlib.Core.Path.{◌≡◌, ◌∙◌, sym}
use mathlib.Core.Logic.{◌↔◌}
use mathlib.Core.List.{List}
use Rattle.node_words.specs.Words.{WordsFit}
use Rattle.refusals.specs.Refusals.{Outcome, accepted}
use Rattle.refusals.specs.Answers.{Answer}
use Rattle.byte_words.specs.Bytes.{Bytes}
use Rattle.plan_file.specs.declared.Edition.{Edition}
use Rattle.plan_file.specs.Check.{file_check, words_check}
use Rattle.plan_file.specs.Limits.{IsPlanFile, IsPlanInMemory}
use Rattle.plan_file.specs.declared.ReadPlan.{ReadPlan}
use Rattle.plan_file.specs.Answers.{ReadCall, WriteCall}
use Rattle.plan_file.specs.RoundTrips.{WrittenAgain, ReadAgain}
use Rattle.plan_file.proofs.Theorems.{file_limits, words_limits}
use Rattle.plan_file.proofs.RoundTrips.{written_again, read_again}

pub file_ensures : {f : List ℕ} {o : Outcome} → Bytes f → o ≡ file_check f → (o ≡ file_check f) × (o ≡ accepted ↔ IsPlanFile f)
file_ensures b e = (e, (λ p. (file_limits _).0 (b, sym e ∙ p), λ h. e ∙ ((file_limits _).1 h).1))

pub plan_ensures : (ed : Edition) (rs ws : List ℕ) {o : Outcome} → o ≡ words_check ed rs ws
    → (o ≡ words_check ed rs ws) × (o ≡ accepted ↔ IsPlanInMemory ed rs ws)
plan_ensures ed rs ws e = (e, (λ p. (words_limits ed rs ws).0 (sym e ∙ p), λ h. e ∙ (words_limits ed rs ws).1 h))

pub read_ensures : {f rows words : List ℕ} {a : Answer ReadPlan} {rowsLeft words_left : List ℕ} → Bytes f
    → ReadCall f rows words a rowsLeft words_left
    → ReadCall f rows words a rowsLeft words_left × WrittenAgain f a rowsLeft words_left
read_ensures b c = (c, written_again _ _ _ _ _ _ b c)

pub write_ensures : {ed : Edition} {rs ws file : List ℕ} {a : Answer ℕ} {fileLeft : List ℕ} → WordsFit rs → WordsFit ws
    → WriteCall ed rs ws file a fileLeft → WriteCall ed rs ws file a fileLeft × ReadAgain ed rs ws a fileLeft
write_ensures hr hw c = (c, read_again _ _ _ _ _ _ hr hw c)
