-- The answers of the mapping from a file, case by case.
use Prim.Native.Nat.{ℕ}
use mathlib.Core.Path.{◌≡◌}
use mathlib.Core.List.{List}
use Rattle.refusals.specs.Refusals.{Numbered, accepted, refused}
use Rattle.refusals.specs.Answers.{gives, refuses}
use Rattle.refusals.proofs.Outcomes.{giving_refuses, giving_gives}
use Rattle.plan_file.specs.declared.FoundNode.{FoundNode}
use Rattle.plan_file.specs.Answers.{find_answer}
use Rattle.plan_file.specs.Find.{find_check, node_found}
use Rattle.level_map.specs.Answer.{held_answer, held_answer_under}
use Rattle.planner.specs.Mapping.{file_answer}

module _ (f : List ℕ) (number : ℕ) where
  pub file_refused : (r : Numbered) → find_check f number ≡ refused r → (room : ℕ) → file_answer f number room ≡ refuses r
  unfolding file_answer
  file_refused r p room = rw p

  pub file_found : find_check f number ≡ accepted → (room : ℕ) → file_answer f number room ≡ held_answer (node_found f number) room
  unfolding file_answer held_answer_under
  file_found p room = rw p

  -- what the finder's answer says of its check
  pub find_refuses : (r : Numbered) → refuses r ≡ find_answer f number → find_check f number ≡ refused r
  unfolding find_answer
  find_refuses r p = giving_refuses (find_check f number) _ r p

  pub find_gives_lem : (s : FoundNode) → gives s ≡ find_answer f number → find_check f number ≡ accepted
  unfolding find_answer
  find_gives_lem s p = (giving_gives (find_check f number) _ s p).0
