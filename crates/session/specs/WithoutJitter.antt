-- The rules of a session before entries had a jitter, and operations with entries whose J is 0. Entry numbers are checked
-- under these rules too; specs/WithoutNumbers has the checks without that.
use Rattle.std.specs.Prelude.{◌≡◌, List, [], ◌∷◌}
use Rattle.task_model.specs.WithoutJitter.{punctual_check}
use Rattle.completion.specs.WithoutJitter.{punctual_test}
use Rattle.session.specs.Operations.{Rules, Change, inserting, removing, replacing, setting_levels, Operation, opening, changing, asking}

-- An entry is checked for 7 and 8 alone, and timed by the test without J.
abbrev pub punctual_rules : Rules
punctual_rules = record { check = punctual_check; test = punctual_test }

-- A change with an entry whose J is 0, or without an entry.
abbrev pub PunctualChange : Change → Type 0
PunctualChange (inserting position e) = e.jitter ≡ 0
PunctualChange (removing position) = Unit
PunctualChange (replacing position e) = e.jitter ≡ 0
PunctualChange (setting_levels levels) = Unit

-- The same for an operation.
abbrev pub PunctualOperation : Operation → Type 0
PunctualOperation (opening levels) = Unit
PunctualOperation (changing c) = PunctualChange c
PunctualOperation (asking q) = Unit

-- The same for every operation of a sequence.
abbrev pub AllPunctual : List Operation → Type 0
AllPunctual [] = Unit
AllPunctual (o ∷ os) = PunctualOperation o × AllPunctual os
