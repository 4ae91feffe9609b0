-- Laws of the entries that words hold.
use Prim.Native.Nat.{ℕ, zero, suc, ◌+◌, ◌≤◌, ◌<◌}
use mathlib.Core.Path.{◌≡◌, ◌∙◌, refl, sym, ap}
use mathlib.Core.List.{List}
use native.Mathlib.Nat.{zero-add}
use native.Mathlib.Omega.{arith}
use lib.ListN.{length}
use Rattle.task_model.specs.Limits.{entry_at, EntryHolds, AllHold}
use Rattle.task_model.specs.declared.Entry.{Entry}
use Rattle.node_words.specs.Words.{entry_of, entries_from, entries_of}

pub length-entries : (ws : List ℕ) (j n : ℕ) → length (entries_from ws j n) ≡ n
unfolding entries_from
length-entries ws j zero = refl
length-entries ws j (suc n) = ap suc (length-entries ws (suc j) n)

-- the entries that words hold
pub entry_in_lem : (ws : List ℕ) (k n j : ℕ) → j < n → entry_at (entries_from ws k n) j ≡ entry_of ws (k + j)
unfolding entries_from
entry_in_lem ws k zero j h = absurd (omega arith)
entry_in_lem ws k (suc n) zero h = let e : k + 0 ≡ k = omega arith in rw e
entry_in_lem ws k (suc n) (suc j) h =
    let e : k + suc j ≡ suc k + j = omega arith in
    rw e (entry_in_lem ws (suc k) n j (omega arith))

pub number_in : (ws : List ℕ) (k n j : ℕ) → j < n → (entry_of ws (k + j)).number ≡ (entry_at (entries_from ws k n) j).number
number_in ws k n j h = ap (λ (e : Entry). e.number) (sym (entry_in_lem ws k n j h))

module _ (ws : List ℕ) (n : ℕ) where
  pub entry_of_lem : (j : ℕ) → j < n → entry_at (entries_of ws n) j ≡ entry_of ws j
  entry_of_lem j h = entry_in_lem ws 0 n j h ∙ ap (entry_of ws) (zero-add j)

  pub all_at : AllHold (entries_of ws n) → (j : ℕ) → j < n → EntryHolds (entry_of ws j)
  all_at a j h = rw (entry_of_lem j h) at (a j (omega (arith, length-entries ws 0 n)))

  pub of_all : ((j : ℕ) → j < n → EntryHolds (entry_of ws j)) → AllHold (entries_of ws n)
  of_all f j h = let l : j < n = omega (arith, length-entries ws 0 n) in rw (entry_of_lem j l) (f j l)

-- fewer entries of a list within the limits
pub all_fewer : (ws : List ℕ) (m n : ℕ) → m ≤ n → AllHold (entries_of ws n) → AllHold (entries_of ws m)
all_fewer ws m n h a = of_all ws m (λ j l. all_at ws n a j (omega arith))
