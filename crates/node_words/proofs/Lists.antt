-- Lists after a change: their length, and what holds for each entry.
use Prim.Native.Nat.{ℕ, zero, suc, ◌+◌, ◌-◌, ◌≤◌, ◌<◌}
use mathlib.Core.Path.{◌≡◌, ◌∙◌}
use mathlib.Core.List.{List, [], ◌∷◌, ◌++◌}
use native.Mathlib.Omega.{arith}
use lib.ListN.{length, take, drop, length-append, length-drop}
use lib.Seq.{length-take-le}
use Rattle.task_model.specs.declared.Entry.{Entry}
use Rattle.task_model.specs.Limits.{entry_at}
use Rattle.node_words.specs.Lists.{insert_at, remove_at, replace_at, splice}

-- the changes of one entry, as cases of one change
module _ (p : ℕ) (es : List Entry) where
  pub insert_is : (e : Entry) → insert_at p e es ≡ splice p 0 (e ∷ []) es
  insert_is e = let h : p + 0 ≡ p = omega arith in rw h

  pub remove_is : remove_at p es ≡ splice p 1 [] es
  remove_is = let h : p + 1 ≡ suc p = omega arith in rw h

  pub replace_is : (e : Entry) → replace_at p e es ≡ splice p 1 (e ∷ []) es
  replace_is e = let h : p + 1 ≡ suc p = omega arith in rw h

  pub size_spliced : (gone : ℕ) (new : List Entry) → p + gone ≤ length es → length (splice p gone new es) ≡ length es - gone + length new
  size_spliced gone new h =
      length-append (take p es) (new ++ drop (p + gone) es)
      ∙ omega (arith, length-append new (drop (p + gone) es), length-take-le p es (omega arith), length-drop (p + gone) es)

module _ (P : Entry → Type 0) where
  abbrev pub Each : List Entry → Type 0
  Each [] = Unit
  Each (e ∷ es) = P e × Each es

  -- by position
  pub each_of : (es : List Entry) → ((j : ℕ) → j < length es → P (entry_at es j)) → Each es
  each_of [] f = tt
  each_of (e ∷ es) f = (f 0 (omega arith), each_of es (λ j h. f (suc j) (omega arith)))

  pub of_each : (es : List Entry) → Each es → (j : ℕ) → j < length es → P (entry_at es j)
  of_each [] a j h = absurd (omega arith)
  of_each (e ∷ es) a zero h = a.0
  of_each (e ∷ es) a (suc j) h = of_each es a.1 j (omega arith)

  each_append : (xs ys : List Entry) → Each xs → Each ys → Each (xs ++ ys)
  each_append [] ys a b = b
  each_append (x ∷ xs) ys a b = (a.0, each_append xs ys a.1 b)

  each_take : (p : ℕ) (es : List Entry) → Each es → Each (take p es)
  each_take zero es a = tt
  each_take (suc p) [] a = tt
  each_take (suc p) (e ∷ es) a = (a.0, each_take p es a.1)

  each_drop : (p : ℕ) (es : List Entry) → Each es → Each (drop p es)
  each_drop zero es a = a
  each_drop (suc p) [] a = tt
  each_drop (suc p) (e ∷ es) a = each_drop p es a.1

  pub each_spliced : (p gone : ℕ) (new es : List Entry) → Each new → Each es → Each (splice p gone new es)
  each_spliced p gone new es h a =
      each_append (take p es) (new ++ drop (p + gone) es) (each_take p es a) (each_append new (drop (p + gone) es) h (each_drop (p + gone) es a))

  pub each_inserted : (p : ℕ) (e : Entry) (es : List Entry) → P e → Each es → Each (insert_at p e es)
  each_inserted p e es h a = rw (insert_is p es e) (each_spliced p 0 (e ∷ []) es (h, tt) a)

  pub each_removed : (p : ℕ) (es : List Entry) → Each es → Each (remove_at p es)
  each_removed p es a = rw (remove_is p es) (each_spliced p 1 [] es tt a)
