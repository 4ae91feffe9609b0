-- Two tests that give every entry the same line and every node the same map give a plan the same listing.
use Prim.Native.Nat.{ℕ, zero, suc}
use mathlib.Core.Path.{◌≡◌, ◌∙◌, refl, ap, ap₂}
use mathlib.Core.Option.{Option, none, some}
use mathlib.Core.List.{List, [], ◌++◌}
use lib.ListN.{length, take, drop}
use Rattle.refusals.specs.Refusals.{Outcome, accepted, refused}
use Rattle.task_model.specs.declared.Entry.{Entry}
use Rattle.task_model.specs.Limits.{Node, entry_at}
use Rattle.completion.specs.Test.{Completion, on_time, late}
use Rattle.level_map.specs.Assignments.{level_of, EntryTest, levels_used}
use Rattle.level_map.specs.Map.{map_under}
use Rattle.plan_file.specs.Plan.{Plan, entry_count}
use Rattle.plan_file.specs.Find.{row_in, node_of_row}
use Rattle.listing.specs.Lines.{plan_line, node_line, no_map_line, entry_line}
use Rattle.listing.specs.Listing.{entry_text_under, entries_text_under, node_text_under, nodes_text_under, plan_text_under, listing_under}

-- two texts that agree under every map
by_map : (f g : List ℕ → List ℕ) (other : List ℕ) → ((m : List ℕ) → f m ≡ g m) → (o : Option (List ℕ))
    → ◌≡◌ {A = List ℕ} (elim o [ some m ↦ f m | none ↦ other ]) (elim o [ some m ↦ g m | none ↦ other ])
by_map f g other same none = refl
by_map f g other same (some m) = same m

-- the line of the entry at i under the levels of a map, from the answer of its test
module _ (es : List Entry) (m : List ℕ) (i : ℕ) where
  abbrev pub shown : Completion → List ℕ
  shown c = elim c [
    | on_time time rounds ↦ entry_line (entry_at es i).number (level_of m i) time rounds
    | late rounds overrun ↦ []
  ]

-- Two tests agree on the entries that have a property, and so does every part of a list that has it.
pub record Agree (s t : EntryTest) (Has : List Entry → Type 0) : Type 1 where
  pub lines : (es : List Entry) → Has es → (m : List ℕ) (i : ℕ) → entry_text_under s es m i ≡ entry_text_under t es m i
  pub maps : (es : List Entry) → Has es → (most : ℕ) → map_under s es most ≡ map_under t es most
  pub parts : (es : List Entry) → Has es → (k c : ℕ) → Has (take c (drop k es))

module _ (s t : EntryTest) (Has : List Entry → Type 0) (agree : Agree s t Has) where
  entries_agree : (es : List Entry) → Has es → (m : List ℕ) (n : ℕ) → entries_text_under s es m n ≡ entries_text_under t es m n
  unfolding entries_text_under
  entries_agree es h m zero = refl
  entries_agree es h m (suc n) = ap₂ ◌++◌ (entries_agree es h m n) (agree.lines es h m n)

  node_agrees : (number : ℕ) (n : Node) → Has n.entries → node_text_under s number n ≡ node_text_under t number n
  unfolding node_text_under
  node_agrees number n h =
      ap
      (λ o. elim o [
        | some m ↦ node_line number (levels_used m) n.levels ++ entries_text_under s n.entries m (length n.entries)
        | none ↦ no_map_line number
      ])
      (agree.maps n.entries h n.levels)
      ∙ by_map
      (λ m. node_line number (levels_used m) n.levels ++ entries_text_under s n.entries m (length n.entries))
      (λ m. node_line number (levels_used m) n.levels ++ entries_text_under t n.entries m (length n.entries))
      (no_map_line number)
      (λ m. ap (λ x. node_line number (levels_used m) n.levels ++ x) (entries_agree n.entries h m (length n.entries)))
      (map_under t n.entries n.levels)

  module _ (p : Plan) (h : Has p.entries) where
    node_has : (i : ℕ) → Has (node_of_row p i).entries
    unfolding node_of_row
    node_has i = agree.parts p.entries h (entry_count (take i p.rows)) (row_in p.rows i).count

    nodes_agree : (n : ℕ) → nodes_text_under s p n ≡ nodes_text_under t p n
    unfolding nodes_text_under
    nodes_agree zero = refl
    nodes_agree (suc n) = ap₂ ◌++◌ (nodes_agree n) (node_agrees (row_in p.rows n).number (node_of_row p n) (node_has n))

    pub plan_agrees : plan_text_under s p ≡ plan_text_under t p
    unfolding plan_text_under
    plan_agrees = ap (λ x. plan_line (length p.rows) ++ x) (nodes_agree (length p.rows))

    pub listing_agrees : (o : Outcome) → listing_under s o p ≡ listing_under t o p
    unfolding listing_under
    listing_agrees accepted = plan_agrees
    listing_agrees (refused r) = refl
