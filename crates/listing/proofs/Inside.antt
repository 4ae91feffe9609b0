-- A node's lines occur in the listing, and an entry's line occurs in its node's lines.
use Prim.Native.Nat.{ℕ, zero, suc, ◌<◌}
use mathlib.Core.Path.{◌≡◌, ◌∙◌, refl, sym, ap}
use mathlib.Core.Logic.{by_cases}
use mathlib.Core.Option.{some}
use mathlib.Core.List.{List, [], ◌++◌, append-nil, append_assoc}
use native.Mathlib.Decide.{dec_lt}
use native.Mathlib.Omega.{arith}
use lib.ListN.{length}
use Rattle.task_model.specs.declared.Entry.{Entry}
use Rattle.refusals.specs.Refusals.{accepted}
use Rattle.task_model.specs.Limits.{Node}
use Rattle.plan_file.specs.Plan.{Plan}
use Rattle.plan_file.specs.Check.{file_check}
use Rattle.plan_file.specs.Decoding.{plan_in}
use Rattle.plan_file.specs.Find.{row_in, node_of_row}
use Rattle.level_map.specs.Assignments.{levels_used}
use Rattle.level_map.specs.Map.{the_map}
use Rattle.listing.specs.Lines.{plan_line, node_line}
use Rattle.listing.specs.Listing.{entry_text, entries_text, entries_text_under, node_text, nodes_text, nodes_text_under, plan_text_under, listing}
use Rattle.listing.specs.Timed.{StandsIn}
use Rattle.listing.proofs.Texts.{node_mapped, listing_accepted}

stands_whole : (t : List ℕ) → StandsIn t t
stands_whole t = record { before = []; after = []; joined = sym (append-nil t) }

-- what stands in one of two texts stands in both together
stands_first : (a b t : List ℕ) → StandsIn a t → StandsIn (a ++ b) t
stands_first a b t s =
    record {
      before = s.before;
      after = s.after ++ b;
      joined = ap (λ x. x ++ b) s.joined ∙ append_assoc (s.before ++ t) s.after b;
    }

stands_last : (a b t : List ℕ) → StandsIn b t → StandsIn (a ++ b) t
stands_last a b t s =
    record {
      before = a ++ s.before;
      after = s.after;
      joined = ap (λ x. a ++ x) s.joined
          ∙ sym (append_assoc a (s.before ++ t) s.after)
          ∙ ap (λ x. x ++ s.after) (sym (append_assoc a s.before t));
    }

-- one of the first n texts, in all of them together
module _ (each : ℕ → List ℕ) (up_to : ℕ → List ℕ) (more : (n : ℕ) → up_to (suc n) ≡ up_to n ++ each n) (t : List ℕ) (k : ℕ)
    (s : StandsIn (each k) t) where
  stands_among : (n : ℕ) → k < n → StandsIn (up_to n) t
  stands_among zero l = absurd (omega arith)
  stands_among (suc n) l =
      rw (more n)
      (by_cases (dec_lt k n)
      (λ y. stands_first (up_to n) (each n) t (stands_among n y))
      (λ z. let e : k ≡ n = omega arith in stands_last (up_to n) (each n) t (rw e at s)))

entries_suc : (es : List Entry) (m : List ℕ) (n : ℕ) → entries_text es m (suc n) ≡ entries_text es m n ++ entry_text es m n
unfolding entries_text_under
entries_suc es m n = refl

nodes_suc : (p : Plan) (n : ℕ) → nodes_text p (suc n) ≡ nodes_text p n ++ node_text (row_in p.rows n).number (node_of_row p n)
unfolding nodes_text_under
nodes_suc p n = refl

-- The text of an entry stands in that of its node,
entry_in_node : (number : ℕ) (n : Node) (m : List ℕ) → the_map n.entries n.levels ≡ some m → (i : ℕ)
    → i < length n.entries → StandsIn (node_text number n) (entry_text n.entries m i)
entry_in_node number n m p i l =
    let each = entry_text n.entries m in
    let up_to = entries_text n.entries m in
    rw (node_mapped number n m p)
    (stands_last (node_line number (levels_used m) n.levels) (up_to (length n.entries)) (each i)
    (stands_among each up_to (entries_suc n.entries m) (each i) i (stands_whole (each i)) (length n.entries) l))

-- and with it in the listing of an accepted file.
pub entry_in_listing : (f : List ℕ) → file_check f ≡ accepted → (k : ℕ) → k < length (plan_in f).rows → (m : List ℕ)
    → the_map (node_of_row (plan_in f) k).entries (node_of_row (plan_in f) k).levels ≡ some m
    → (i : ℕ) → i < length (node_of_row (plan_in f) k).entries
    → StandsIn (listing f) (entry_text (node_of_row (plan_in f) k).entries m i)
unfolding plan_text_under
entry_in_listing f a k h m p i l =
    let plan = plan_in f in
    let line = entry_text (node_of_row plan k).entries m i in
    let each : ℕ → List ℕ = λ n. node_text (row_in plan.rows n).number (node_of_row plan n) in
    rw (listing_accepted f a)
    (stands_last (plan_line (length plan.rows)) (nodes_text plan (length plan.rows)) line
    (stands_among each (nodes_text plan) (nodes_suc plan) line k
    (entry_in_node (row_in plan.rows k).number (node_of_row plan k) m p i l) (length plan.rows) h))
