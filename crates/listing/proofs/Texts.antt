-- The texts of a listing, case by case.
use Prim.Native.Nat.{ℕ, ◌+◌, ◌≤◌, ◌<◌}
use mathlib.Core.Path.{◌≡◌, ◌∙◌, refl, ap, sym}
use mathlib.Core.Option.{none, some}
use mathlib.Core.List.{List, [], ◌++◌}
use native.Mathlib.Numerals.{add-one}
use native.Mathlib.Omega.{arith}
use lib.ListN.{length, drop}
use borrow.Author.Tests.{le-leb, lt-leb}
use Rattle.std.specs.Prelude.{Result, Ok, Err}
use Rattle.refusals.specs.declared.Refusal.{Refusal}
use Rattle.task_model.specs.declared.Entry.{Entry}
use Rattle.refusals.specs.Refusals.{Numbered, at, accepted, refused}
use Rattle.task_model.specs.Limits.{Node, entry_at}
use Rattle.completion.specs.Test.{on_time, late, completion_test}
use Rattle.plan_file.specs.Plan.{most_nodes, Plan}
use Rattle.refusals.specs.Answers.{Answer, gives, refuses, answered, left}
use Rattle.plan_file.specs.Check.{file_check}
use Rattle.plan_file.specs.Decoding.{node_count, plan_in}
use Rattle.plan_file.proofs.Contents.{length-rows}
use Rattle.plan_file.proofs.File.{file_holds}
use Rattle.plan_file.specs.Find.{row_in, node_of_row}
use Rattle.level_map.specs.Assignments.{level_of, levels_used}
use Rattle.level_map.specs.Map.{the_map}
use Rattle.listing.specs.Lines.{plan_line, node_line, no_map_line, entry_line, refused_line}
use Rattle.listing.specs.Listing.{entry_text, entry_text_under, entries_text, entries_text_under, node_text, node_text_under, nodes_text, nodes_text_under, plan_text, plan_text_under, listing, listing_under, text_answer, TextCall}

module _ (es : List Entry) (m : List ℕ) where
  pub entry_on_time : (i time rounds : ℕ) → completion_test es (level_of m) i ≡ on_time time rounds
      → entry_text es m i ≡ entry_line (entry_at es i).number (level_of m i) time rounds
  unfolding entry_text_under
  entry_on_time i time rounds p = rw (p, entry_text_under)

  pub entry_late : (i rounds over : ℕ) → completion_test es (level_of m) i ≡ late rounds over → entry_text es m i ≡ []
  unfolding entry_text_under
  entry_late i rounds over p = rw (p, entry_text_under)

  pub entries_none : entries_text es m 0 ≡ []
  unfolding entries_text_under
  entries_none = refl

  pub entries_more : (n : ℕ) → entries_text es m (n + 1) ≡ entries_text es m n ++ entry_text es m n
  unfolding entries_text_under
  entries_more n = rw (add-one n, entries_text_under)

module _ (number : ℕ) (n : Node) where
  pub node_mapped : (m : List ℕ) → the_map n.entries n.levels ≡ some m
      → node_text number n ≡ node_line number (levels_used m) n.levels ++ entries_text n.entries m (length n.entries)
  unfolding node_text_under
  node_mapped m p = rw (p, node_text_under)

  pub node_no_map : the_map n.entries n.levels ≡ none → node_text number n ≡ no_map_line number
  unfolding node_text_under
  node_no_map p = rw (p, node_text_under)

module _ (p : Plan) where
  pub nodes_none : nodes_text p 0 ≡ []
  unfolding nodes_text_under
  nodes_none = refl

  pub nodes_more : (n : ℕ) → nodes_text p (n + 1) ≡ nodes_text p n ++ node_text (row_in p.rows n).number (node_of_row p n)
  unfolding nodes_text_under
  nodes_more n = rw (add-one n, nodes_text_under)

module _ (f : List ℕ) where
  pub listing_refused : (r : Numbered) → file_check f ≡ refused r → listing f ≡ refused_line r
  unfolding listing_under
  listing_refused r p = rw (p, listing_under)

  pub listing_accepted : file_check f ≡ accepted → listing f ≡ plan_text (plan_in f)
  unfolding listing_under
  listing_accepted p = rw (p, listing_under)

-- an accepted file has few nodes; its listing is its first line and the lines of its nodes
pub few_nodes : (f : List ℕ) → file_check f ≡ accepted → node_count f ≤ most_nodes
few_nodes f a = (file_holds f a).header.counted.few

pub listing_lines : (f : List ℕ) (n : ℕ) → file_check f ≡ accepted → n ≡ node_count f → plan_line n ++ nodes_text (plan_in f) n ≡ listing f
unfolding plan_text_under
listing_lines f n a e =
    ap (λ m. plan_line m ++ nodes_text (plan_in f) m) (e ∙ sym (length-rows f 0 (node_count f))) ∙ sym (listing_accepted f a)

-- the answer, where the text fits and where it does not
module _ (t : List ℕ) (room : ℕ) where
  pub text_fits : length t ≤ room → text_answer t room ≡ gives (length t)
  unfolding text_answer
  text_fits h = rw (le-leb (length t) room h)

  pub text_short : room < length t → text_answer t room ≡ refuses (at 10 0 0)
  unfolding text_answer
  text_short h = rw (lt-leb (length t) room h)

-- the same answer and buffer, for the same text by another name
pub text_same : {s t old : List ℕ} {a : Answer ℕ} {new : List ℕ} → s ≡ t → TextCall s old a new → TextCall t old a new
text_same e p = rw e at p

only_text : (a : Result ℕ Refusal) (n : ℕ) → answered a ≡ gives n → a ≡ Ok n
only_text (Ok m) n p = cc
only_text (Err r) n p = absurd (let z : ◌≡◌ {A = ℕ} 0 1 = cc in omega arith)

-- where the text fits, it is what the buffer begins with
module _ (f old new : List ℕ) (a : Result ℕ Refusal) (fits : length (listing f) ≤ length old) (p : TextCall (listing f) old (answered a) new) where
  pub listed_size : a ≡ Ok (length (listing f))
  listed_size = only_text a (length (listing f)) (p.answer ∙ text_fits (listing f) (length old) fits)

  pub listed_text : new ≡ listing f ++ drop (length (listing f)) old
  listed_text = p.there ∙ ap (λ o. left o (listing f) old) (p.answer ∙ text_fits (listing f) (length old) fits)
