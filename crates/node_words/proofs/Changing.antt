-- Laws of a list of entries that is changed in place, in its words.
use Prim.Native.Nat.{ℕ, ◌+◌, ◌-◌, ◌*◌, ◌≤◌}
use mathlib.Core.Path.{◌≡◌, ◌∙◌, sym, ap}
use mathlib.Core.List.{List, ◌++◌, append_assoc}
use native.Mathlib.Nat.{zero-add}
use native.Mathlib.Omega.{arith}
use lib.ListN.{length, take, drop, take-append-drop, length-drop}
use lib.Seq.{paste, length-paste, sets, sets-eq, length-sets, take_at, drop_at, take-take, take-append-le, length-take-le}
use Rattle.task_model.specs.declared.Entry.{Entry}
use Rattle.task_model.specs.Limits.{most_entries}
use Rattle.node_words.specs.Words.{entry_size, node_size, words_of, entries_from, entries_of, WordsFit}
use Rattle.node_words.proofs.Entries.{length-entries}
use Rattle.node_words.proofs.Words.{words_append, write_entries, write_entries_from, length-words, entries_take, entries_drop}
use Rattle.node_words.specs.Lists.{zeros, zero_padded, splice}
use Rattle.node_words.proofs.Lists.{size_spliced}

-- words that are moved make room for others, from place k on
pub room_filled : (d s v : List ℕ) (k g m : ℕ) → length v ≡ g → m ≤ length s → k + g + m ≤ length d
    → sets (paste d (k + g) s m) k v ≡ (take k d ++ (v ++ take m s)) ++ drop (k + g + m) d
room_filled d s v k g m e l h =
    let x : List ℕ = paste d (k + g) s m in
    let rest : List ℕ = take m s ++ drop (k + g + m) d in
    let size : length x ≡ length d = length-paste d (k + g) s m h l in
    let front : length (take (k + g) d) ≡ k + g = length-take-le (k + g) d (omega arith) in
    let cut : x ≡ take (k + g) d ++ rest = append_assoc (take (k + g) d) _ _ in
    sets-eq v x k (omega arith)
    ∙ rw (e, cut, take-append-le k (take (k + g) d) rest (omega arith), take-take k (k + g) d (omega arith), drop_at (take (k + g) d) rest (k + g) front)
    (simp append_assoc)

-- words that begin with those of a list, once every word beyond them is zero
cleared : (es : List Entry) {w : List ℕ} (rest : List ℕ) (n : ℕ) → w ≡ words_of es ++ rest → length w ≡ node_size → n ≡ length es → {after : List ℕ}
    → after ≡ take (n * entry_size) w ++ zeros (length w - n * entry_size) → after ≡ zero_padded (words_of es)
unfolding zero_padded
cleared es {w} rest n p size e q =
    let l : length (words_of es) ≡ n * entry_size = length-words es ∙ omega arith in
    let m : length w - n * entry_size ≡ node_size - length (words_of es) = omega arith in
    q ∙ rw m (ap (λ x. take (n * entry_size) x ++ zeros (node_size - length (words_of es))) p ∙ rw (take_at (words_of es) rest (n * entry_size) l))

-- the words of a node, and the list of `count` entries that they hold
module _ (ws : List ℕ) (fit : WordsFit ws) (size : length ws ≡ node_size) (count : ℕ) (few : count ≤ most_entries) where
  abbrev es : List Entry
  es = entries_of ws count

  sized : length es ≡ count
  sized = length-entries ws 0 count

  front : (p : ℕ) → p ≤ count → words_of (take p es) ≡ take (p * entry_size) ws
  front p h = ap words_of (entries_take ws p 0 count h) ∙ write_entries p ws fit (omega arith)

  back : (p : ℕ) → p ≤ count → words_of (drop p es) ≡ take ((count - p) * entry_size) (drop (p * entry_size) ws)
  back p h =
      ap words_of (entries_drop ws p 0 count h ∙ ap (λ i. entries_from ws i (count - p)) (zero-add p))
      ∙ write_entries_from ws fit p (count - p) (omega arith)

  around : (p q : ℕ) (new : List Entry) → p ≤ count → q ≤ count
      → words_of (take p es ++ (new ++ drop q es)) ≡ take (p * entry_size) ws ++ (words_of new ++ take ((count - q) * entry_size) (drop (q * entry_size) ws))
  around p q new hp hq =
      words_append (take p es) (new ++ drop q es) ∙ rw (words_append new (drop q es), front p hp, back q hq)

  pub list_kept : {after : List ℕ} → after ≡ take (count * entry_size) ws ++ zeros (length ws - count * entry_size)
      → after ≡ zero_padded (words_of es)
  list_kept =
      cleared es (drop (count * entry_size) ws) count
      (sym (ap (λ x. x ++ drop (count * entry_size) ws) (write_entries count ws fit (omega arith)) ∙ take-append-drop (count * entry_size) ws))
      size (sym sized)

  -- the entries behind are moved, the new ones are stored, and the words beyond are cleared
  module _ (p gone : ℕ) (new : List Entry) {m w after : List ℕ} where
    pub list_spliced : p + gone ≤ count → count - gone + length new ≤ most_entries
        → m ≡ paste ws (p * entry_size + length new * entry_size) (drop ((p + gone) * entry_size) ws) (count * entry_size - (p + gone) * entry_size)
        → w ≡ sets m (p * entry_size) (words_of new)
        → after ≡ take ((count - gone + length new) * entry_size) w ++ zeros (length w - (count - gone + length new) * entry_size)
        → after ≡ zero_padded (words_of (splice p gone new es))
    list_spliced h room moved stored =
        let k : ℕ = p * entry_size in
        let g : ℕ = length new * entry_size in
        let n : ℕ = count * entry_size - (p + gone) * entry_size in
        let s : List ℕ = drop ((p + gone) * entry_size) ws in
        let long : n ≤ length s = omega (arith, length-drop ((p + gone) * entry_size) ws) in
        let fits : k + g + n ≤ length ws = omega arith in
        let e : n ≡ (count - (p + gone)) * entry_size = omega arith in
        cleared (splice p gone new es) (drop (k + g + n) ws) (count - gone + length new)
        (stored ∙ ap (λ x. sets x k (words_of new)) moved ∙ room_filled ws s (words_of new) k g n (length-words new) long fits
        ∙ ap (λ x. x ++ drop (k + g + n) ws) (ap (λ i. take k ws ++ (words_of new ++ take i s)) e ∙ sym (around p (p + gone) new (omega arith) h)))
        (ap length stored ∙ length-sets m k (words_of new) ∙ ap length moved ∙ length-paste ws (k + g) s n fits long ∙ size)
        (omega (arith, size_spliced p es gone new (omega (arith, sized)), sized))
