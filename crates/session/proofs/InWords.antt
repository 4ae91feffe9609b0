-- Laws of a session that is lent as words.
use Prim.Native.Nat.{ℕ, ◌+◌, ◌-◌, ◌≤◌}
use mathlib.Core.Path.{◌≡◌, ◌∙◌, refl, sym, ap, subst}
use mathlib.Core.Logic.{⊎_elim}
use mathlib.Core.List.{List, [], ◌∷◌, ◌++◌, append-nil}
use native.Mathlib.Omega.{arith}
use lib.ListN.{length, take, drop, get_or, set, length-append, length-drop, take-append-drop}
use lib.Seq.{take_all, take_at, drop_at, drop-drop, length-take-le}
use borrow.Rule.Slice.PartMut.{put_mid}
use Rattle.refusals.specs.declared.Refusal.{Refusal}
use Rattle.std.specs.Prelude.{Result, Ok, Err}
use Rattle.refusals.specs.Refusals.{Numbered, Outcome, accepted, refused, numbered}
use Rattle.task_model.specs.declared.Entry.{Entry}
use Rattle.task_model.specs.Limits.{most_entries, Node, NodeHolds, NodeValid}
use Rattle.task_model.proofs.Theorems.{node_accepted}
use Rattle.node_words.specs.Words.{node_size, words_of, node_of}
use Rattle.node_words.specs.Lists.{zeros, zero_padded, splice}
use Rattle.node_words.proofs.Entries.{length-entries}
use Rattle.node_words.proofs.Lists.{size_spliced}
use Rattle.refusals.proofs.Outcomes.{either}
use Rattle.completion.specs.Test.{completion_test}
use Rattle.map_store.specs.Store.{store_size, store_of, store_at_levels}
use Rattle.map_store.proofs.Theorems.{store_size_lem, store_empty}
use Rattle.map_store.proofs.AtLevels.{levels_size}
use Rattle.session.specs.declared.Session.{Session}
use Rattle.session.specs.State.{node_in, session_with, session_of}
use Rattle.session.specs.Lent.{spliced, Spliceable, with_store_by, remembered, remembered_at_levels}
use Rattle.session.specs.Operations.{
  rules,
  Change,
  Operation,
  inserting,
  removing,
  replacing,
  setting_levels,
  opening,
  changing,
  asking,
  CallableChange,
  empty_node,
  changed,
  lent_check_by,
  step_check,
}
use Rattle.session.specs.Steps.{store_after_by, session_made, session_after, session_after_all, Follows}
use Rattle.session.specs.InWords.{node_at, store_at, session_size, session_in, words_in, words_left, words_after, words_after_by, words_after_all, FollowsIn}
use Rattle.session.proofs.Reading.{Kept, read_with, number_short}
use Rattle.session.proofs.Checking.{position_of, gone_of, new_of, counted, Ready, change_ready, step_accepted, after_refused, after_accepted}
use Rattle.session.proofs.Changing.{changed_is, session_made_lem, padded_size}
use Rattle.session.proofs.Sequences.{holds_changed, kept_changed}

-- A session whose parts have as many words as their arrays.
pub record Sized (s : Session) : Type 0 where
  pub node : length s.words ≡ node_size
  pub store : length s.store ≡ store_size

-- Words and sessions are inverse, if there are as many as there should be.
pub words_back : (w : List ℕ) → length w ≡ session_size → words_in (session_in w) ≡ w
words_back [] h = absurd (omega arith)
words_back (levels ∷ []) h = absurd (omega arith)
words_back (levels ∷ count ∷ words) h = ap (λ l. levels ∷ count ∷ l) (take-append-drop node_size words)

pub words_sized : (w : List ℕ) → length w ≡ session_size → Sized (session_in w)
words_sized w h =
    record {
      node = length-take-le node_size (drop node_at w) (omega (arith, length-drop node_at w));
      store = omega (arith, length-drop store_at w);
    }

-- the words from the store on, as they are lent
pub store_lent : (w : List ℕ) → length w ≡ session_size → take store_size (drop store_at w) ≡ drop store_at w
store_lent w h = take_all store_size (drop store_at w) (omega (arith, length-drop store_at w))

-- the session in the words of a session, if those of its node are as many as they should be, or if words held it
pub session_back : (s : Session) → length s.words ≡ node_size → session_in (words_in s) ≡ s
session_back s long = rw (take_at s.words s.store node_size long, drop_at s.words s.store node_size long)

pub session_again : (w : List ℕ) → session_in (words_in (session_in w)) ≡ session_in w
session_again w =
    let e : drop node_size (drop node_at w) ≡ drop store_at w = drop-drop node_size node_at w in
    rw (← e, take-append-drop node_size (drop node_at w))

module _ (s : Session) (sized : Sized s) where
  pub session_length : length (words_in s) ≡ session_size
  session_length = omega (arith, length-append s.words s.store, sized.node, sized.store)

-- the two parts of a session, once they are copied into its words
pub both_copied : (s : Session) → Sized s → (ws st : List ℕ) → ws ≡ s.words → st ≡ s.store
    → put_mid store_at store_size (put_mid node_at node_size (s.levels ∷ s.count ∷ zeros (node_size + store_size)) ws) st ≡ words_in s
both_copied s sized ws st p q =
    rw (p, q, take_at s.words (zeros store_size) node_size sized.node, drop_at s.words (zeros store_size) node_size sized.node, append-nil s.store)

-- the session of a node within the limits
pub with_sized : (store : List ℕ) (n : Node) → length n.entries ≤ most_entries → length store ≡ store_size → Sized (session_with store n)
unfolding session_with
with_sized store n few long = record { node = padded_size n.entries few; store = long }

-- a node that passes its checks, and the changed one
module _ (ws : List ℕ) (count levels : ℕ) (x : Change) (a : step_check (changing x) (node_of ws count levels) ≡ accepted) where
  abbrev n : Node
  n = node_of ws count levels

  lent_valid : NodeValid n
  unfolding lent_check_by
  lent_valid = (node_accepted 0 n).0 (step_accepted (changing x) n a).0

  pub change_holds : NodeHolds (changed x (node_of ws count levels))
  change_holds = holds_changed n lent_valid.within x (step_accepted (changing x) n a).1

  pub change_kept : CallableChange x → Kept (changed x (node_of ws count levels))
  change_kept call =
      kept_changed n (record { valid = lent_valid; short = λ j h. number_short ws count j (omega (arith, length-entries ws 0 count)) })
      x call (step_accepted (changing x) n a).1

-- what an accepted operation makes has all its words
module _ (w : List ℕ) (size : length w ≡ session_size) where
  store_long : (x : Change) → NodeHolds (changed x (node_in (session_in w))) → length (store_after_by rules x (session_in w)) ≡ store_size
  store_long (inserting p e) h = store_size_lem _ h.each h.few_entries
  store_long (removing p) h = store_size_lem _ h.each h.few_entries
  store_long (replacing p e) h = store_size_lem _ h.each h.few_entries
  store_long (setting_levels l) h = levels_size _ _ h.each h.few_entries _ (words_sized w size).store

  pub made_sized : (o : Operation) → step_check o (node_in (session_in w)) ≡ accepted → Sized (session_made o (session_in w))
  made_sized (opening levels) a = with_sized _ (empty_node levels) (omega arith) (ap length (store_empty levels))
  made_sized (changing x) a =
      let h = change_holds _ _ _ x a in
      with_sized _ (changed x (node_in (session_in w))) h.few_entries (store_long x h)
  made_sized (asking q) a = words_sized w size

-- and is read back from them
made_back : (w : List ℕ) (o : Operation) → step_check o (node_in (session_in w)) ≡ accepted
    → session_in (words_in (session_made o (session_in w))) ≡ session_made o (session_in w)
unfolding session_with
made_back w (opening levels) a = session_back _ (padded_size [] (omega arith))
made_back w (changing x) a = session_back _ (padded_size _ (change_holds _ _ _ x a).few_entries)
made_back w (asking q) a = session_again w

module _ (o : Operation) (w : List ℕ) where
  pub words_refused : (r : Numbered) → step_check o (node_in (session_in w)) ≡ refused r → words_after o w ≡ w
  unfolding words_after_by
  words_refused r p = ap (λ a. words_left a (session_after o (session_in w)) w) p

  pub words_accepted : step_check o (node_in (session_in w)) ≡ accepted → words_after o w ≡ words_in (session_made o (session_in w))
  unfolding words_after_by
  words_accepted p =
      ap (λ a. words_left a (session_after o (session_in w)) w) p ∙ ap words_in (after_accepted o (session_in w) p)

  pub words_session : session_in (words_after o w) ≡ session_after o (session_in w)
  words_session =
      ⊎_elim
      (λ p. ap session_in (words_accepted p) ∙ made_back w o p ∙ sym (after_accepted o (session_in w) p))
      (λ p. ap session_in (words_refused p.0 p.1) ∙ sym (after_refused o (session_in w) p.0 p.1))
      (either (step_check o (node_in (session_in w))))

  pub words_length : length w ≡ session_size → length (words_after o w) ≡ session_size
  words_length size =
      ⊎_elim
      (λ p. ap length (words_accepted p) ∙ session_length _ (made_sized w size o p))
      (λ p. ap length (words_refused p.0 p.1) ∙ size)
      (either (step_check o (node_in (session_in w))))

  -- what an operation in place leaves
  pub in_refused : (r : Refusal) → refused (numbered r) ≡ step_check o (node_in (session_in w)) → FollowsIn o w (Err r) w
  in_refused r p = record { answer = p; words = sym (words_refused (numbered r) (sym p)) }

  pub in_accepted : accepted ≡ step_check o (node_in (session_in w)) → (t : Session) → t ≡ session_made o (session_in w) → {after : List ℕ}
      → after ≡ words_in t → FollowsIn o w (Ok tt) after
  in_accepted p t made e = record { answer = p; words = e ∙ ap words_in made ∙ sym (words_accepted (sym p)) }

-- an operation by value, made in the words of the session
pub by_value : (o : Operation) (s : Session) → session_in (words_in s) ≡ s → {w left after : List ℕ} {a : Result Unit Refusal} {t : Session}
    → w ≡ words_in s → FollowsIn o w a left → left ≡ after → t ≡ session_in after → Follows o s a t
by_value o s same written h kept read =
    let g = rw (written, kept) at h in
    record {
      answer = g.answer ∙ ap (λ u. step_check o (node_in u)) same;
      session = read ∙ ap session_in g.words ∙ words_session o (words_in s) ∙ ap (session_after o) same;
    }

-- opening clears every word but the first, and stores that an empty node has a map
pub opened_words : (w : List ℕ) (levels : ℕ) → length w ≡ session_size → (cleared : List ℕ) → cleared ≡ take 1 w ++ zeros (length w - 1)
    → set (set cleared 0 levels) store_at 1 ≡ words_in (session_of (empty_node levels))
unfolding session_with zero_padded words_of
opened_words [] levels h cleared p = absurd (omega arith)
opened_words (x ∷ xs) levels h cleared p =
    let e : length (x ∷ xs) - 1 ≡ 1 + node_size + store_size = omega arith in
    ap (λ l. set (set l 0 levels) store_at 1) (p ∙ ap (λ n. x ∷ zeros n) e) ∙ sym (ap (λ l. levels ∷ 0 ∷ (zeros node_size ++ l)) (store_empty levels))

-- the words of the node, as they are lent, and the words with what comes back for them
abbrev pub part : List ℕ → List ℕ
part w = take node_size (drop node_at w)

abbrev with_part : List ℕ → List ℕ → List ℕ
with_part w ws = take node_at w ++ (ws ++ drop node_size (drop node_at w))

back : (w ws : List ℕ) → length w ≡ session_size → with_part w ws ≡ get_or w 0 0 ∷ get_or w 1 0 ∷ (ws ++ drop store_at w)
back [] ws h = absurd (omega arith)
back (levels ∷ []) ws h = absurd (omega arith)
back (levels ∷ count ∷ rest) ws h = refl

-- new entries in place of others in that part, with the new count before it, are those of the spliced session
module _ (w : List ℕ) (size : length w ≡ session_size) (p gone : ℕ) (new : List Entry) (within : p + gone ≤ get_or w 1 0)
    (room : get_or w 1 0 - gone + length new ≤ most_entries) where
  few : length (splice p gone new (node_in (session_in w)).entries) ≤ most_entries
  few =
      let kept = length-entries (part w) 0 (get_or w 1 0) in
      omega (arith, size_spliced p (node_in (session_in w)).entries gone new (omega arith), kept)

  pub splice_back : (left : ℕ) (ws : List ℕ) → left ≡ get_or w 1 0 - gone + length new
      → ws ≡ zero_padded (words_of (splice p gone new (node_in (session_in w)).entries))
      → session_in (set (with_part w ws) 1 left) ≡ spliced p gone new (session_in w)
  splice_back left ws e q =
      ap (λ l. session_in (set l 1 left)) (back w ws size)
      ∙ rw (e, q) (session_back (spliced p gone new (session_in w)) (padded_size _ few))

-- what the checks of the same session answered
pub asked : (x : Change) {s t : Session} → s ≡ t → {o : Outcome} → o ≡ step_check (changing x) (node_in s) → o ≡ step_check (changing x) (node_in t)
asked x e h = h ∙ ap (λ (s : Session). step_check (changing x) (node_in s)) e

-- an accepted change, from the words that were lent
module _ (w : List ℕ) (x : Change) (a : accepted ≡ step_check (changing x) (node_in (session_in w))) where
  abbrev made : Node
  made = changed x (node_in (session_in w))

  pub part_ready : Ready x (get_or w 1 0)
  part_ready = change_ready (part w) (get_or w 1 0) (get_or w 0 0) x (sym a)

  holds : NodeHolds (changed x (node_in (session_in w)))
  holds = change_holds _ _ _ x (sym a)

  made_is : {ws : List ℕ} → ws ≡ zero_padded (words_of (changed x (node_in (session_in w))).entries) → (store : List ℕ)
      → ◌≡◌ {A = Session} (record { levels = (changed x (node_in (session_in w))).levels; count = counted x (get_or w 1 0); words = ws; store = store })
      (session_with store (changed x (node_in (session_in w))))
  made_is q store = session_made_lem (part w) (get_or w 1 0) (get_or w 0 0) x part_ready _ q store

  -- the changed session, with its store as it was
  abbrev unstored : Session
  unstored = session_with (drop store_at w) made

  module _ (call : CallableChange x) where
    read_made : node_in unstored ≡ made
    read_made = read_with made (change_kept _ _ _ x (sym a) call) (drop store_at w)

    unstored_held : NodeHolds (node_in unstored)
    unstored_held = subst NodeHolds (sym read_made) holds

    -- and with the store that is due
    store_follows : (work : List ℕ → Node → List ℕ) → store_after_by rules x (session_in w) ≡ work (drop store_at w) made → {last : List ℕ}
        → last ≡ words_in (with_store_by work unstored) → FollowsIn (changing x) w (Ok tt) last
    unfolding session_with
    store_follows work q e =
        in_accepted (changing x) w a _
        (ap (λ (m : Node). session_with (work (drop store_at w) m) made) read_made ∙ ap (λ l. session_with l made) (sym q))
        e

    -- where entries change: worked out afresh
    module _ (same : (changed x (node_in (session_in w))).levels ≡ get_or w 0 0) where
      spliced_is : spliced (position_of x) (gone_of x) (new_of x) (session_in w) ≡ unstored
      spliced_is =
          ap (λ l. record (spliced (position_of x) (gone_of x) (new_of x) (session_in w)) { levels = l }) (sym same)
          ∙ made_is (ap (λ es. zero_padded (words_of es)) (sym (changed_is x (node_in (session_in w))))) (drop store_at w)

      pub splice_ready : Spliceable (position_of x) (gone_of x) (new_of x) (session_in w)
      splice_ready =
          record {
            within = (part_ready.within, part_ready.few);
            few = part_ready.room;
            held = subst (λ (s : Session). NodeHolds (node_in s)) (sym spliced_is) unstored_held;
          }

      pub splice_follows : store_after_by rules x (session_in w) ≡ store_of (changed x (node_in (session_in w))) → {last : List ℕ}
          → last ≡ words_in (remembered (spliced (position_of x) (gone_of x) (new_of x) (session_in w))) → FollowsIn (changing x) w (Ok tt) last
      splice_follows q e = store_follows (λ store n. store_of n) q (e ∙ ap (λ s. words_in (remembered s)) spliced_is)

-- where the level count is set: made of the store as it was
module _ (w : List ℕ) (size : length w ≡ session_size) (levels : ℕ) (a : accepted ≡ step_check (changing (setting_levels levels)) (node_in (session_in w)))
    {ws : List ℕ} (q : ws ≡ zero_padded (words_of (node_in (session_in w)).entries)) where
  abbrev setting : Change
  setting = setting_levels levels

  levels_in : session_in (set (with_part w ws) 0 levels) ≡ unstored w setting a
  unfolding changed session_with
  levels_in =
      let same : get_or w 1 0 ≡ counted setting (get_or w 1 0) = omega arith in
      ap (λ l. session_in (set l 0 levels)) (back w ws size)
      ∙ ap (λ n. session_in (levels ∷ n ∷ (ws ++ drop store_at w))) same
      ∙ ap (λ s. session_in (words_in s)) (made_is w setting a q (drop store_at w))
      ∙ session_back _ (padded_size _ (holds w setting a).few_entries)

  pub levels_held : NodeHolds (node_in (session_in (set (with_part w ws) 0 levels)))
  levels_held = subst (λ (s : Session). NodeHolds (node_in s)) (sym levels_in) (unstored_held w setting a tt)

  pub levels_follow : {last : List ℕ} → last ≡ words_in (remembered_at_levels (get_or w 0 0) (session_in (set (with_part w ws) 0 levels)))
      → FollowsIn (changing setting) w (Ok tt) last
  unfolding changed
  levels_follow e =
      store_follows w setting a tt (λ store n. store_at_levels completion_test (get_or w 0 0) n store) refl
      (e ∙ ap (λ s. words_in (remembered_at_levels (get_or w 0 0) s)) levels_in)

pub rows_words : (os : List Operation) (w : List ℕ) → session_in (words_after_all os w) ≡ session_after_all os (session_in w)
unfolding words_after_all session_after_all
rows_words [] w = refl
rows_words (o ∷ os) w = rows_words os (words_after o w) ∙ ap (session_after_all os) (words_session o w)
