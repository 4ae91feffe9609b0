-- The theorems of the session.
use Prim.Native.Nat.{ℕ, ◌≤◌, ◌<◌}
use mathlib.Core.Path.{◌≡◌, ◌∙◌, refl, sym, ap, subst}
use mathlib.Core.Logic.{⊎_elim, ◌↔◌}
use mathlib.Core.Bool.{true, false≢true}
use mathlib.Core.Option.{some}
use mathlib.Core.List.{List, ◌∷◌}
use native.Mathlib.Omega.{arith}
use lib.ListN.{length}
use Rattle.task_model.specs.declared.Entry.{Entry}
use Rattle.refusals.specs.Refusals.{Numbered, at, accepted, refused}
use Rattle.task_model.specs.Limits.{most_levels, Node, NodeValid, entry_at, NumbersDiffer}
use Rattle.task_model.specs.Checks.{node_check}
use Rattle.task_model.proofs.Laws.{node_sizes}
use Rattle.node_words.proofs.Entries.{length-entries}
use Rattle.refusals.proofs.Outcomes.{giving_refuses, either}
use Rattle.task_model.proofs.Theorems.{node_accepted}
use Rattle.completion.specs.Group.{IsGroup, group_level}
use Rattle.completion.specs.Test.{Completion, completion_test, on_time, late, is_on_time, time_in}
use Rattle.completion.specs.Right.{LateBy, RightTiming}
use Rattle.completion.proofs.Groups.{named_group}
use Rattle.completion.proofs.Theorems.{timing_right, same_group}
use Rattle.level_map.specs.Assignments.{level_of}
use Rattle.level_map.specs.Map.{the_map}
use Rattle.level_map.specs.Answer.{is_some, map_of, held_answer, NodeBestMapOrNone}
use Rattle.level_map.proofs.Theorems.{mapping as mapping-of}
use Rattle.map_store.proofs.Asking.{timed_given}
use Rattle.session.specs.declared.Session.{Session}
use Rattle.node_words.specs.Words.{node_size}
use Rattle.session.specs.State.{node_in, session_with, session_of, Sound, blank_session}
use Rattle.node_words.specs.Lists.{zeros}
use Rattle.session.specs.Operations.{rules, Change, CallableChange, Query, Operation, opening, changing, asking, inserting, removing, replacing, changed, mapping, timing, map_timing, AllCallable, operation_check, operation_check_by, empty_node, node_after_all, answers_all, lent_check_by, step_check, step_check_by}
use Rattle.refusals.specs.Answers.{gives, refuses, left}
use Rattle.session.specs.Timing.{time_answer}
use Rattle.map_store.specs.Store.{store_of, has_map, stored_used, stored_levels, stored_time}
use Rattle.map_store.proofs.Theorems.{store_has, store_kept}
use Rattle.session.specs.Asking.{call_check, map_given, map_time_given}
use Rattle.session.specs.Mapping.{map_answer, map_time_answer, Remembers}
use Rattle.session.specs.Steps.{store_after_by, session_after, session_after_all, answers_of}
use Rattle.session.specs.InWords.{session_size, session_in, words_in, words_after, words_after_all}
use Rattle.session.proofs.Reading.{Kept, read_back}
use Rattle.session.proofs.Checking.{
  levels_within,
  lent_stops,
  insert_outside_lem,
  insert_full,
  time_inside,
  time_else,
  time_refused,
  time_given,
  time_ready,
  after_refused,
  after_accepted,
}
use Rattle.session.proofs.Mapping.{of_node, asked_time, own_answer, own_time, sound_map, sound_left, sound_time, sound_best}
use Rattle.session.proofs.InWords.{change_kept, words_back, session_back, words_refused, words_accepted, rows_words}
use Rattle.session.proofs.Sequences.{kept_empty, own_checks, rows_session, rows_answers, rows_kept}

-- From the opening, by any row of operations, refused ones included, and whatever the memory held before. `levels` is
-- the level count at opening, `os` the row.
module _ (levels : ℕ) (low : 1 ≤ levels) (few : levels ≤ most_levels) (os : List Operation) (call : AllCallable os) (s : Session) where
  opened_accepted : step_check (opening levels) (node_in s) ≡ accepted
  unfolding step_check_by lent_check_by operation_check_by
  opened_accepted = levels_within levels low few

  called_open : call_check (opening levels) s ≡ step_check (opening levels) (node_in s)
  unfolding call_check
  called_open = refl

  opened_session : session_after (opening levels) s ≡ session_of (empty_node levels)
  opened_session = after_accepted (opening levels) s opened_accepted

  opened_kept : Kept (empty_node levels)
  opened_kept = kept_empty levels low few

  -- The session is the session of the node that the definition makes of the list of changes: its contents, and every slot
  -- beyond them.
  pub session_follows : session_after_all (opening levels ∷ os) s ≡ session_of (node_after_all os (empty_node levels))
  unfolding session_after_all
  session_follows =
      ap (session_after_all os) opened_session ∙ rows_session os (empty_node levels) opened_kept call

  -- Its level count and its entries are those of the definition.
  pub contents_follow : node_in (session_after_all (opening levels ∷ os) s) ≡ node_after_all os (empty_node levels)
  contents_follow = ap node_in session_follows ∙ read_back _ (rows_kept os (empty_node levels) opened_kept call)

  -- Every operation of the row answers by its own checks, in their order, and by no others.
  pub answers_follow : answers_of (opening levels ∷ os) s ≡ accepted ∷ answers_all os (empty_node levels)
  unfolding answers_of
  answers_follow =
      ap (λ a. a ∷ answers_of os (session_after (opening levels) s)) (called_open ∙ opened_accepted)
      ∙ ap (λ xs. accepted ∷ xs) (ap (answers_of os) opened_session ∙ rows_answers os (empty_node levels) opened_kept call)

  -- Sessions made by opening and operations are sound.
  pub made_sound : Sound (session_after_all (opening levels ∷ os) s)
  made_sound =
      record {
        valid = rw contents_follow (rows_kept os (empty_node levels) opened_kept call).valid;
        determined = session_follows ∙ ap session_of (sym contents_follow);
      }

  -- So they never hold an entry number twice.
  pub session_numbers : NumbersDiffer (node_in (session_after_all (opening levels ∷ os) s)).entries
  session_numbers = made_sound.valid.numbers

-- On a sound session an operation's own checks hold exactly.
pub sound_checks : (o : Operation) (s : Session) → Sound s → step_check o (node_in s) ≡ operation_check o (node_in s)
sound_checks o s h = own_checks o (node_in s) h.valid

-- A sound session is determined by its level count and its list of entries.
pub sound_same : (s t : Session) → Sound s → Sound t → node_in s ≡ node_in t → s ≡ t
sound_same s t h g p = h.determined ∙ ap session_of p ∙ sym g.determined

-- An accepted insert, remove or replace leaves a sound session, whatever its store held before.
module _ (s : Session) where
  afresh_sound : (c : Change) → CallableChange c → step_check (changing c) (node_in s) ≡ accepted
      → store_after_by rules c s ≡ store_of (changed c (node_in s)) → Sound (session_after (changing c) s)
  afresh_sound c call a p =
      let k = change_kept s.words s.count s.levels c a call in
      let e : session_after (changing c) s ≡ session_of (changed c (node_in s))
      = after_accepted (changing c) s a ∙ ap (λ st. session_with st (changed c (node_in s))) p in
      subst Sound (sym e)
      (record {
        valid = subst NodeValid (sym (read_back (changed c (node_in s)) k)) k.valid;
        determined = ap session_of (sym (read_back (changed c (node_in s)) k));
      })

  pub insert_sound : (position : ℕ) (e : Entry) → e.number < 65536
      → step_check (changing (inserting position e)) (node_in s) ≡ accepted → Sound (session_after (changing (inserting position e)) s)
  insert_sound position e short a = afresh_sound (inserting position e) short a refl

  pub remove_sound : (position : ℕ) → step_check (changing (removing position)) (node_in s) ≡ accepted
      → Sound (session_after (changing (removing position)) s)
  remove_sound position a = afresh_sound (removing position) tt a refl

  pub replace_sound : (position : ℕ) (e : Entry) → e.number < 65536
      → step_check (changing (replacing position e)) (node_in s) ≡ accepted → Sound (session_after (changing (replacing position e)) s)
  replace_sound position e short a = afresh_sound (replacing position e) short a refl

-- A refused call changes nothing.
pub refused_unchanged : (o : Operation) (s : Session) (r : Numbered) → step_check o (node_in s) ≡ refused r → session_after o s ≡ s
refused_unchanged o s r p = after_refused o s r p

-- A session that holds no node of a file is turned back as that node would be, by every operation but opening.
pub forged_refused : (o : Operation) (s : Session) (r : Numbered) → ((levels : ℕ) → o ≡ opening levels → ⊥)
    → node_check 0 (node_in s) ≡ refused r → step_check o (node_in s) ≡ refused r
unfolding lent_check_by
forged_refused (opening levels) s r out p = absurd (out levels refl)
forged_refused (changing c) s r out p = lent_stops (changing c) (node_in s) r p
forged_refused (asking q) s r out p = lent_stops (asking q) (node_in s) r p

-- So every call but opening answers, whatever its store holds,
pub forged_called : (o : Operation) (s : Session) (r : Numbered) → ((levels : ℕ) → o ≡ opening levels → ⊥)
    → node_check 0 (node_in s) ≡ refused r → call_check o s ≡ refused r
unfolding call_check
forged_called (opening levels) s r out p = absurd (out levels refl)
forged_called (changing c) s r out p = forged_refused (changing c) s r out p
forged_called (asking q) s r out p = rw p

-- and a blank session is turned back with 4.
pub blank_refused : (o : Operation) → ((levels : ℕ) → o ≡ opening levels → ⊥) → call_check o blank_session ≡ refused (at 4 0 0)
blank_refused o out = forged_called o blank_session (at 4 0 0) out (node_sizes 0 (node_in blank_session) (λ h1 h2 h3. omega arith))

-- With 64 entries an insert at 64 is 13 and at 65 is 12.
module _ (n : Node) (full : length n.entries ≡ 64) (e : Entry) where
  pub insert_at_64 : operation_check (changing (inserting 64 e)) n ≡ refused (at 13 0 0)
  insert_at_64 = insert_full n 64 e (omega arith) (omega arith)

  pub insert_at_65 : operation_check (changing (inserting 65 e)) n ≡ refused (at 12 0 0)
  insert_at_65 = insert_outside_lem n 65 e (omega arith)

-- Timing in a sound session is the completion time test, for any group bounds in the list, and 12 for all others.
module _ (s : Session) (h : Sound s) (first last i : ℕ) where
  pub time_follows : first ≤ i → i ≤ last → last < length (node_in s).entries
      → time_answer (node_in s) first last i ≡ gives (completion_test (node_in s).entries (group_level first last) i)
  time_follows hf hi hl =
      time_given (node_in s) first last i (sound_checks (asking (timing first last i)) s h ∙ time_inside (node_in s) first last i hf hi hl)

  pub time_refuses : ((first ≤ i) → (i ≤ last) → (last < length (node_in s).entries) → ⊥)
      → time_answer (node_in s) first last i ≡ refuses (at 12 0 0)
  time_refuses out =
      time_refused (node_in s) first last i (at 12 0 0)
      (sound_checks (asking (timing first last i)) s h ∙ time_else (node_in s) first last i out)

-- What timing answers is right, whatever the session holds: the completion time is the least, an entry is late exactly if
-- there is none up to D - J, and then its demand at D - J is above D - J by the overrun; the rounds are within their bound.
pub time_right : (s : Session) (first last i : ℕ) (o : Completion) → time_answer (node_in s) first last i ≡ gives o
    → RightTiming (node_in s).entries (group_level first last) i o
time_right s first last i o p =
    ⊎_elim
    (λ a.
    let q = time_ready s.words s.count s.levels first last i a in
    let t = time_given (node_in s) first last i a in
    timing_right _ (node_in s).entries q.0 (group_level first last) i (omega (arith, length-entries s.words 0 s.count)) o (cc))
    (λ a. let t = time_refused (node_in s) first last i a.0 a.1 in absurd (let z : ◌≡◌ {A = ℕ} 0 1 = cc in omega arith))
    (either (step_check (asking (timing first last i)) (node_in s)))

-- So a completion time is never 0.
pub time_some : (s : Session) (first last i time rounds : ℕ)
    → time_answer (node_in s) first last i ≡ gives (on_time time rounds) → 1 ≤ time
time_some s first last i time rounds p = ((time_right s first last i (on_time time rounds) p).least time rounds refl).some

-- An overrun is never 0: the demand at D - J is D - J plus the overrun.
pub time_late : (s : Session) (first last i rounds over : ℕ)
    → time_answer (node_in s) first last i ≡ gives (late rounds over)
    → LateBy (entry_at (node_in s).entries i).blocking (node_in s).entries (group_level first last) i over
time_late s first last i rounds over p = (time_right s first last i (late rounds over) p).late_by rounds over refl

-- Mapping, as an operation of a row, is refused exactly as its answer says, and so is asking for a time under the map; on any
-- session.
pub map_refusal : (s : Session) (room : ℕ) (r : Numbered)
    → call_check (asking (mapping room)) s ≡ refused r ↔ map_given s room ≡ refuses r
unfolding map_given
map_refusal s room r = ((λ p. rw p), λ p. giving_refuses (call_check (asking (mapping room)) s) _ r (sym p))

pub map_time_refusal : (s : Session) (i : ℕ) (r : Numbered)
    → call_check (asking (map_timing i)) s ≡ refused r ↔ map_time_given s i ≡ refuses r
unfolding map_time_given
map_time_refusal s i r = ((λ p. rw p), λ p. giving_refuses (call_check (asking (map_timing i)) s) _ r (sym p))

-- A sound session remembers: its store holds what is worked out afresh from its entries and its level count.
module _ (s : Session) (h : Sound s) where
  count_is : s.count ≡ length (node_in s).entries
  unfolding session_with
  count_is = ap (λ (t : Session). t.count) h.determined

  pub sound_remembers : Remembers s
  sound_remembers =
      let n = node_in s in
      let within = h.valid.within in
      record {
        has = of_node s h (λ st l c. has_map st l) ∙ store_has n within;
        used = λ m p. of_node s h (λ st l c. stored_used st) ∙ (store_kept n within m p).used;
        levels = λ m p. of_node s h (λ st l c. stored_levels st c) ∙ (store_kept n within m p).levels;
        times = λ m p i l. of_node s h (λ st l c. stored_time st i) ∙ (store_kept n within m p).times i l;
      }

  -- Mapping it checks 10, then 11, and answers and writes as mapping its node afresh does,
  pub map_answers : (room : ℕ) → map_given s room ≡ held_answer (node_in s) room
  map_answers = sound_map s h

  pub map_writes : (buffer : List ℕ)
      → left (map_given s (length buffer)) (stored_levels s.store s.count) buffer
      ≡ left (held_answer (node_in s) (length buffer)) (map_of (node_in s)) buffer
  map_writes buffer =
      ap (λ a. left a (stored_levels s.store s.count) buffer) (map_answers (length buffer)) ∙ sound_left s h (length buffer) buffer

  -- as it did before there was a store,
  pub map_afresh : (room : ℕ) → map_given s room ≡ map_answer (node_in s) room
  map_afresh room = map_answers room ∙ sym (own_answer (node_in s) ((node_accepted 0 (node_in s)).1 h.valid) room)

  -- with promise 3 of docs/SPEC.md, into a buffer of a byte an entry or more.
  pub map_best_or_none : (buffer : List ℕ)
      → NodeBestMapOrNone (node_in s) buffer (map_given s (length buffer))
      (left (map_given s (length buffer)) (stored_levels s.store s.count) buffer)
  map_best_or_none buffer = sound_best s h buffer _ _ refl refl

  -- Asking for a time under the map checks 12, then 11, and gives the time that the test gives afresh.
  pub map_time_afresh : (i : ℕ) → map_time_given s i ≡ map_time_answer (node_in s) i
  map_time_afresh i = sound_time s h i ∙ sym (own_time (node_in s) ((node_accepted 0 (node_in s)).1 h.valid) i)

-- The stored time is what timing the entry in its group of the map answers: on time, with that time. So it is the completion
-- time of the test, and never the 0 of a late entry.
on_time_of : (c : Completion) → is_on_time c ≡ true → (rounds : ℕ) × (c ≡ on_time (time_in c) rounds)
on_time_of (on_time t r) p = (r, refl)
on_time_of (late r o) p = absurd (false≢true p)

module _ (s : Session) (h : Sound s) (m : List ℕ) (p : the_map (node_in s).entries (node_in s).levels ≡ some m) (first last i : ℕ)
    (hf : first ≤ i) (hi : i ≤ last) (hl : last < length (node_in s).entries)
    (g : IsGroup (length (node_in s).entries) first last i (level_of m)) where
  pub map_time_in_group : (rounds : ℕ) × (map_time_given s i ≡ gives (stored_time s.store i))
      × (time_answer (node_in s) first last i ≡ gives (on_time (stored_time s.store i) rounds))
  map_time_in_group =
      let es = (node_in s).entries in
      let inside : i < length es = omega arith in
      let r = sound_remembers s h in
      let same = same_group _ es es (level_of m) (group_level first last) first last i hf hi hl hl g
      (named_group first last (length es) i hf hi) (λ j k. (refl, refl, refl)) refl refl in
      let o = on_time_of (completion_test es (level_of m) i) ((mapping-of es h.valid.within.each (node_in s).levels m p).passing.in_time i inside) in (
        o.0,
        asked_time s ((node_accepted 0 (node_in s)).1 h.valid) i
            ∙ timed_given s.store s.levels s.count i (omega (arith, count_is s h)) (r.has ∙ ap is_some p),
        time_follows s h first last i hf hi hl
            ∙ ap gives (sym same ∙ o.1 ∙ ap (λ t. on_time t o.0) (sym (r.times m p i inside))),
      )

-- A session as 516 words: each form is the inverse of the other. (The array of a session's node has as many words as that
-- asks.)
pub words_inverse : (w : List ℕ) → length w ≡ session_size → words_in (session_in w) ≡ w
words_inverse w h = words_back w h

pub session_inverse : (s : Session) → length s.words ≡ node_size → session_in (words_in s) ≡ s
session_inverse s long = session_back s long

-- Zero in every word is the session that is not open.
pub zero_words : session_in (zeros session_size) ≡ blank_session
zero_words = refl

-- A refused operation leaves the words untouched.
pub words_unchanged : (o : Operation) (w : List ℕ) (r : Numbered) → step_check o (node_in (session_in w)) ≡ refused r
    → words_after o w ≡ w
words_unchanged o w r p = words_refused o w r p

-- By definition, mapping and timing, in a group or under the map, leave them untouched, whatever they answer. (The functions are
-- lent the words by `&`, so their types say so.)
pub words_asked : (q : Query) (w : List ℕ) → length w ≡ session_size → words_after (asking q) w ≡ w
words_asked q w h =
    ⊎_elim
    (λ p. words_accepted (asking q) w p ∙ words_back w h)
    (λ p. words_refused (asking q) w p.0 p.1)
    (either (step_check (asking q) (node_in (session_in w))))

-- After any row of operations the words hold the session after that row, so what is said of sessions above holds of them.
pub words_follow : (os : List Operation) (w : List ℕ) → session_in (words_after_all os w) ≡ session_after_all os (session_in w)
words_follow os w = rows_words os w

-- So it is with the words that a caller in C lends, whatever they held before: after the opening and any row of operations,
-- refused ones included,
module _ (levels : ℕ) (low : 1 ≤ levels) (few : levels ≤ most_levels) (os : List Operation) (call : AllCallable os) (w : List ℕ) where
  -- they are those of a sound session,
  pub words_sound : Sound (session_in (words_after_all (opening levels ∷ os) w))
  words_sound = subst Sound (sym (words_follow (opening levels ∷ os) w)) (made_sound levels low few os call (session_in w))

  -- which holds no entry number twice,
  pub words_numbers : NumbersDiffer (node_in (session_in (words_after_all (opening levels ∷ os) w))).entries
  words_numbers = words_sound.valid.numbers

  -- and the store among these words holds what is worked out afresh from the entries and the level count that they hold: the
  -- map, or that there is none, how many levels it uses, and the completion time of every entry under it.
  pub words_remember : Remembers (session_in (words_after_all (opening levels ∷ os) w))
  words_remember = sound_remembers _ words_sound

-- The same of a session that is lent by reference.
pub session_remembers : (levels : ℕ) → 1 ≤ levels → levels ≤ most_levels → (os : List Operation) → AllCallable os → (s : Session)
    → Remembers (session_after_all (opening levels ∷ os) s)
session_remembers levels low few os call s = sound_remembers _ (made_sound levels low few os call s)
