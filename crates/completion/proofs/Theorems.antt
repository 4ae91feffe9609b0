-- The theorems of the completion time test. They hold for any levels of the entries and any blocking of the timed entry.
-- Theorems about a group hold for any group bounds.
use Prim.Native.Nat.{ℕ, ◌+◌, ◌-◌, ◌≤◌, ◌<◌, zero-le}
use mathlib.Core.Path.{◌≡◌, ◌∙◌, refl, ap, sym}
use mathlib.Core.Bool.{true, false, false≢true}
use mathlib.Core.Logic.{◌↔◌, by_cases}
use mathlib.Core.List.{List}
use native.Mathlib.Nat.{le_refl, le_trans, le_antisymm}
use native.Mathlib.Decide.{dec_lt}
use native.Mathlib.Omega.{arith}
use lib.ListN.{length}
use lib.Dec.{ltb, eqb}
use Rattle.task_model.specs.declared.Entry.{Entry}
use Rattle.task_model.specs.Limits.{entry_at, AllHold}
use Rattle.completion.specs.Demand.{sum_to, demand_with, initial_time_with}
use Rattle.completion.specs.Group.{IsGroup, group_level}
use Rattle.completion.specs.Test.{Completion, on_time, late, limit, overrun, test_with, is_on_time, rounds_in, time_in, rounds_bound}
use Rattle.completion.specs.Rounds.{iterates, FixedIn, LateIn}
use Rattle.completion.specs.Right.{LeastTime, NoTime, LateBy, RightWith}
use Rattle.completion.proofs.Bounds.{limit_due}
use Rattle.completion.proofs.Sums.{sum_to-eq, sum_to-up, part_le}
use Rattle.completion.proofs.Releases.{same_level_most}
use Rattle.completion.proofs.Iteration.{Least, test_least}
use Rattle.completion.proofs.Rounds.{iterates_ahead, fixed_in, late_in, rounds_due, rounds_bounded}
use Rattle.completion.proofs.Interference.{demand_up, demand_some, initial_first, later, later_up, later_strict}
use Rattle.completion.proofs.Alike.{test_alike, initial_alike, demand_alike, demand_in_same}
use Rattle.completion.proofs.Groups.{higher_level_in, same_level_in, wcet_in, named_group, demand_in_lem, initial_in, demand_once_lem, demand_no_calls}

-- an answer is on time or late
module _ {A : Type 0} where
  pub by_answer : (o : Completion) → ((time rounds : ℕ) → o ≡ on_time time rounds → A) → ((rounds over : ℕ) → o ≡ late rounds over → A) → A
  by_answer (on_time time rounds) f g = f time rounds refl
  by_answer (late rounds over) f g = g rounds over refl

module _ (b : ℕ) (es : List Entry) (all : AllHold es) (level : ℕ → ℕ) (i : ℕ) (known : i < length es) where
  -- the demand, where the test starts, and its limit
  abbrev w : ℕ → ℕ
  w = demand_with b es level i

  abbrev begin : ℕ
  begin = initial_time_with b es level i

  abbrev d : ℕ
  d = limit (entry_at es i)

  up : (s t : ℕ) → s ≤ t → w s ≤ w t
  up = demand_up es all level i known b

  some : (t : ℕ) → 1 ≤ w t
  some = demand_some es all level i known b

  first : begin ≡ w 1
  first = initial_first es all level i known b

  begins : begin ≤ w begin
  begins = rw first (up 1 (w 1) (some 1))

  -- a time whose demand is at most that time is not before the start
  pub not_before : (t : ℕ) → demand_with b es level i t ≤ t → initial_time_with b es level i ≤ t
  not_before t h = rw first (le_trans (up 1 t (le_trans (some t) h)) h)

  least : Least w d up begin (test_with b es level i)
  unfolding test_with
  least = test_least w d up begin 0 begins

  -- The completion time is the least time whose demand is at most that time.
  pub completion_least : (time rounds : ℕ) → test_with b es level i ≡ on_time time rounds → LeastTime b es level i time
  completion_least time rounds p =
      let l = rw p at least in
      record {
        some = omega (arith, l.0, some time);
        due = l.2;
        equal = l.0;
        first = λ t h. l.3 t (not_before t h) h;
      }

  -- An entry is on time exactly if some time up to its limit has a demand of at most that time, and late exactly if none
  -- has.
  pub on_time_some : is_on_time (test_with b es level i) ≡ true
      ↔ ((t : ℕ) × (t ≤ limit (entry_at es i)) × (demand_with b es level i t ≤ t))
  on_time_some = (
    λ p.
        by_answer (test_with b es level i)
        (λ time rounds e. let l = completion_least time rounds e in (time, l.due, omega (arith, l.equal)))
        (λ rounds over e. absurd (false≢true (sym (ap is_on_time e) ∙ p))),
    λ h.
        by_answer (test_with b es level i)
        (λ time rounds e. ap is_on_time e)
        (λ rounds over e. absurd (let l = rw e at least in omega (arith, l h.0 (not_before h.0 h.2) h.2))),
  )

  -- So an entry is on time exactly if some time whose demand is at most that time, plus its own J, is at most D.
  pub on_time_jitter : is_on_time (test_with b es level i) ≡ true
      ↔ ((t : ℕ) × (t + (entry_at es i).jitter ≤ (entry_at es i).deadline) × (demand_with b es level i t ≤ t))
  unfolding limit
  on_time_jitter = (
    λ p. let h = on_time_some.0 p in (h.0, omega (arith, (all i known).times, (all i known).jitter, h.1), h.2),
    λ h. on_time_some.1 (h.0, omega (arith, h.1), h.2),
  )

  pub late_none : is_on_time (test_with b es level i) ≡ false ↔ NoTime b es level i
  late_none = (
    λ p t h l. false≢true (sym p ∙ on_time_some.1 (t, h, l)),
    λ h.
        by_answer (test_with b es level i)
        (λ time rounds e. let l = completion_least time rounds e in absurd (h time l.due (omega (arith, l.equal))))
        (λ rounds over e. ap is_on_time e),
  )

  -- The completion time is the first time whose demand is at most that time, if it is up to the limit,
  pub time_at : (t : ℕ) → t ≤ limit (entry_at es i) → demand_with b es level i t ≤ t
      → ((u : ℕ) → demand_with b es level i u ≤ u → t ≤ u) → time_in (test_with b es level i) ≡ t
  time_at t due h first =
      by_answer (test_with b es level i)
      (λ time rounds e.
      let l = completion_least time rounds e in
      ap time_in e ∙ le_antisymm (l.first t h) (first time (omega (arith, l.equal))))
      (λ rounds over e. absurd (late_none.0 (ap is_on_time e) t due h))

  -- and 0 if there is none up to the limit.
  pub time_late : NoTime b es level i → time_in (test_with b es level i) ≡ 0
  time_late h =
      by_answer (test_with b es level i)
      (λ time rounds e. absurd (false≢true (sym (late_none.1 h) ∙ ap is_on_time e)))
      (λ rounds over e. ap time_in e)

  -- So no time whose demand is at most that time is before it.
  pub time_least : (t : ℕ) → demand_with b es level i t ≤ t → time_in (test_with b es level i) ≤ t
  time_least t h =
      by_answer (test_with b es level i)
      (λ time rounds e. rw e ((completion_least time rounds e).first t h))
      (λ rounds over e. rw e zero-le)

  -- A demand at the limit of at most the limit means on time. The converse fails (`overrun_cases` of level_map).
  pub on_time_limit : demand_with b es level i (limit (entry_at es i)) ≤ limit (entry_at es i) → is_on_time (test_with b es level i) ≡ true
  on_time_limit h = on_time_some.1 (limit (entry_at es i), le_refl _, h)

  -- So the demand of a late entry at its limit is above the limit.
  pub late_beyond : is_on_time (test_with b es level i) ≡ false → limit (entry_at es i) < demand_with b es level i (limit (entry_at es i))
  late_beyond p = by_cases (dec_lt (limit (entry_at es i)) (demand_with b es level i (limit (entry_at es i)))) (λ y. y)
      (λ z. absurd (late_none.0 p (limit (entry_at es i)) (le_refl _) (omega arith)))

  -- While the test goes on, the demand is never below the time.
  pub never_below : (k : ℕ)
      → iterates (demand_with b es level i) (initial_time_with b es level i) k
      ≤ demand_with b es level i (iterates (demand_with b es level i) (initial_time_with b es level i) k)
  never_below = iterates_ahead w d up begin begins

  -- What the rounds are, by the iterates of the demand from the start.
  pub on_time_rounds : (time rounds : ℕ) → test_with b es level i ≡ on_time time rounds
      ↔ FixedIn (demand_with b es level i) (initial_time_with b es level i) (limit (entry_at es i)) time rounds
  unfolding test_with
  on_time_rounds = fixed_in w d up begin begins

  pub late_rounds : (rounds over : ℕ) → test_with b es level i ≡ late rounds over
      ↔ (LateIn (demand_with b es level i) (initial_time_with b es level i) (limit (entry_at es i)) rounds
      × (over ≡ overrun (demand_with b es level i) (limit (entry_at es i))))
  unfolding test_with
  late_rounds = late_in w d up begin begins

  -- The overrun of a late answer is at least 1. By so much the demand at the limit is above the limit, and a longer limit has to
  -- be longer by so much at least.
  pub late_by_lem : (rounds over : ℕ) → test_with b es level i ≡ late rounds over → LateBy b es level i over
  unfolding overrun
  late_by_lem rounds over p =
      let o : over ≡ w d - d = ((late_rounds rounds over).0 p).1 in
      let l : d < w d = late_beyond (ap is_on_time p) in
      let after : (t : ℕ) → w t ≤ t → d < t =
      λ t h. by_cases (dec_lt d t) (λ y. y) (λ z. absurd (late_none.0 (ap is_on_time p) t (omega arith) h)) in
      record {
        some = omega (arith, o, l);
        beyond = omega (arith, o, l);
        least = λ t h. let s = after t h in omega (arith, o, l, h, up d t (omega arith));
      }

  -- There are no more rounds than ticks up to the limit,
  pub rounds_limit : rounds_in (test_with b es level i) ≤ limit (entry_at es i)
  unfolding test_with
  rounds_limit = rounds_due w d up begin begins (rw first (some 1))

  -- and no more than 1 and the releases after the first, up to the deadline, of the others on its own and more urgent
  -- levels.
  pub rounds_releases : rounds_in (test_with b es level i) ≤ rounds_bound es level i
  unfolding test_with rounds_bound
  rounds_releases =
      rw first
      (le_trans
      (rounds_bounded w d up (some 1) (λ t. sum_to (later es level i t) (length es)) (later_up es all level i known)
      (later_strict es all level i known b))
      (omega (arith, later_up es all level i known d (entry_at es i).deadline (limit_due (entry_at es i) (all i known)))))

  -- The test's answer is right, and so is every answer that equals it.
  pub timing_right : (o : Completion) → o ≡ test_with b es level i → RightWith b es level i o
  timing_right o p = rw p (record { least = completion_least; late_if_none = late_none; late_by = late_by_lem; bounded = rounds_releases })

-- The answer depends only on which entries are more urgent than the timed one, and which are beside it.
pub alike : (b : ℕ) (es : List Entry) (lv lv' : ℕ → ℕ) (i : ℕ)
    → ((j : ℕ) → j < length es → (ltb (lv j) (lv i) ≡ ltb (lv' j) (lv' i)) × (eqb (lv j) (lv i) ≡ eqb (lv' j) (lv' i)))
    → test_with b es lv i ≡ test_with b es lv' i
alike b es lv lv' i h =
    test_alike b b es es lv lv' i refl (initial_alike b es lv lv' i h) (λ t. demand_alike b es lv lv' i h t)

-- The answer of an entry in a group depends only on C, T and J up to the group's last entry, and on its own limit, blocking
-- and r: any two nodes that agree in these, each with the entry's group from `first` to `last`, give the same.
pub same_group : (b : ℕ) (es es' : List Entry) (lv lv' : ℕ → ℕ) (first last i : ℕ) → first ≤ i → i ≤ last
    → last < length es → last < length es' → IsGroup (length es) first last i lv → IsGroup (length es') first last i lv'
    → ((j : ℕ) → j ≤ last
    → ((entry_at es j).wcet ≡ (entry_at es' j).wcet) × ((entry_at es j).period ≡ (entry_at es' j).period) × ((entry_at es j).jitter ≡ (entry_at es' j).jitter))
    → limit (entry_at es i) ≡ limit (entry_at es' i)
    → (entry_at es i).calls ≡ (entry_at es' i).calls
    → test_with b es lv i ≡ test_with b es' lv' i
same_group b es es' lv lv' first last i hf hi hl hl' g g' ct d r =
    test_alike b b es es' lv lv' i d
    (initial_in es first last i lv g hf hi hl b
    ∙ ap (λ x. b + x) (sum_to-eq (wcet_in es) (wcet_in es') (last + 1) (λ j l. (ct j (omega arith)).0))
    ∙ sym (initial_in es' first last i lv' g' hf hi hl' b))
    (λ t.
    demand_in_lem es first last i lv g hf hi hl b t ∙ demand_in_same es es' first last i hf hi ct r b t
    ∙ sym (demand_in_lem es' first last i lv' g' hf hi hl' b t))

-- An entry that is on time is on time wherever its demand is no greater.
pub on_time_less : (es : List Entry) → AllHold es → (i : ℕ) → i < length es → (b b' : ℕ) (lv lv' : ℕ → ℕ)
    → ((t : ℕ) → 1 ≤ t → demand_with b' es lv' i t ≤ demand_with b es lv i t)
    → is_on_time (test_with b es lv i) ≡ true → is_on_time (test_with b' es lv' i) ≡ true
on_time_less es all i known b b' lv lv' less p =
    let t = (on_time_some b es all lv i known).0 p in
    (on_time_some b' es all lv' i known).1
    (t.0, t.1, le_trans (less t.0 (le_trans (demand_some es all lv i known b t.0) t.2)) t.2)

-- So it stays on time when its group loses entries at its end,
pub shrink : (b : ℕ) (es : List Entry) → AllHold es → (first last last' i : ℕ) → first ≤ i → i ≤ last' → last' ≤ last → last < length es
    → is_on_time (test_with b es (group_level first last) i) ≡ true
    → is_on_time (test_with b es (group_level first last') i) ≡ true
shrink b es all first last last' i hf hi hl known =
    on_time_less es all i (omega arith) b b (group_level first last) (group_level first last')
    (λ t some.
    let wide = demand_in_lem es first last i (group_level first last) (named_group first last (length es) i hf (omega arith)) hf (omega arith) known b t in
    let small = demand_in_lem es first last' i (group_level first last') (named_group first last' (length es) i hf hi) hf hi (omega arith) b t in
    omega (arith, wide, small, sum_to-up (same_level_in es i t) (last' + 1) (last + 1) (omega arith)))

-- and when more urgent entries just before its group join it.
pub widen : (b : ℕ) (es : List Entry) → AllHold es → (first first' last i : ℕ) → first' ≤ first → first ≤ i → i ≤ last → last < length es
    → is_on_time (test_with b es (group_level first last) i) ≡ true
    → is_on_time (test_with b es (group_level first' last) i) ≡ true
widen b es all first first' last i le hf hi known =
    on_time_less es all i (omega arith) b b (group_level first last) (group_level first' last)
    (λ t some.
    let narrow = demand_in_lem es first last i (group_level first last) (named_group first last (length es) i hf hi) hf hi known b t in
    let wide = demand_in_lem es first' last i (group_level first' last) (named_group first' last (length es) i (omega arith) hi) (omega arith) hi known b t in
    let less = part_le (same_level_in es i t) (higher_level_in es t) first' first le
    (λ j l. same_level_most (entry_at es j) (all j (omega arith)) (entry_at es i).calls t) in
    omega (
      arith,
      wide,
      narrow,
      less,
      sum_to-up (same_level_in es i t) first' first le,
      sum_to-up (higher_level_in es t) first' first le,
      sum_to-up (same_level_in es i t) first i hf,
    ))

-- In one group, an entry j with no remote calls has the least demand for its blocking. So it ends no later than another entry
-- i with no less blocking: its completion time is one before which the other does not end.
module _ (es : List Entry) (all : AllHold es) (first last i j : ℕ) (fi : first ≤ i) (il : i ≤ last) (fj : first ≤ j) (jl : j ≤ last)
    (known : last < length es) (none : (entry_at es j).calls ≡ 0) (b b' : ℕ) (less : b' ≤ b) where
  pub less_demand : (t : ℕ) → 1 ≤ t → demand_with b' es (group_level first last) j t ≤ demand_with b es (group_level first last) i t
  less_demand t p =
      let n = length es in
      let lv = group_level first last in
      omega (
        arith,
        demand_no_calls es first last j lv (named_group first last n j fj jl) fj jl known all b' t none,
        demand_once_lem es first last i lv (named_group first last n i fi il) fi il known all b t p,
      )

  pub later_ends : (t : ℕ) → demand_with b es (group_level first last) i t ≤ t → time_in (test_with b' es (group_level first last) j) ≤ t
  later_ends t h =
      let some = demand_some es all (group_level first last) i (omega arith) b t in
      time_least b' es all (group_level first last) j (omega arith) t (le_trans (less_demand t (le_trans some h)) h)
