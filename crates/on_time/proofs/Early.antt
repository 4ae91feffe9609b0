-- Facts that decide whether an entry is on time, and when it ends, without following all its rounds, over the words of the
-- node.
use Prim.Native.Nat.{ℕ, ◌+◌, ◌-◌, ◌*◌, ◌/◌, ◌%◌, ◌≤◌, ◌<◌, min, max}
use native.Mathlib.Nat.{le_trans, add-mul, mul_comm, one-mul, mul-le-mul_left, mul-le-mul_right}
use mathlib.Core.Path.{◌≡◌, refl, sym, ap}
use mathlib.Core.Bool.{true, false, true≢false, false≢true}
use mathlib.Core.List.{List}
use mathlib.Core.Logic.{by_cases}
use native.Mathlib.Decide.{dec_le}
use native.Mathlib.Omega.{arith}
use Rattle.std.proofs.Common.{Some, None}
use Rattle.std.specs.Option.{unwrap_or}
use Rattle.std.proofs.lemmas.Grind.{div_ceil_times}
use Rattle.node_words.specs.Held.{held_entries}
use Rattle.node_words.specs.Words.{entry_of}
use Rattle.node_words.proofs.Entries.{all_at}
use Rattle.completion.specs.declared.timed.TimedEntry.{TimedEntry}
use Rattle.completion.specs.Demand.{sum_to}
use Rattle.completion.specs.Group.{group_level}
use Rattle.completion.specs.Test.{Completion, on_time, late, is_on_time, time_in}
use Rattle.completion.specs.Timed.{timed_limit, timed_demand, timed_start, timed_test}
use Rattle.on_time.specs.Deciding.{completion_time, NotBefore}
use Rattle.on_time.specs.Utilisation.{recurring_utilisation, recurring_wcet, recurring_jitter, WorkFits}
use Rattle.completion.proofs.Sums.{sum_to-up, sum_to-more}
use Rattle.completion.proofs.Words.{in_words, wcet_of}
use Rattle.completion.proofs.TimedLaws.{timed_words, known, last_known, timed_up, timed_begin, timed_initial}
use Rattle.completion.proofs.Theorems.{not_before, on_time_some, late_none, time_at}
use Rattle.on_time.proofs.Utilisation.{fits_by_utilisation}

abbrev pub utilisation_of : ℕ → List ℕ → ℕ → ℕ
utilisation_of d ws j = recurring_utilisation d (entry_of ws j)

abbrev pub run_of : ℕ → List ℕ → ℕ → ℕ
run_of d ws j = recurring_wcet d (entry_of ws j)

abbrev pub jitter_of : ℕ → List ℕ → ℕ → ℕ
jitter_of d ws j = recurring_jitter d (entry_of ws j)

-- what `div_ceil` gives is the least number whose product is enough
pub ceil_least : (x f t : ℕ) → 1 ≤ f → x ≤ f * t → x / f + min 1 (x % f) ≤ t
ceil_least x f t h l =
    let near = div_ceil_times x f h in
    by_cases (dec_le (x / f + min 1 (x % f)) t)
    (λ p. p)
    (λ n.
    let more : (t + 1) * f ≤ (x / f + min 1 (x % f)) * f = mul-le-mul_right f (omega arith) in
    absurd (omega (arith, near.1, more, add-mul t 1 f, mul_comm t f, one-mul f)))

-- and from there on every product is enough
pub ceil_enough : (x f y : ℕ) → 1 ≤ f → x / f + min 1 (x % f) ≤ y → x ≤ f * y
ceil_enough x f y h l = rw (mul_comm f y) (le_trans (div_ceil_times x f h).0 (mul-le-mul_right f l))

-- work that fits into some ticks fits into more
pub fits_later : (ws : List ℕ) (first d t0 s t : ℕ) → s ≤ t → WorkFits ws first d t0 s → WorkFits ws first d t0 t
fits_later ws first d t0 s t l h = le_trans h (mul-le-mul_left _ l)

-- an answer by its verdict, and by its time
pub time_some : (o : Completion) (t : ℕ) → is_on_time o ≡ true → time_in o ≡ t → Some t ≡ completion_time o
time_some (on_time time rounds) t p q = ap Some (sym q)
time_some (late rounds overrun) t p q = absurd (false≢true p)

pub time_none : (o : Completion) → is_on_time o ≡ false → None ≡ completion_time o
time_none (on_time time rounds) p = absurd (true≢false p)
time_none (late rounds overrun) p = refl

pub time_or_zero : (o : Completion) → unwrap_or (completion_time o) 0 ≡ time_in o
time_or_zero (on_time time rounds) = refl
time_or_zero (late rounds overrun) = refl

pub time_given : (o : Completion) (t : ℕ) → Some t ≡ completion_time o → t ≡ time_in o
time_given (on_time time rounds) t p = cc
time_given (late rounds overrun) t p = cc

pub has_time : (o : Completion) (t : ℕ) → Some t ≡ completion_time o → is_on_time o ≡ true
has_time (on_time time rounds) t p = refl
has_time (late rounds overrun) t p = cc

pub has_none : (o : Completion) → None ≡ completion_time o → is_on_time o ≡ false
has_none (on_time time rounds) p = cc
has_none (late rounds overrun) p = refl

-- What decides about a timed entry with the blocking b, whose limit is d.
module _ (x : TimedEntry) (b d : ℕ) (due : d ≡ timed_limit x) where
  -- late from the start
  pub late_initial : (s : ℕ) → s ≡ timed_start b x → d < s → is_on_time (timed_test b x) ≡ false
  late_initial s p h =
      (late_none b (held_entries x.node) x.node.held (group_level x.first x.last) x.position (known x)).1
      (λ t l w. omega (arith, due, not_before b (held_entries x.node) x.node.held (group_level x.first x.last) x.position (known x) t w))

  -- no time at which the demand is met is before the bound by the utilisation
  pub not_earlier : (s y : ℕ) → s ≡ timed_start b x
      → ((t : ℕ) → s ≤ t → WorkFits (timed_words x) x.first d s t → y ≤ t) → NotBefore b x y
  not_earlier s y p h t w =
      h t
      (omega (arith, not_before b (held_entries x.node) x.node.held (group_level x.first x.last) x.position (known x) t w))
      (rw (
        p,
        sym (in_words (timed_words x) x.node.count (recurring_utilisation d) x.first (omega arith)),
        sym (in_words (timed_words x) x.node.count (recurring_wcet d) x.first (omega arith)),
        sym (in_words (timed_words x) x.node.count (recurring_jitter d) x.first (omega arith)),
      )
      (fits_by_utilisation (held_entries x.node) x.node.held x.first x.last x.position (omega arith) (omega arith) (last_known x) b d t w))

  -- nor is it before the start, before a time that is known to be no later, or before the demand at such a time
  pub not_early : (s k y : ℕ) → s ≡ timed_start b x → y ≡ max s k → NotBefore b x k → NotBefore b x y
  not_early s k y p q h t w =
      omega (arith, h t w, not_before b (held_entries x.node) x.node.held (group_level x.first x.last) x.position (known x) t w)

  pub not_before_next : (t w : ℕ) → w ≡ timed_demand b x t → NotBefore b x t → NotBefore b x w
  not_before_next t w p h u m = rw p (le_trans (timed_up x b t u (h u m)) m)

  -- on time at t
  pub on_time_at : (t w : ℕ) → t ≤ d → w ≡ timed_demand b x t → w ≤ t → is_on_time (timed_test b x) ≡ true
  on_time_at t w l p h =
      (on_time_some b (held_entries x.node) x.node.held (group_level x.first x.last) x.position (known x)).1
      (t, omega (arith, due), omega (arith, p))

  -- it ends at t if no earlier time meets the demand, and is late if none up to the limit does
  pub ends_at : (t w : ℕ) → t ≤ d → w ≡ timed_demand b x t → w ≤ t → NotBefore b x t → Some t ≡ completion_time (timed_test b x)
  ends_at t w l p h f =
      time_some (timed_test b x) t (on_time_at t w l p h)
      (time_at b (held_entries x.node) x.node.held (group_level x.first x.last) x.position (known x) t (omega (arith, due)) (omega (arith, p)) f)

  pub ends_late : (t : ℕ) → d < t → NotBefore b x t → None ≡ completion_time (timed_test b x)
  ends_late t l h =
      time_none (timed_test b x)
      ((late_none b (held_entries x.node) x.node.held (group_level x.first x.last) x.position (known x)).1
      (λ u l' w. omega (arith, due, h u w)))

-- where the test starts: at the blocking and the runs, above the runs of the entries before the timed one
module _ (x : TimedEntry) (b : ℕ) where
  pub begins : (runs : ℕ) → runs ≡ sum_to (wcet_of (timed_words x)) (x.last + 1) → b + runs ≡ timed_start b x
  begins runs q = omega (arith, timed_initial x b)

  pub start_some : 1 ≤ timed_start b x
  start_some = (timed_begin x b).0

  pub runs_below : (m : ℕ) → m ≤ x.position → sum_to (wcet_of (timed_words x)) m < timed_start b x
  runs_below m h =
      omega (
        arith,
        timed_initial x b,
        sum_to-up (wcet_of (timed_words x)) m x.position h,
        sum_to-more (wcet_of (timed_words x)) x.position,
        sum_to-up (wcet_of (timed_words x)) (x.position + 1) (x.last + 1) (omega arith),
        (all_at (timed_words x) x.node.count x.node.held x.position (omega arith)).times,
      )
