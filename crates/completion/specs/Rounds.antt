-- The rounds, defined without the test: by the iterates of the demand from the initial time.
use Rattle.std.specs.Prelude.{ℕ, zero, suc, ◌+◌, ◌≤◌, ◌<◌, ◌≡◌}

-- Iterate k of w from t0. The iterates are t0, w t0, w (w t0) and so on.
unfoldable pub iterates : (ℕ → ℕ) → ℕ → ℕ → ℕ
iterates w t0 zero = t0
iterates w t0 (suc k) = w (iterates w t0 k)

-- t is a fixed point: the demand at t equals t.
abbrev pub Fixed : (ℕ → ℕ) → ℕ → Type 0
Fixed w t = w t ≡ t

-- On time at `time` in `rounds` rounds: iterate `rounds` - 1 is `time`. It is the first iterate that is a fixed point, and
-- is at most the limit d.
pub record FixedIn (w : ℕ → ℕ) (t0 d time rounds : ℕ) : Type 0 where
  pub last : ℕ
  pub counted : rounds ≡ last + 1
  pub reached : iterates w t0 last ≡ time
  pub fixed : Fixed w time
  pub first : (j : ℕ) → j < last → Fixed w (iterates w t0 j) → ⊥
  pub due : time ≤ d

-- Late in `rounds` rounds: the first `rounds` iterates are at most the limit d, and none of them is a fixed point. The next
-- iterate is above d.
pub record LateIn (w : ℕ → ℕ) (t0 d rounds : ℕ) : Type 0 where
  pub within : (j : ℕ) → j < rounds → iterates w t0 j ≤ d
  pub moving : (j : ℕ) → j < rounds → Fixed w (iterates w t0 j) → ⊥
  pub beyond : d < iterates w t0 rounds
