-- A lent buffer after a store.
use Rattle.std.specs.Prelude.{ℕ, ◌+◌, List, ◌++◌, length, take, drop}

-- The buffer `old` with `new` stored from index `k` on, and everything else kept.
unfoldable pub over : List ℕ → ℕ → List ℕ → List ℕ
over old k new = take k old ++ (new ++ drop (k + length new) old)
