-- The kinds of threads, as numbers.
-- Assumes nothing.
use Rattle.std.specs.Prelude.{ℕ, ◌≤◌, ◌<◌}

-- 1 ordinary, 2 real-time, 3 no-heap
abbrev pub IsKind : ℕ → Type 0
IsKind number = (0 < number) × (number ≤ 3)
