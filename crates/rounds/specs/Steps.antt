-- Steps: a call of the system that moves n bytes takes n + 1 of them, so that what is left tells what was read and written.
-- Assumes nothing.
use Rattle.std.specs.Prelude.{ℕ, ◌+◌, ◌≡◌}

-- a read of n bytes; where it fails, it gave nothing, and one step is left, for this round's write of nothing
pub data Read (before after n : ℕ) : Type 0 where
  read : after + n + 1 ≡ before → Read before after n
  unread : after ≡ 1 → n ≡ 0 → Read before after n

-- a write of n bytes; where it fails, no step is left
pub data Wrote (before after n : ℕ) : Type 0 where
  wrote : after + n + 1 ≡ before → Wrote before after n
  unwritten : after ≡ 0 → Wrote before after n
