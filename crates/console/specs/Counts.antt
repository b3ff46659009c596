-- Counts: how much of a buffer was read, and how much of one is written. It is `IsPrefixLen` of std's own contracts of reads, which a crate over std
-- cannot name.
-- Assumes nothing.
use Rattle.std.specs.Prelude.{ℕ, ◌≡◌, ◌≤◌, List, length, take}

-- the first n bytes of xs are there to be taken: `&xs[..n]` is in bounds, and has n bytes. The second part follows from the first.
abbrev pub IsPrefixLen : ℕ → List ℕ → Type 0
IsPrefixLen n xs = (n ≤ length xs) × (n ≡ length (take n xs))
