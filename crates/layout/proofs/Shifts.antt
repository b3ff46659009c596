-- Shifts and masks at 64 bits, in plain arithmetic.
-- Assumes nothing.
use mathlib.Core.Path.{◌≡◌, ◌∙◌}
use Prim.Native.Nat.{ℕ, ◌+◌, ◌*◌, ◌%◌, ◌^◌}
use native.Mathlib.Omega.{arith}
use lib.Bits.{bit_and, bit_or, and_mask, or_shifted}
use Rattle.layout.specs.Handle.{handle_of}
use Rattle.layout.specs.Header.{header_of}

-- `(d & 0x3fff) << 14 | s & 0x3fff`
pub two_fields : (s d : ℕ) → bit_or (bit_and d 0x3fff * 2 ^ 14 % 2 ^ 64) (bit_and s 0x3fff) ≡ header_of (s % 2 ^ 14) (d % 2 ^ 14)
unfolding header_of
two_fields s d =
    let all : (d % 2 ^ 14) * 2 ^ 14 % 2 ^ 64 ≡ (d % 2 ^ 14) * 2 ^ 14 = omega arith in
    rw (and_mask s 14, and_mask d 14, all) (or_shifted (d % 2 ^ 14) 14 (s % 2 ^ 14) (omega arith) ∙ omega arith)

-- `g << 20 | (a & 0x3f) << 14 | o & 0x3fff`
pub three_fields : (o a g : ℕ)
    → bit_or (bit_or (g * 2 ^ 20 % 2 ^ 64) (bit_and a 0x3f * 2 ^ 14 % 2 ^ 64)) (bit_and o 0x3fff) ≡ handle_of (o % 2 ^ 14) (a % 2 ^ 6) (g % 2 ^ 44)
unfolding handle_of
three_fields o a g =
    let low = a % 2 ^ 6 in
    let high = g % 2 ^ 44 in
    let all : low * 2 ^ 14 % 2 ^ 64 ≡ low * 2 ^ 14 = omega arith in
    let cut : g * 2 ^ 20 % 2 ^ 64 ≡ high * 2 ^ 20 = omega arith in
    let both : bit_or (high * 2 ^ 20) (low * 2 ^ 14) ≡ (high * 2 ^ 6 + low) * 2 ^ 14 = or_shifted high 20 (low * 2 ^ 14) (omega arith) ∙ omega arith in
    rw (and_mask a 6, and_mask o 14, all, cut, both) (or_shifted (high * 2 ^ 6 + low) 14 (o % 2 ^ 14) (omega arith) ∙ omega arith)
