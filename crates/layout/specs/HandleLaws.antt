-- Handles and headers: packing and unpacking undo each other.
-- Assumes nothing.
use Rattle.std.specs.Prelude.{◌≡◌, ℕ, ◌<◌}
use Rattle.std.proofs.Common.{arith}
use Rattle.layout.specs.Handle.{handle_of, offset_of, area_of, generation_of}
use Rattle.layout.specs.Header.{header_of, slots_of, data_of}

-- ---- handles

pub offset_packed : (o a g : ℕ) → o < 16384 → offset_of (handle_of o a g) ≡ o
unfolding handle_of offset_of
offset_packed o a g ho = omega arith

pub area_packed : (o a g : ℕ) → o < 16384 → a < 64 → area_of (handle_of o a g) ≡ a
unfolding handle_of area_of
area_packed o a g ho ha = omega arith

pub generation_packed : (o a g : ℕ) → o < 16384 → a < 64 → generation_of (handle_of o a g) ≡ g
unfolding handle_of generation_of
generation_packed o a g ho ha = omega arith

-- a handle is made of its parts
pub packed : (h : ℕ) → handle_of (offset_of h) (area_of h) (generation_of h) ≡ h
unfolding handle_of offset_of area_of generation_of
packed h = omega arith

pub offset_lt : (h : ℕ) → offset_of h < 16384
unfolding offset_of
offset_lt h = omega arith

pub area_lt : (h : ℕ) → area_of h < 64
unfolding area_of
area_lt h = omega arith

-- a handle of generation 1 or later is not null
pub not_null : (o a g : ℕ) → 0 < g → 0 < handle_of o a g
unfolding handle_of
not_null o a g hg = omega arith

-- ---- headers

pub slots_packed : (s d : ℕ) → s < 16384 → slots_of (header_of s d) ≡ s
unfolding header_of slots_of
slots_packed s d hs = omega arith

pub data_packed : (s d : ℕ) → s < 16384 → d < 16384 → data_of (header_of s d) ≡ d
unfolding header_of data_of
data_packed s d hs hd = omega arith

pub slots_lt : (h : ℕ) → slots_of h < 16384
unfolding slots_of
slots_lt h = omega arith

pub data_lt : (h : ℕ) → data_of h < 16384
unfolding data_of
data_lt h = omega arith

-- ---- samples 1 and 2 of document 01

pub sample_1 : handle_of 3 5 2 ≡ 2179075
unfolding handle_of
sample_1 = omega arith

pub sample_2 : header_of 1 1 ≡ 16385
unfolding header_of
sample_2 = omega arith
