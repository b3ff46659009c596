-- Set-up: its status, and the state that it gives.
-- Assumes nothing.
use Rattle.std.specs.Prelude.{ℕ, ◌+◌, ◌/◌, not, ◌∷◌, eqb, ltb, length, replicate}
use Rattle.layout.specs.Choice.{pick, refuse}
use Rattle.rights.specs.Rights.{built_in}
use Rattle.model.specs.declared.Area.{Area}
use Rattle.model.specs.declared.Lengths.{Lengths}
use Rattle.model.specs.State.{Thread, State, Memory, no_area}

-- the lengths that set-up keeps; the written map has the length of the start map, which is not kept twice
abbrev pub lengths_of : Memory → Lengths
lengths_of m = record { permanent = length m.permanent; scratch = length m.scratch; map = length m.map }

-- "It is refused by 1 unless h + i = P, P and S are each at most 16,384, and the map has exactly (P + S + 63) / 64 words, rounded down." The
-- written map, of k words, is "shaped like the start map and covered by refusal 1".
unfoldable pub set_up_status : ℕ → ℕ → Lengths → ℕ → ℕ
set_up_status h i n k =
    refuse (not (eqb (h + i) n.permanent)) 1
    (refuse (ltb 16384 n.permanent) 1
    (refuse (ltb 16384 n.scratch) 1
    (refuse (not (eqb n.map ((n.permanent + n.scratch + 63) / 64))) 1
    (refuse (not (eqb k n.map)) 1 0))))

-- of the buffers that are lent
abbrev pub begins : ℕ → ℕ → Memory → ℕ
begins h i m = set_up_status h i (lengths_of m) (length m.written)

-- heap and immortal: "both always have turn 1"
abbrev pub standing : ℕ → ℕ → Area
standing start size = record { start = start; size = size; used = 0; generation = 1; count = 0; parent = 0; depth = 0 }

-- no thread is started
abbrev pub new_thread : Thread
new_thread = record { kind = 0; len = 0; entries = replicate 32 0; inner = replicate 32 0 }

-- heap first, then immortal; no scope is made, no thread is started, no block of scratch is used; "the constant table .. stays in force until a load"
unfoldable pub first_state : ℕ → ℕ → Lengths → State
first_state h i n = record {
  areas = standing 0 h ∷ standing h i ∷ replicate 62 no_area;
  rows = replicate 64 (replicate 32 0);
  threads = replicate 16 new_thread;
  lengths = n;
  used_bits = replicate 16 0;
  rights = built_in;
}

-- "A refused set-up gives the state of an accepted one with all lengths 0. Set-up writes no word."
unfoldable pub set_up_state : ℕ → ℕ → Lengths → ℕ → State
set_up_state h i n k = pick (eqb (set_up_status h i n k) 0) (first_state h i n) (first_state 0 0 (record { permanent = 0; scratch = 0; map = 0 }))
