-- The checks with which calls begin, what a call on the state alone does, the rights, and liveness of a handle.
-- Assumes nothing.
use Rattle.std.specs.Prelude.{ℕ, suc, ◌+◌, Bool, not, ◌&&◌, ◌||◌, eqb, leb, ltb, length}
use Rattle.layout.specs.Choice.{refuse}
use Rattle.layout.specs.Handle.{null, offset_of, area_of, generation_of}
use Rattle.layout.specs.Header.{slots_of, data_of}
use Rattle.bitmap.specs.Bitmap.{bit_at}
use Rattle.rights.specs.Rights.{class_of, allows}
use Rattle.rights.specs.declared.Right.{Right}
use Rattle.rights.specs.declared.Right.TheVariants.{Use}
use Rattle.model.specs.State.{State, Memory, area_at, thread_at, is_open, word_at, bit_index}

-- "Every later call compares the three lengths"; the written map is "shaped like the start map and covered by refusal 1", so its length is
-- the start map's.
unfoldable pub fits : State → Memory → Bool
fits s m =
    eqb (length m.permanent) s.lengths.permanent
    && (eqb (length m.scratch) s.lengths.scratch
    && (eqb (length m.map) s.lengths.map && eqb (length m.written) s.lengths.map))

-- "thread started and not ended": it has a kind
abbrev pub is_started : State → ℕ → Bool
is_started s t = ltb 0 (thread_at s t).kind

-- "1: lengths are not those of set-up", then the rest of a call's refusals
unfoldable pub fitted : State → Memory → ℕ → ℕ
fitted s m rest = refuse (not (fits s m)) 1 rest

-- "2: thread above 15, or not started", then the rest
unfoldable pub called : State → ℕ → ℕ → ℕ
called s t rest = refuse (leb 16 t) 2 (refuse (not (is_started s t)) 2 rest)

-- both
abbrev pub admit : State → Memory → ℕ → ℕ → ℕ
admit s m t rest = fitted s m (called s t rest)

-- A call that touches no lent word, as a function of the state alone: the first refusal after 1, 0 where none meets; the value and the state
-- of the call that is accepted.
pub record Change : Type 0 where
  pub status : ℕ
  pub value : ℕ
  pub state : State

-- "5: rights table has 0": the right of a kind in the class of area a, by the table in force
abbrev pub kind_may : State → ℕ → Right → ℕ → Bool
kind_may s kind right a = allows s.rights kind (class_of a) right

-- of thread t's kind
unfoldable pub has_right : State → ℕ → Right → ℕ → Bool
has_right s t right a = kind_may s (thread_at s t).kind right a

-- the header that a handle leads to
abbrev pub header_at : State → Memory → ℕ → ℕ
header_at s m h = word_at s m (area_of h) (offset_of h)

-- "A handle is live if the area is heap, immortal or an open scope, the turn is the area's, the offset is below the used words, its map bit
-- is 1, and the whole object ends within the used words."
unfoldable pub live : State → Memory → ℕ → Bool
live s m h =
    (ltb (area_of h) 2 || is_open s (area_of h))
    && (eqb (generation_of h) (area_at s (area_of h)).generation
    && (ltb (offset_of h) (area_at s (area_of h)).used
    && (eqb (bit_at m.map (bit_index s (area_of h) (offset_of h))) 1
    && leb (suc (offset_of h + slots_of (header_at s m h) + data_of (header_at s m h))) (area_at s (area_of h)).used)))

-- "13: object null or not live", as a test that an object passes
unfoldable pub is_object : State → Memory → ℕ → Bool
is_object s m p = not (eqb p null) && live s m p

-- "15: target or loaded word neither null nor live", as a test that a reference passes
unfoldable pub is_reference : State → Memory → ℕ → Bool
is_reference s m x = eqb x null || live s m x

-- refusals 13 and 5, with which every call on an object goes on after 1 and 2: "U in 09, 0a and the shown part (the object's area), and in
-- 07 and 08 U for the object"
unfoldable pub use_rest : State → Memory → ℕ → ℕ → ℕ → ℕ
use_rest s m t p rest =
    refuse (not (is_object s m p)) 13
    (refuse (not (has_right s t Use (area_of p))) 5 rest)
