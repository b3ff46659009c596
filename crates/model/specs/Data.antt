-- Ops 09 and 0a: a data word is written or read; and an object's data shown as a part of its store.
-- Assumes nothing.
use Rattle.std.specs.Prelude.{ℕ, suc, ◌+◌, List, [], eqb, leb, take, drop}
use Rattle.layout.specs.Choice.{pick, refuse}
use Rattle.layout.specs.Handle.{offset_of, area_of}
use Rattle.layout.specs.Header.{slots_of, data_of}
use Rattle.bitmap.specs.Bitmap.{bit_at, with_bit}
use Rattle.model.specs.State.{State, Memory, store_of, with_written, bit_index}
use Rattle.model.specs.Checks.{admit, header_at, use_rest}
use Rattle.model.specs.References.{place_after, store_after}

-- ops 09 and 0a, refusals 13, 5, 14 after 1 and 2: "data index not below .. d"
unfoldable pub data_rest : State → Memory → ℕ → ℕ → ℕ → ℕ → ℕ
data_rest s m t p q rest = use_rest s m t p (refuse (leb (data_of (header_at s m p)) q) 14 rest)

-- data word q stands after the header and the slots
abbrev pub data_index : State → Memory → ℕ → ℕ → ℕ
data_index s m p q = slots_of (header_at s m p) + q

-- its bit in the written map
abbrev pub written_index : State → Memory → ℕ → ℕ → ℕ
written_index s m p q = bit_index s (area_of p) (suc (offset_of p + data_index s m p q))

-- op 09, refusals 13, 5, 14 after 1 and 2
abbrev pub write_rest : State → Memory → ℕ → ℕ → ℕ → ℕ
write_rest s m t p q = data_rest s m t p q 0

-- "op 09 sets the word's bit"
unfoldable pub write_memory : State → Memory → ℕ → ℕ → ℕ → Memory
write_memory s m p q r = with_written (store_after s m p (data_index s m p q) r) (with_bit m.written (written_index s m p q))

-- op 0a, refusals 13, 5, 14, 19 after 1 and 2: "19 when op 0a meets a word whose bit there is 0, after 14"
unfoldable pub read_rest : State → Memory → ℕ → ℕ → ℕ → ℕ
read_rest s m t p q = data_rest s m t p q (refuse (eqb (bit_at m.written (written_index s m p q)) 0) 19 0)

-- the shown part and the call beside it: "Refusals of this call (1, 2, 13, 5)"; "The shown part of a store still shows raw words", written or
-- not
abbrev pub view_refusal : State → Memory → ℕ → ℕ → ℕ
view_refusal s m t p = admit s m t (use_rest s m t p 0)

-- "shown as a part of the permanent or scratch store itself: exactly its d words. Refusals .. show a part of length 0"
unfoldable pub view_words : State → Memory → ℕ → ℕ → List ℕ
view_words s m t p =
    pick (eqb (view_refusal s m t p) 0)
    (take (data_of (header_at s m p)) (drop (place_after s p (data_index s m p 0)) (store_of m (area_of p))))
    []
