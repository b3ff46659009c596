-- Ops 07 and 08: a reference is stored in a slot, or loaded from one.
-- Assumes nothing.
use Rattle.std.specs.Prelude.{ℕ, suc, ◌+◌, Bool, not, ◌||◌, eqb, leb, ltb, get_or, set}
use Rattle.layout.specs.Choice.{refuse}
use Rattle.layout.specs.Handle.{null, offset_of, area_of}
use Rattle.layout.specs.Header.{slots_of}
use Rattle.rights.specs.declared.Right.TheVariants.{Refer}
use Rattle.model.specs.State.{State, Memory, area_at, store_of, with_store, display_holds}
use Rattle.model.specs.Checks.{has_right, header_at, is_reference, use_rest}

-- "a target in heap or immortal may be stored anywhere. A target in a scope may be stored only in an object of that scope or of one that has
-- it among its ancestors." The areas of the object and of the target.
unfoldable pub may_refer : State → ℕ → ℕ → Bool
may_refer s object target = ltb target 2 || display_holds s target object

-- the place in its store of word i after an object's header
abbrev pub place_after : State → ℕ → ℕ → ℕ
place_after s p i = (area_at s (area_of p)).start + suc (offset_of p + i)

-- the word there
abbrev pub word_after : State → Memory → ℕ → ℕ → ℕ
word_after s m p i = get_or (store_of m (area_of p)) (place_after s p i) 0

-- the memory with another word there
unfoldable pub store_after : State → Memory → ℕ → ℕ → ℕ → Memory
store_after s m p i v = with_store m (area_of p) (set (store_of m (area_of p)) (place_after s p i) v)

-- "14: slot .. index not below s"
unfoldable pub slot_rest : State → Memory → ℕ → ℕ → ℕ → ℕ → ℕ
slot_rest s m t p q rest = use_rest s m t p (refuse (leb (slots_of (header_at s m p)) q) 14 rest)

-- "then R for the target or loaded word, where null always passes", after 15
unfoldable pub reference_rest : State → Memory → ℕ → ℕ → ℕ → ℕ
reference_rest s m t x rest =
    refuse (not (is_reference s m x)) 15
    (refuse (not (eqb x null || has_right s t Refer (area_of x))) 5 rest)

-- op 07, refusals 13, 5 (U), 14, 15, 5 (R), 16 after 1 and 2: "assignment rule forbids"; "Null may be stored always."
unfoldable pub store_rest : State → Memory → ℕ → ℕ → ℕ → ℕ → ℕ
store_rest s m t p q r =
    slot_rest s m t p q (reference_rest s m t r (refuse (not (eqb r null || may_refer s (area_of p) (area_of r))) 16 0))

-- op 08, refusals 13, 5 (U), 14, 15, 5 (R) after 1 and 2
unfoldable pub load_rest : State → Memory → ℕ → ℕ → ℕ → ℕ
load_rest s m t p q = slot_rest s m t p q (reference_rest s m t (word_after s m p q) 0)
