-- The object that a handle leads to.
-- Assumes nothing.
use Rattle.std.specs.Prelude.{ℕ, suc, ◌+◌, not, ◌≢◌, ◌≡◌, leb, Option, Some, None}
use Rattle.layout.specs.Choice.{pick, refuse}
use Rattle.layout.specs.Handle.{offset_of, area_of}
use Rattle.layout.specs.Header.{slots_of, data_of}
use Rattle.model.specs.State.{State, Memory, area_at, bit_index}
use Rattle.model.specs.Checks.{header_at, live, is_object, is_reference}
use Rattle.objects.specs.declared.find.Resolved.{Resolved}

-- the object that a live handle leads to: its header lies at the handle's offset in the handle's area, has its bit in the maps, and says its sizes
unfoldable pub object_of : State → Memory → ℕ → Resolved
object_of s m h = record {
  area = area_of h;
  at = (area_at s (area_of h)).start + offset_of h;
  bit = bit_index s (area_of h) (offset_of h);
  slots = slots_of (header_at s m h);
  data_words = data_of (header_at s m h);
}

-- what a look-up of a handle finds: the object, where the handle is live
unfoldable pub found_of : State → Memory → ℕ → Option Resolved
found_of s m h = pick (live s m h) (Some (object_of s m h)) None

-- the number of each case: "An object's handle that does not resolve to an object ends the call with 13; for a target or a loaded word other
-- than null it is 15"
abbrev pub refusal_of : ℕ → Option Resolved → ℕ
refusal_of n (Some o) = 0
refusal_of n None = n

-- what the number of a look-up's answer says: of an object's handle, and of a target or a loaded word
pub record RefusedAs (s : State) (m : Memory) (h : ℕ) (r : Option Resolved) : Type 0 where
  pub as_object : refusal_of 13 r ≡ refuse (not (is_object s m h)) 13 0
  pub as_reference : h ≢ 0 → refusal_of 15 r ≡ refuse (not (is_reference s m h)) 15 0

-- the object of a header, where it "ends within the used words", of which so many are left from the header on
unfoldable pub ends_of : ℕ → ℕ → ℕ → ℕ → ℕ → Option Resolved
ends_of header area at bit left =
    pick (leb (suc (slots_of header + data_of header)) left)
    (Some (record { area = area; at = at; bit = bit; slots = slots_of header; data_words = data_of header }))
    None
