-- A word of an object by its index in a part: where it lies, and the refusals before it.
-- Assumes nothing.
use Rattle.std.specs.Prelude.{ℕ, suc, ◌+◌}
use Rattle.layout.specs.Handle.{offset_of, area_of}
use Rattle.model.specs.State.{State, Memory, bit_index}
use Rattle.model.specs.References.{place_after, slot_rest}
use Rattle.model.specs.Data.{data_rest, data_index}
use Rattle.objects.specs.declared.find.Resolved.{Resolved}
use Rattle.objects.specs.declared.index.Part.{Part}
use Rattle.objects.specs.declared.index.Part.TheVariants.{Slots, Data}
use Rattle.objects.specs.declared.index.WordPlace.{WordPlace}

-- how many words a part of an object has, and which of the words after the header is its first
abbrev pub part_count : Part → Resolved → ℕ
part_count Slots o = o.slots
part_count Data o = o.data_words

abbrev pub part_start : Part → Resolved → ℕ
part_start Slots o = 0
part_start Data o = o.slots

-- "14: slot or data index not below s or d", after 13 and 5, and before the rest of a call's refusals
abbrev pub index_rest : Part → State → Memory → ℕ → ℕ → ℕ → ℕ → ℕ
index_rest Slots s m t p q rest = slot_rest s m t p q rest
index_rest Data s m t p q rest = data_rest s m t p q rest

-- which of the words after the header is word q of a part
abbrev pub word_index : Part → State → Memory → ℕ → ℕ → ℕ
word_index Slots s m p q = q
word_index Data s m p q = data_index s m p q

-- where it lies, and its bit in the maps
unfoldable pub word_of : Part → State → Memory → ℕ → ℕ → WordPlace
word_of part s m p q = record {
  area = area_of p;
  at = place_after s p (word_index part s m p q);
  bit = bit_index s (area_of p) (suc (offset_of p + word_index part s m p q));
}
