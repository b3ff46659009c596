-- Allocating an object keeps a sound memory.
-- Assumes nothing.
use Prim.Native.Nat.{ℕ, zero, suc, ◌+◌, ◌-◌, ◌*◌, ◌/◌, ◌≤◌, ◌<◌}
use mathlib.Core.Bool.{true}
use mathlib.Core.List.{List, ◌∷◌}
use mathlib.Core.Path.{◌≡◌, refl, sym, ap, ◌∙◌}
use mathlib.Core.Logic.{◌≢◌, ◌⊎◌, inl, inr, ⊎_elim}
use lib.ListN.{length, get_or, length-set}
use lib.Seq.{get_or-set_same, get_or-set_other}
use lib.Dec.{eqb, ltb}
use native.Mathlib.Omega.{arith}
use borrow.Author.Tests.{ltb-true, ltb-false, eqb-true, eqb-false}
use Rattle.layout.specs.Choice.{cases}
use Rattle.layout.specs.Handle.{handle_of, area_of}
use Rattle.layout.specs.Header.{header_of}
use Rattle.layout.specs.HandleLaws.{offset_packed, slots_packed, data_packed}
use Rattle.bitmap.specs.Bitmap.{bit_at, with_bit, cleared}
use Rattle.bitmap.specs.BitmapLaws.{length_cleared, bit_with_same, bit_with_other, cleared_inside, cleared_outside}
use Rattle.model.specs.declared.Area.{Area}
use Rattle.model.specs.State.{State, Memory, area_at, display_at, store_of, with_store, word_at, bit_index}
use Rattle.model.specs.Checks.{fits}
use Rattle.model.specs.Objects.{current_at, grown, filled, object_words, object_bits, unwritten_bits, object_maps, allocate_state, allocate_memory, allocate_value}
use Rattle.model.specs.History.{Object, History, put_at, history_allocate}
use Rattle.model.specs.Invariant.{count_in, Good}
use Rattle.model.proofs.Accepted.{AllocateOk}
use Rattle.model.proofs.Tiles.{place, IsHeader, Tile}
use Rattle.model.proofs.Memory.{mem_cong, mem_alloc, put_other}
use Rattle.model.proofs.Sound.{Same, used_in, generation_in, bit_in, Sound}
use Rattle.model.proofs.PlacedWords.{size_room, used_in_lem, one_word, one_place, word_in, bit_in_lem, written_in, replaced, read_same, store_fits, fits_also}
use Rattle.model.proofs.Alters.{Alters, same_field, allocate_alters, allocate_rows}
use Rattle.model.proofs.MemoryKept.{moved_all, dead_on}
use Rattle.model.proofs.Bounds.{current_area, current_open}
use Rattle.model.proofs.NestingClaims.{stacks}

-- ---- a run of words

length_filled : (l : List ℕ) (p n v : ℕ) → length (filled l p n v) ≡ length l
unfolding filled
length_filled l p zero v = refl
length_filled l p (suc n) v = length-set (filled l p n v) (p + n) v ∙ length_filled l p n v

filled_other : (l : List ℕ) (p n v i : ℕ) → ((k : ℕ) → k < n → i ≢ p + k) → get_or (filled l p n v) i 0 ≡ get_or l i 0
unfolding filled
filled_other l p zero v i f = refl
filled_other l p (suc n) v i f =
    get_or-set_other (filled l p n v) (p + n) i v 0 (f n (omega arith)) ∙ filled_other l p n v i (λ k h. f k (omega arith))

filled_in : (l : List ℕ) (p n v k : ℕ) → p + n ≤ length l → k < n → get_or (filled l p n v) (p + k) 0 ≡ v
unfolding filled
filled_in l p zero v k h c = absurd (omega arith)
filled_in l p (suc n) v k h c = cases (eqb k n)
    (λ e. rw (eqb-true k n e) (get_or-set_same (filled l p n v) (p + n) v 0 (omega (arith, length_filled l p n v))))
    (λ e. get_or-set_other (filled l p n v) (p + n) (p + k) v 0 (λ z. eqb-false k n e (omega arith)) ∙ filled_in l p n v k (omega arith) (omega (arith, eqb-false k n e)))

-- ---- the words of an object at a place of a store

header_made : (slots data_words : ℕ) → slots + data_words < 16384 → {h : ℕ} → IsHeader (header_of slots data_words) (record { handle = h; slots = slots; data_words = data_words })
header_made slots data_words small = record {
  slots = slots_packed slots data_words (omega arith);
  data_words = data_packed slots data_words (omega arith) (omega arith);
  top = unfold header_of in omega arith;
}

module _ (l : List ℕ) (at slots data_words : ℕ) where
  length_object : length (object_words l at slots data_words) ≡ length l
  unfolding object_words
  length_object = length-set (filled l (suc at) (slots + data_words) 0) at (header_of slots data_words) ∙ length_filled l (suc at) (slots + data_words) 0

  object_other : (i : ℕ) → ((k : ℕ) → k ≤ slots + data_words → i ≢ at + k) → get_or (object_words l at slots data_words) i 0 ≡ get_or l i 0
  unfolding object_words
  object_other i f =
      get_or-set_other (filled l (suc at) (slots + data_words) 0) at i (header_of slots data_words) 0 (λ e. f 0 (omega arith) (omega arith))
      ∙ filled_other l (suc at) (slots + data_words) 0 i (λ k h e. f (suc k) (omega arith) (omega arith))

  object_head : at < length l → get_or (object_words l at slots data_words) at 0 ≡ header_of slots data_words
  unfolding object_words
  object_head h = get_or-set_same (filled l (suc at) (slots + data_words) 0) at (header_of slots data_words) 0 (omega (arith, length_filled l (suc at) (slots + data_words) 0))

  object_zero : (k : ℕ) → suc (at + (slots + data_words)) ≤ length l → k < slots + data_words → get_or (object_words l at slots data_words) (suc (at + k)) 0 ≡ 0
  unfolding object_words
  object_zero k h c =
      get_or-set_other (filled l (suc at) (slots + data_words) 0) at (suc (at + k)) (header_of slots data_words) 0 (λ e. omega arith)
      ∙ (ap (λ (i : ℕ). get_or (filled l (suc at) (slots + data_words) 0) i 0) (omega arith) ∙ filled_in l (suc at) (slots + data_words) 0 k (omega arith) c)

-- ---- its bits

-- a number that is none of a run lies below or above it
outside_run : (at n v : ℕ) → ((k : ℕ) → k ≤ n → v ≢ at + k) → (v < at) ⊎ (at + suc n ≤ v)
outside_run at n v f = cases (ltb v at)
    (λ e. inl (ltb-true v at e))
    (λ e. cases (ltb v (at + suc n))
    (λ d. absurd (f (v - at) (omega (arith, ltb-true v (at + suc n) d, ltb-false v at e)) (omega (arith, ltb-false v at e))))
    (λ d. inr (ltb-false v (at + suc n) d)))

module _ (map : List ℕ) (at n : ℕ) (h : suc (at + n) ≤ 64 * length map) where
  at_in : at / 64 < length (cleared map (suc at) n)
  at_in = omega (arith, length_cleared map (suc at) n)

  bits_head : bit_at (object_bits map at n) at ≡ 1
  unfolding object_bits
  bits_head = bit_with_same (cleared map (suc at) n) at at_in

  bits_inside : (v : ℕ) → at < v → v ≤ at + n → bit_at (object_bits map at n) v ≡ 0
  unfolding object_bits
  bits_inside v p q = bit_with_other (cleared map (suc at) n) at at_in v (λ e. omega arith) ∙ cleared_inside map (suc at) n v (omega arith) (omega arith) (omega arith)

  bits_other : (v : ℕ) → ((k : ℕ) → k ≤ n → v ≢ at + k) → bit_at (object_bits map at n) v ≡ bit_at map v
  unfolding object_bits
  bits_other v f =
      bit_with_other (cleared map (suc at) n) at at_in v (λ e. f 0 (omega arith) (omega arith))
      ∙ cleared_outside map (suc at) n v (omega arith) (⊎_elim (λ l. inl (omega arith)) (λ g. inr (omega arith)) (outside_run at n v f))

length_bits : (map : List ℕ) (at n : ℕ) → length (object_bits map at n) ≡ length map
unfolding object_bits with_bit
length_bits map at n = length-set (cleared map (suc at) n) _ _ ∙ length_cleared map (suc at) n

length_unwritten : (written : List ℕ) (at n : ℕ) → length (unwritten_bits written at n) ≡ length written
unfolding unwritten_bits
length_unwritten written at n = length_cleared written at (suc n)

-- ---- an object on top of area c, which has room for it

module _ (s : State) (m : Memory) (b : History) (o : Sound s m b) (c slots data_words : ℕ) (hc : c < 64)
    (rm : suc (used_in s c + slots + data_words) ≤ (area_at s c).size) where
  abbrev n : State
  n = allocate_state s c slots data_words

  abbrev k : Memory
  k = allocate_memory s m c slots data_words

  abbrev made : Object
  made = record { handle = allocate_value s c; slots = slots; data_words = data_words }

  -- the memory with the object's bits alone
  abbrev marked : Memory
  marked = object_maps m (bit_index s c (used_in s c)) (slots + data_words)

  to : Alters s (allocate_state s c slots data_words) c (grown (area_at s c) (suc (used_in s c + slots + data_words)))
  to = allocate_alters s o.good.areas c hc slots data_words

  start_is : (a : ℕ) → (area_at n a).start ≡ (area_at s a).start
  start_is = same_field to (λ (x : Area). x.start) refl

  index_is : (a j : ℕ) → bit_index n a j ≡ bit_index s a j
  index_is a j = rw (to.lengths, start_is a)

  map_is : k.map ≡ object_bits m.map (bit_index s c (used_in s c)) (slots + data_words)
  unfolding allocate_memory with_store
  map_is = refl

  written_is : k.written ≡ unwritten_bits m.written (bit_index s c (used_in s c)) (slots + data_words)
  unfolding allocate_memory with_store
  written_is = refl

  -- a used word of any area is none of the object's
  clear : (a j : ℕ) → j < used_in s a → (i : ℕ) → (a ≡ c) × (j ≡ used_in s c + i) → ⊥
  clear a j p i w = omega (arith, ap (used_in s) w.0, w.1)

  words_in : suc ((area_at s c).start + used_in s c + (slots + data_words)) ≤ length (store_of m c)
  words_in = omega (arith, word_in s m o.good.placed o.supplied c hc (used_in s c + slots + data_words) rm)

  bits_in : suc (bit_index s c (used_in s c) + (slots + data_words)) ≤ 64 * length m.map
  bits_in = omega (arith, bit_in_lem s m o.good.placed o.supplied c hc (used_in s c + slots + data_words) rm)

  pub word_other : (a j : ℕ) → a < 64 → j < used_in s a → word_at n k a j ≡ word_at s m a j
  unfolding allocate_memory
  word_other a j h p = rw (start_is a) (read_same marked c _ a ((area_at s a).start + j) (λ e.
      object_other (store_of m c) ((area_at s c).start + used_in s c) slots data_words ((area_at s a).start + j) (λ i l d.
      clear a j p i (one_place s o.good.placed a c h hc j (used_in s c + i) (used_in_lem s o.good.placed a h j p) (omega arith) e (omega arith)))))

  bit_other : (a j : ℕ) → a < 64 → j < used_in s a → bit_in n k a j ≡ bit_in s m a j
  bit_other a j h p = rw (map_is, index_is a j) (ap (λ (x : ℕ). eqb x 1)
      (bits_other m.map (bit_index s c (used_in s c)) (slots + data_words) bits_in (bit_index s a j) (λ i l d.
      clear a j p i (one_word s o.good.placed a c h hc j (used_in s c + i) (used_in_lem s o.good.placed a h j p) (omega arith) (omega arith)))))

  -- the written bits of other words are as they were, those of the object's words are 0
  written_room : bit_index s c (used_in s c) + suc (slots + data_words) ≤ 64 * length m.written
  written_room = omega (arith, written_in s m o.good.placed o.supplied c hc (used_in s c + slots + data_words) rm)

  pub written_other : (a j : ℕ) → a < 64 → j < used_in s a → bit_at k.written (bit_index n a j) ≡ bit_at m.written (bit_index s a j)
  unfolding unwritten_bits
  written_other a j h p = rw (written_is, index_is a j)
      (cleared_outside m.written (bit_index s c (used_in s c)) (suc (slots + data_words)) (bit_index s a j) written_room
      (outside_run (bit_index s c (used_in s c)) (slots + data_words) (bit_index s a j) (λ i l d.
      clear a j p i (one_word s o.good.placed a c h hc j (used_in s c + i) (used_in_lem s o.good.placed a h j p) (omega arith) (omega arith)))))

  pub written_here : (j : ℕ) → used_in s c ≤ j → j ≤ used_in s c + (slots + data_words) → bit_at k.written (bit_index n c j) ≡ 0
  unfolding unwritten_bits
  written_here j p q = rw (written_is, index_is c j)
      (cleared_inside m.written (bit_index s c (used_in s c)) (suc (slots + data_words)) (bit_index s c j) written_room (omega arith) (omega arith))

  pub at_place : place made ≡ used_in s c
  unfolding allocate_value
  at_place = offset_packed (used_in s c) c (generation_in s c) (omega (arith, size_room s o.good.placed c hc))

  -- the words of c, as laid
  word_here : (j : ℕ) → word_at n k c j ≡ get_or (object_words (store_of m c) ((area_at s c).start + used_in s c) slots data_words) ((area_at s c).start + j) 0
  unfolding allocate_memory
  word_here j = rw (start_is c, replaced marked c (object_words (store_of m c) ((area_at s c).start + used_in s c) slots data_words) c refl)

  bit_here : (j : ℕ) → bit_in n k c j ≡ eqb (bit_at (object_bits m.map (bit_index s c (used_in s c)) (slots + data_words)) (bit_index s c j)) 1
  bit_here j = rw (map_is, index_is c j)

  pub made_tile : Tile (word_at n k c) (bit_in n k c) (λ y. y ≡ 0) (λ y. handle_of y c (generation_in s c)) made (suc (used_in s c + slots + data_words))
  made_tile = record {
    made = value ∙ ap (λ (y : ℕ). handle_of y c (generation_in s c)) (sym at_place);
    ends = ap (λ (y : ℕ). suc (y + slots + data_words)) at_place;
    head = rw (at_place, word_here (used_in s c), object_head (store_of m c) ((area_at s c).start + used_in s c) slots data_words (omega (arith, words_in)))
        (header_made slots data_words (omega (arith, size_room s o.good.placed c hc)));
    on = rw at_place (bit_here (used_in s c) ∙ ap (λ (x : ℕ). eqb x 1) (bits_head m.map (bit_index s c (used_in s c)) (slots + data_words) bits_in));
    off = λ j p q. bit_here j ∙ ap (λ (x : ℕ). eqb x 1)
        (bits_inside m.map (bit_index s c (used_in s c)) (slots + data_words) bits_in (bit_index s c j) (omega (arith, at_place)) (omega arith));
    refs = λ j p. rw at_place (word_here (suc (used_in s c + j))
        ∙ ap (λ (i : ℕ). get_or (object_words (store_of m c) ((area_at s c).start + used_in s c) slots data_words) i 0) (omega arith)
        ∙ object_zero (store_of m c) ((area_at s c).start + used_in s c) slots data_words j words_in (omega arith));
  }
    where
      value : allocate_value s c ≡ handle_of (used_in s c) c (generation_in s c)
      value = unfold allocate_value in refl

  count_is : (a : ℕ) → count_in n a ≡ count_in s a
  count_is = same_field to (λ (x : Area). x.count) refl

  generation_is : (a : ℕ) → generation_in n a ≡ generation_in s a
  generation_is = same_field to (λ (x : Area). x.generation) refl

  display_is : (a : ℕ) → display_at n a ≡ display_at s a
  unfolding display_at
  display_is a = rw (allocate_rows s c slots data_words a, same_field to (λ (x : Area). x.depth) refl a)

  fits_then : fits n k ≡ true
  unfolding fits allocate_memory
  fits_then = rw to.lengths (store_fits marked c (object_words (store_of m c) ((area_at s c).start + used_in s c) slots data_words) s
      (fits_also s m o.supplied marked refl refl (length_bits m.map (bit_index s c (used_in s c)) (slots + data_words))
      (length_unwritten m.written (bit_index s c (used_in s c)) (slots + data_words)))
      (length_object (store_of m c) ((area_at s c).start + used_in s c) slots data_words))

  -- with a history that has it first among the objects of c
  sound_made : (d : History) → Good (allocate_state s c slots data_words) → Same (allocate_state s c slots data_words) d → (2 ≤ c → 0 < count_in s c)
      → d.objects ≡ put_at b.objects c (record { handle = allocate_value s c; slots = slots; data_words = data_words } ∷ b.objects c) → d.gone ≡ b.gone
      → Sound (allocate_state s c slots data_words) (allocate_memory s m c slots data_words) d
  sound_made d g i oc eo eg = record {
    good = g;
    same = i;
    supplied = fits_then;
    memory = rw eo (mem_cong
        (mem_alloc o.memory c made (used_in n) (word_at n k) (bit_in n k) hc oc at_place (ap (λ (x : Area). x.used) to.here)
        (λ a ne. ap (λ (x : Area). x.used) (to.others a ne).area) made_tile word_other bit_other)
        (display_at n) (count_in n) (used_in n) (generation_in n) display_is count_is (λ a. refl) generation_is);
    dead = rw eg (λ h p. dead_on s n h (moved_all to record { start = λ q. refl; later = omega arith; fresh = λ q z. absurd (omega arith) } (area_of h)) (o.dead h p));
    above = rw eo (λ a h. put_other b.objects c _ a (λ e. omega arith) ∙ o.above a h);
  }

module _ (s : State) (m : Memory) (b : History) (o : Sound s m b) (t slots data_words : ℕ) (ok : AllocateOk s t slots data_words) where
  abbrev next : History
  next = history_allocate b t (record { handle = allocate_value s (current_at s t); slots = slots; data_words = data_words })

  pub sound_allocate : Good (allocate_state s (current_at s t) slots data_words) → Same (allocate_state s (current_at s t) slots data_words) next
      → Sound (allocate_state s (current_at s t) slots data_words) (allocate_memory s m (current_at s t) slots data_words) next
  sound_allocate g i = sound_made s m b o (current_at s t) slots data_words (current_area s o.good t ok.called.thread) ok.room next g i
      (current_open s o.good t ok.called.thread) objects_are gone_are
    where
      objects_are : next.objects ≡ put_at b.objects (current_at s t) (record { handle = allocate_value s (current_at s t); slots = slots; data_words = data_words } ∷ b.objects (current_at s t))
      objects_are = unfold history_allocate in rw (← (stacks s b o.good o.same t))

      gone_are : next.gone ≡ b.gone
      gone_are = unfold history_allocate in refl
