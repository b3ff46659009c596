-- Storing a reference in a slot and writing a data word keep a sound memory.
-- Assumes nothing.
use Prim.Native.Nat.{ℕ, suc, ◌+◌, ◌-◌, ◌≤◌, ◌<◌}
use mathlib.Core.Bool.{true, false, ◌||◌}
use mathlib.Core.List.{List}
use mathlib.Core.Path.{◌≡◌, refl, ap}
use mathlib.Core.Logic.{inl, inr}
use lib.ListN.{length, set, length-set}
use lib.Seq.{get_or-set_same, get_or-set_other}
use lib.Dec.{eqb, leb, ltb}
use native.Mathlib.Omega.{arith}
use borrow.Author.Tests.{ltb-true, ltb-false, leb-true, eqb-true}
use Rattle.layout.specs.Choice.{cases, and_true}
use Rattle.layout.specs.Handle.{null, offset_of, area_of}
use Rattle.layout.specs.Header.{slots_of, data_of}
use Rattle.layout.specs.HandleLaws.{area_lt}
use Rattle.bitmap.specs.Bitmap.{with_bit}
use Rattle.layout.specs.Display.{row_holds}
use Rattle.layout.specs.DisplayLaws.{holds_entry}
use Rattle.model.specs.State.{State, Memory, area_at, row_at, display_at, display_holds, store_of, with_written, with_store, word_at}
use Rattle.model.specs.Checks.{header_at, live, is_reference}
use Rattle.model.specs.References.{may_refer, word_after, store_after}
use Rattle.model.specs.Data.{data_index, written_index, write_memory}
use Rattle.model.specs.History.{Object, History, occurrences, handles}
use Rattle.model.specs.Invariant.{parent_in, count_in}
use Rattle.model.proofs.Walks.{occ_down}
use Rattle.model.proofs.Tiles.{place, IsHeader}
use Rattle.model.proofs.Memory.{Reach, Ok, Mem, mem_store, mem_data}
use Rattle.model.proofs.Sound.{used_in, generation_in, bit_in, Sound}
use Rattle.model.proofs.PlacedWords.{used_in_lem, one_place, word_in, replaced, read_same, store_fits, fits_also}
use Rattle.model.proofs.Live.{live_given, given_tile, given_place, given_ends, given_head}

-- ---- one used word is replaced

-- the memory with v for word p of area c
abbrev word_put : State → Memory → ℕ → ℕ → ℕ → Memory
word_put s m c p v = with_store m c (set (store_of m c) ((area_at s c).start + p) v)

module _ (s : State) (m : Memory) (b : History) (o : Sound s m b) (c p v : ℕ) (hc : c < 64) (hp : p < used_in s c) where
  pub put_other_word : (a j : ℕ) → a < 64 → j < used_in s a → (a ≡ c → j ≡ p → ⊥) → word_at s (word_put s m c p v) a j ≡ word_at s m a j
  put_other_word a j h q ne = read_same m c (set (store_of m c) ((area_at s c).start + p) v) a ((area_at s a).start + j) (λ e.
      get_or-set_other (store_of m c) ((area_at s c).start + p) ((area_at s a).start + j) v 0 (λ d.
      let w = one_place s o.good.placed a c h hc j p (used_in_lem s o.good.placed a h j q) (used_in_lem s o.good.placed c hc p hp) e d in
      ne w.0 w.1))

  pub put_word_lem : word_at s (word_put s m c p v) c p ≡ v
  put_word_lem = rw (replaced m c (set (store_of m c) ((area_at s c).start + p) v) c refl)
      (get_or-set_same (store_of m c) ((area_at s c).start + p) v 0 (word_in s m o.good.placed o.supplied c hc p (used_in_lem s o.good.placed c hc p hp)))

  sound_put : Mem (display_at s) (count_in s) (used_in s) (generation_in s) (word_at s (word_put s m c p v)) (bit_in s m) b.objects → Sound s (word_put s m c p v) b
  unfolding with_store
  sound_put y = record {
    good = o.good;
    same = o.same;
    supplied = store_fits m c (set (store_of m c) ((area_at s c).start + p) v) s o.supplied (length-set (store_of m c) ((area_at s c).start + p) v);
    memory = y;
    dead = o.dead;
    above = o.above;
  }

-- other written bits: neither words nor start bits see them
pub sound_written : (s : State) (m : Memory) (b : History) → Sound s m b → (l : List ℕ) → length l ≡ length m.written → Sound s (with_written m l) b
sound_written s m b o l e = record {
  good = o.good;
  same = o.same;
  supplied = fits_also s m o.supplied (with_written m l) refl refl refl e;
  memory = o.memory;
  dead = o.dead;
  above = o.above;
}

-- ---- the assignment rule

-- what its test says: the target's area is reached
rule_reach : (s : State) (a c : ℕ) → may_refer s a c ≡ true → Reach (display_at s) a c
unfolding may_refer
rule_reach s a c e = cases (ltb c 2)
    (λ z. inl (ltb-true c 2 z))
    (λ z. inr (ltb-false c 2 z, on_display (ltb-false c 2 z) (rw z at e)))
  where
    on_display : 2 ≤ c → display_holds s c a ≡ true → 0 < occurrences c (display_at s a)
    on_display h f = unfold display_holds display_at in
        let x = and_true (leb (area_at s c).depth (area_at s a).depth) (row_holds (row_at s a) (area_at s c).depth c) f in
        let y = holds_entry (row_at s a) (area_at s c).depth c x.1 in
        occ_down (parent_in s) (display_at s) c h (row_at s a) (area_at s a).depth ((area_at s c).depth - 1)
        (omega (arith, y.0, leb-true (area_at s c).depth (area_at s a).depth x.0)) y.1

-- ---- the words of a live object

module _ (s : State) (m : Memory) (b : History) (o : Sound s m b) (p : ℕ) (lv : live s m p ≡ true) where
  given : 0 < occurrences p (handles (b.objects (area_of p)))
  given = live_given s m b o p lv

  -- a slot, where it lies and what it holds
  module _ (i : ℕ) (h : i < slots_of (header_at s m p)) where
    slot_in : suc (offset_of p + i) < used_in s (area_of p)
    slot_in = omega (arith, (given_head s m b o p given).slots, given_ends s m b o p given)

    slot_off : bit_in s m (area_of p) (suc (offset_of p + i)) ≡ false
    slot_off =
        let t = given_tile s m b o p given in
        t.3.off (suc (offset_of p + i)) (omega (arith, given_place s m b o p given)) (omega (arith, t.3.ends, (given_head s m b o p given).slots, given_place s m b o p given))

    pub slot_word : Ok b.objects (display_at s) (area_of p) (word_after s m p i)
    slot_word = rw (← given_place s m b o p given) ((given_tile s m b o p given).3.refs i (omega (arith, (given_head s m b o p given).slots)))

    pub sound_store : (r : ℕ) → is_reference s m r ≡ true → eqb r null || may_refer s (area_of p) (area_of r) ≡ true → Sound s (store_after s m p i r) b
    unfolding store_after
    sound_store r e f = sound_put s m b o (area_of p) (suc (offset_of p + i)) r (area_lt p) slot_in
        (mem_store o.memory (area_of p) (suc (offset_of p + i)) (word_at s (word_put s m (area_of p) (suc (offset_of p + i)) r)) slot_off
        (rw (put_word_lem s m b o (area_of p) (suc (offset_of p + i)) r (area_lt p) slot_in) target)
        (put_other_word s m b o (area_of p) (suc (offset_of p + i)) r (area_lt p) slot_in))
      where
        target : Ok b.objects (display_at s) (area_of p) r
        target = unfold is_reference in cases (eqb r null)
            (λ z. inl (eqb-true r null z))
            (λ z. inr record { given = live_given s m b o r (rw z at e); reach = rule_reach s (area_of p) (area_of r) (rw z at f) })

  -- a data word
  module _ (i : ℕ) (h : i < data_of (header_at s m p)) where
    data_in : suc (offset_of p + data_index s m p i) < used_in s (area_of p)
    data_in = omega (arith, (given_head s m b o p given).slots, (given_head s m b o p given).data_words, given_ends s m b o p given)

    sound_data : (r : ℕ) → Sound s (store_after s m p (data_index s m p i) r) b
    unfolding store_after
    sound_data r = sound_put s m b o (area_of p) (suc (offset_of p + data_index s m p i)) r (area_lt p) data_in
        (mem_data o.memory (area_of p) (suc (offset_of p + data_index s m p i)) p (word_at s (word_put s m (area_of p) (suc (offset_of p + data_index s m p i)) r))
        among given
        (put_other_word s m b o (area_of p) (suc (offset_of p + data_index s m p i)) r (area_lt p) data_in))
      where
        -- it lies among the data words of every object with that handle
        among : (x : Object) → x.handle ≡ p → IsHeader (word_at s m (area_of p) (place x)) x
            → (place x + x.slots < suc (offset_of p + data_index s m p i)) × (suc (offset_of p + data_index s m p i) ≤ place x + x.slots + x.data_words)
        among x e hd =
            let at : place x ≡ offset_of p = ap offset_of e in
            let is : IsHeader (header_at s m p) x = rw at at hd in
            omega (arith, is.slots, is.data_words)

    pub sound_write : (r : ℕ) → Sound s (write_memory s m p i r) b
    unfolding write_memory store_after with_store with_bit
    sound_write r = sound_written s (store_after s m p (data_index s m p i) r) b (sound_data r) (with_bit m.written (written_index s m p i)) (length-set m.written _ _)
