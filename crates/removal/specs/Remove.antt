-- Op 0c: one law for each way that its checks end, and what it leaves.
-- Assumes nothing.
use Rattle.std.specs.Prelude.{◌≡◌, true, false, ◌≢◌, List, ℕ, ◌+◌, ◌≤◌, ◌<◌}
use Rattle.std.proofs.Math.Path.{refl, sym}
use Rattle.std.proofs.Common.{◌∙◌, arith}
use borrow.Author.Tests.{le-leb, lt-leb, lt-ltb, le-ltb}
use Rattle.layout.specs.Choice.{refuse}
use Rattle.bitmap.specs.Bitmap.{cleared}
use Rattle.model.specs.declared.Area.{Area}
use Rattle.model.specs.State.{State, area_at, is_made, with_area}
use Rattle.model.specs.Blocks.{blocks_for, first_block}
use Rattle.model.specs.Checks.{called}
use Rattle.model.specs.Removal.{remove_rest, removed_area, remove_state}
use Rattle.model.proofs.Accepted.{Called, RemoveOk}
use Rattle.tables.specs.Decode.{state_of, area_record, put_area, used_bits_of, put_used_bits, Holds}
use Rattle.tables.specs.Contract.{Ready}
use Rattle.tables.proofs.Laws.{area_read, state_area}
use Rattle.flips.specs.Flipped.{AllBits}
use Rattle.held_blocks.specs.Part.{bits_kept, free_hold}
use Rattle.callers.specs.Caller.{thread_refused, called_rest}

-- ---- the chain

module _ (s : State) (t q : ℕ) where
  pub remove_not_called : {n : ℕ} → n ≡ called s t 0 → n ≢ 0 → n ≡ remove_rest s t q
  unfolding remove_rest
  remove_not_called e h = thread_refused s t e h _

  module _ (a : Called s t) where
    pub remove_low : q < 2 → 6 ≡ remove_rest s t q
    unfolding remove_rest refuse
    remove_low h = sym (called_rest s t a _ ∙ rw (lt-ltb q 2 h))

    module _ (k : 2 ≤ q) where
      pub remove_high : 64 ≤ q → 6 ≡ remove_rest s t q
      unfolding remove_rest refuse
      remove_high h = sym (called_rest s t a _ ∙ rw (le-ltb q 2 k, le-leb 64 q h))

      module _ (l : q < 64) where
        pub remove_unmade : is_made s q ≡ false → 6 ≡ remove_rest s t q
        unfolding remove_rest refuse
        remove_unmade h = sym (called_rest s t a _ ∙ rw (le-ltb q 2 k, lt-leb 64 q l, h))

        module _ (f : is_made s q ≡ true) where
          pub remove_open : 0 < (area_at s q).count → 20 ≡ remove_rest s t q
          unfolding remove_rest refuse
          remove_open h = sym (called_rest s t a _ ∙ rw (le-ltb q 2 k, lt-leb 64 q l, f, lt-ltb 0 (area_at s q).count h))

          pub remove_accepted : (area_at s q).count ≤ 0 → 0 ≡ remove_rest s t q
          unfolding remove_rest refuse
          remove_accepted h = sym (called_rest s t a _ ∙ rw (le-ltb q 2 k, lt-leb 64 q l, f, le-ltb 0 (area_at s q).count h))

-- ---- what is left

module _ (w b : List ℕ) (g : Ready w b) (t q : ℕ) (ok : RemoveOk (state_of w b) t q) {x : Area} (e : x ≡ area_record w q) where
  record_is : x ≡ area_at (state_of w b) q
  record_is = e ∙ sym (area_read w b q ok.area)

  -- it has a block, its blocks are some of the 1,024, and its size is within the store
  pub block_bounds : (0 < blocks_for x.size) × (first_block x + blocks_for x.size ≤ 1024) × (x.size ≤ 16384)
  block_bounds = rw record_is (
    omega (arith, ok.made),
    omega (arith, g.good.placed.below q ok.scope ok.area, g.good.placed.scratch),
    omega (arith, g.good.placed.below q ok.scope ok.area, g.good.placed.scratch),
  )

  -- its blocks are used, also in the words v, in which the area is written
  pub blocks_used : {v : List ℕ} (y : Area) → v ≡ put_area w q y → AllBits (used_bits_of v) (first_block x) (blocks_for x.size) 1
  blocks_used y d j h =
      rw (d, bits_kept w b q y ok.area g.sized, record_is)
      (g.good.placed.held q ok.scope ok.area (first_block (area_at (state_of w b) q) + j) (omega arith, omega (arith, rw record_is at h)))

  pub removed_holds : let v = put_area w q (removed_area x) in
      Holds (put_used_bits v (cleared (used_bits_of v) (first_block x) (blocks_for x.size))) b (remove_state (state_of w b) q)
  unfolding remove_state
  removed_holds =
      let k = free_hold (put_area w q (removed_area x)) b (with_area (state_of w b) q (removed_area x)) (state_area w b q (removed_area x) ok.area g.sized) (first_block x) (blocks_for x.size) in
      record { sized = k.sized; state = k.state ∙ rw record_is refl }
