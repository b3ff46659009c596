-- Op 03: one law for each way that its checks end, and what it leaves.
-- Assumes nothing.
use Rattle.std.specs.Prelude.{◌≡◌, Bool, true, false, ◌||◌, ◌≢◌, List, ℕ, ◌+◌, ◌*◌, ◌/◌, ◌≤◌, ◌<◌, eqb, Option, None, Some, MatchOption, Ok, Err}
use Rattle.std.specs.Option.{ok_or}
use Rattle.std.proofs.Math.Path.{refl, ap}
use Rattle.std.proofs.Common.{sym, ◌∙◌, arith}
use borrow.Author.Tests.{le-leb, lt-leb, lt-ltb, le-ltb, eq-eqb, ne_eqb}
use Rattle.layout.specs.Choice.{refuse, hit, skip}
use Rattle.layout.specs.Answer.{Verdict, number_of, number_some}
use Rattle.layout.specs.declared.answer.Refusal.{Refusal}
use Rattle.layout.specs.declared.answer.Refusal.TheVariants.{Size}
use Rattle.bitmap.specs.Bitmap.{marked}
use Rattle.runs.specs.LowestRun.{lowest_run, is_clear}
use Rattle.runs.proofs.LowestRun.{too_long}
use Rattle.model.specs.declared.Area.{Area}
use Rattle.model.specs.declared.Lengths.{Lengths}
use Rattle.model.specs.State.{State, is_made, with_area}
use Rattle.model.specs.Blocks.{block_count, blocks_for, room_for, no_room}
use Rattle.model.specs.Checks.{called}
use Rattle.model.specs.Scopes.{make_rest, made_area, make_state}
use Rattle.model.proofs.Accepted.{Called, MakeOk, make_ok}
use Rattle.tables.specs.Decode.{state_of, area_record, put_area, lengths_record, used_bits_of, put_used_bits, Holds}
use Rattle.tables.specs.Contract.{Ready}
use Rattle.tables.proofs.Laws.{area_read, lengths_read, used_bits_read, state_area}
use Rattle.flips.specs.Flipped.{AllBits}
use Rattle.held_blocks.specs.Part.{bits_kept, used_hold}
use Rattle.callers.specs.Caller.{thread_refused, called_rest}

-- refusal 8 alone
abbrev pub room_rest : State → ℕ → ℕ
room_rest s r = refuse (eqb r 0 || no_room s r) 8 0

-- ---- refusal 8

module _ (w b : List ℕ) (g : Ready w b) (r : ℕ) {l : Lengths} (e : l ≡ lengths_record w) where
  -- the blocks of scratch, as the code computes them
  count_is : l.scratch / 16 ≡ block_count (state_of w b)
  count_is = ap (λ (x : Lengths). x.scratch / 16) (e ∙ sym (lengths_read w b))

  pub scratch_bound : l.scratch ≤ 16384
  scratch_bound = omega (arith, ap (λ (x : Lengths). x.scratch) (e ∙ sym (lengths_read w b)), g.good.placed.scratch)

  lacking : no_room (state_of w b) r ≡ true → 8 ≡ room_rest (state_of w b) r
  lacking h = sym (hit (eqb r 0 || no_room (state_of w b) r) 8 0 (or_second (eqb r 0) h))
    where
      or_second : (x : Bool) {y : Bool} → y ≡ true → x || y ≡ true
      or_second true d = refl
      or_second false d = d

  pub room_empty : r ≡ 0 → 8 ≡ room_rest (state_of w b) r
  room_empty z = sym (hit (eqb r 0 || no_room (state_of w b) r) 8 0 (rw (eq-eqb r 0 z) refl))

  pub room_large : 16 * (l.scratch / 16) < r → 8 ≡ room_rest (state_of w b) r
  unfolding room_for
  room_large h = lacking (eq-eqb (room_for (state_of w b) r) (block_count (state_of w b)) (too_long _ (blocks_for r) (block_count (state_of w b)) (omega (arith, count_is))))

  -- f is what the search found
  module _ {f : ℕ} (d : f ≡ lowest_run (is_clear (used_bits_of w)) ((r + 15) / 16) (l.scratch / 16)) where
    pub room_is : f ≡ room_for (state_of w b) r
    unfolding room_for
    room_is = d ∙ rw (count_is, used_bits_read w b) refl

    pub room_none : f ≡ l.scratch / 16 → 8 ≡ room_rest (state_of w b) r
    room_none h = lacking (eq-eqb (room_for (state_of w b) r) (block_count (state_of w b)) (sym room_is ∙ h ∙ count_is))

    pub room_found : r ≢ 0 → f ≢ l.scratch / 16 → (f ≡ room_for (state_of w b) r) × (room_rest (state_of w b) r ≡ 0)
    room_found n h = (
      room_is,
      skip (eqb r 0 || no_room (state_of w b) r) 8 0
          (rw (ne_eqb r 0 n) (ne_eqb (room_for (state_of w b) r) (block_count (state_of w b)) (λ z. h (room_is ∙ z ∙ sym count_is)))),
    )

  -- o is what the search tells: the first block of the lowest run that holds them, where there is one
  pub room_told : r ≢ 0 → (o : Option ℕ)
      → (let first = lowest_run (is_clear (used_bits_of w)) ((r + 15) / 16) (l.scratch / 16) in
      MatchOption o (l.scratch / 16 ≡ first) (λ k. (k ≡ first) × (k < l.scratch / 16)))
      → Verdict (ok_or o Size) (room_for (state_of w b) r) (room_rest (state_of w b) r)
  room_told n None d = room_none refl (sym d)
  room_told n (Some k) d = room_found d.0 n (λ z. omega (arith, z, d.1))

-- ---- the chain

module _ (s : State) (t q r : ℕ) where
  pub make_not_called : {n : ℕ} → n ≡ called s t 0 → n ≢ 0 → n ≡ make_rest s t q r
  unfolding make_rest
  make_not_called e h = thread_refused s t e h _

  module _ (a : Called s t) where
    pub make_low : q < 2 → 6 ≡ make_rest s t q r
    unfolding make_rest refuse
    make_low h = sym (called_rest s t a _ ∙ rw (lt-ltb q 2 h))

    module _ (k : 2 ≤ q) where
      pub make_high : 64 ≤ q → 6 ≡ make_rest s t q r
      unfolding make_rest refuse
      make_high h = sym (called_rest s t a _ ∙ rw (le-ltb q 2 k, le-leb 64 q h))

      module _ (l : q < 64) where
        pub make_made : is_made s q ≡ true → 7 ≡ make_rest s t q r
        unfolding make_rest refuse
        make_made h = sym (called_rest s t a _ ∙ rw (le-ltb q 2 k, lt-leb 64 q l, h))

        -- only 8 is left
        pub make_room : is_made s q ≡ false → room_rest s r ≡ make_rest s t q r
        unfolding make_rest
        make_room h = sym (called_rest s t a _
            ∙ skip _ 6 _ (rw (le-ltb q 2 k, lt-leb 64 q l) refl) ∙ skip (is_made s q) 7 _ h)

  -- what check_make's answer says
  pub make_passed : {f : ℕ} → Verdict (Ok f) (room_for s r) (make_rest s t q r) → MakeOk s t q r × (f ≡ room_for s r) × (make_rest s t q r ≡ 0)
  make_passed e = (make_ok s t q r e.1, e.0, e.1)

  pub make_refused : (e : Refusal) → Verdict (Err e) (room_for s r) (make_rest s t q r) → (number_of e ≡ make_rest s t q r) × (number_of e ≢ 0)
  make_refused e k = (k, number_some e)

-- ---- what is left

module _ (w b : List ℕ) (g : Ready w b) (t q r : ℕ) (ok : MakeOk (state_of w b) t q r) where
  -- the room is within the blocks, and the size within the store
  pub room_bounds : (room_for (state_of w b) r + blocks_for r ≤ 1024) × (r ≤ 16384)
  room_bounds = (omega (arith, ok.ends, g.good.placed.scratch), omega (arith, ok.ends, g.good.placed.scratch))

  -- it is free, also in the words v, in which the area is written
  pub room_free : {f : ℕ} {v : List ℕ} (x : Area) → v ≡ put_area w q x → f ≡ room_for (state_of w b) r → AllBits (used_bits_of v) f (blocks_for r) 0
  room_free x d e j h = rw (d, bits_kept w b q x ok.area g.sized, e) (ok.clear j h)

  pub made_holds : {f : ℕ} → f ≡ room_for (state_of w b) r
      → let v = put_area w q (made_area (area_record w q) f r) in
      Holds (put_used_bits v (marked (used_bits_of v) f (blocks_for r))) b (make_state (state_of w b) q r)
  unfolding make_state
  made_holds {f} e =
      let x : Area = made_area (area_record w q) f r in
      let k = used_hold (put_area w q x) b (with_area (state_of w b) q x) (state_area w b q x ok.area g.sized) f (blocks_for r) in
      record { sized = k.sized; state = k.state ∙ rw (e, area_read w b q ok.area) refl }
