-- Ops 03 and 0c, which give blocks to a scope and take them back, keep the invariant.
-- Assumes nothing.
use Prim.Native.Nat.{ℕ, ◌+◌, ◌*◌, ◌-◌, ◌/◌, ◌%◌, ◌≤◌, ◌<◌}
use mathlib.Core.List.{List}
use mathlib.Core.Path.{◌≡◌, refl, sym, ap, ◌∙◌}
use mathlib.Core.Logic.{◌≢◌, ◌⊎◌, inl, inr, ⊎_elim}
use lib.ListN.{length}
use lib.Dec.{leb}
use native.Mathlib.Omega.{arith}
use borrow.Author.Tests.{leb-true, leb-false}
use Rattle.layout.specs.Choice.{cases}
use Rattle.bitmap.specs.Bitmap.{bit_at, cleared, marked}
use Rattle.bitmap.specs.BitmapLaws.{length_cleared, length_marked, cleared_inside, cleared_outside, marked_inside, marked_outside}
use Rattle.model.specs.declared.Area.{Area}
use Rattle.model.specs.State.{State, area_at, with_area, with_used_bits}
use Rattle.model.specs.Blocks.{block_words, block_count, blocks_for, first_block, HasBlock, room_for, with_used_blocks, with_free_blocks}
use Rattle.model.specs.Scopes.{made_area, make_state}
use Rattle.model.specs.Removal.{removed_area, remove_state}
use Rattle.model.specs.Invariant.{ScopeGood, Owner, Placed, Good}
use Rattle.model.proofs.Accepted.{MakeOk, RemoveOk}
use Rattle.model.proofs.Parts.{area_same, area_other, nested_good, area_by, good_made}
use Rattle.model.proofs.Alters.{make_alters, remove_alters, make_rows, remove_rows}
use Rattle.model.proofs.KeepsObjects.{nesting_altered}

-- ---- blocks and words

-- a block is one of a run of n from block f on, or not
by_run {ℓ} : {C : Type ℓ} (f n k : ℕ) → (f ≤ k → k < f + n → C) → ((k < f) ⊎ (f + n ≤ k) → C) → C
by_run f n k inside outside = cases (leb f k)
    (λ e. cases (leb (f + n) k)
    (λ d. outside (inr (leb-true (f + n) k d)))
    (λ d. inside (leb-true f k e) (leb-false (f + n) k d)))
    (λ e. outside (inl (leb-false f k e)))

-- two areas that share no word
abbrev Apart : Area → Area → Type 0
Apart x y = (j k : ℕ) → j < x.size → k < y.size → x.start + j ≢ y.start + k

-- an area that starts with a block has the block of each of its words, and the first word of each of its blocks
word_block : (x : Area) (j : ℕ) → x.start % block_words ≡ 0 → j < x.size → HasBlock x ((x.start + j) / block_words)
word_block x j e h = (omega arith, omega arith)

block_word : (x : Area) (k : ℕ) → x.start % block_words ≡ 0 → HasBlock x k → (block_words * k - x.start < x.size) × (x.start + (block_words * k - x.start) ≡ block_words * k)
block_word x k e h = (omega (arith, h.0, h.1), omega (arith, h.0))

-- so two areas that share no word share no block
blocks_apart : (x y : Area) (k : ℕ) → x.start % block_words ≡ 0 → y.start % block_words ≡ 0 → Apart x y → HasBlock x k → HasBlock y k → ⊥
blocks_apart x y k d e n h i =
    let a = block_word x k d h in
    let b = block_word y k e i in
    n (block_words * k - x.start) (block_words * k - y.start) a.0 b.0 (a.1 ∙ sym b.1)

-- an area of no words has no block
none_has : (x : Area) (k : ℕ) → x.size ≡ 0 → HasBlock x k → ⊥
none_has x k e h = omega (arith, h.0, h.1)

-- ---- an area is replaced, and the used bits

module _ (s : State) (g : Good s) (q : ℕ) (scope : 2 ≤ q) (area : q < 64) (x : Area) (u : List ℕ) where
  each : (P : Area → Type 0) (a : ℕ) → (a ≡ q → P x) → (a ≢ q → P (area_at s a)) → P (area_at (with_area s q x) a)
  each = area_by s g q x area

  low : (a : ℕ) → a < 2 → area_at (with_area s q x) a ≡ area_at s a
  low a h = area_other s q x a (λ e. omega arith)

  -- x lies in whole blocks, apart from the others, and the bits follow
  record Laid : Type 0 where
    size : length u ≡ 16
    aligned : x.start % block_words ≡ 0
    below : x.start + block_words * blocks_for x.size ≤ block_words * block_count s
    used : x.used ≤ x.size
    apart : (a : ℕ) → 2 ≤ a → a < 64 → a ≢ q → Apart x (area_at s a)
    here : (k : ℕ) → HasBlock x k → bit_at u k ≡ 1
    others : (a : ℕ) → 2 ≤ a → a < 64 → a ≢ q → (k : ℕ) → HasBlock (area_at s a) k → bit_at u k ≡ 1
    owned : (k : ℕ) → bit_at u k ≢ 0 → HasBlock x k ⊎ ((a : ℕ) × (2 ≤ a) × (a < 64) × (a ≢ q) × HasBlock (area_at s a) k)

  placed : Laid → Placed (with_used_bits (with_area s q x) u)
  unfolding with_used_bits with_area
  placed o = record {
    permanent = g.placed.permanent;
    scratch = g.placed.scratch;
    map = g.placed.map;
    heap = ap (λ (y : Area). y.start) (low 0 (omega arith)) ∙ g.placed.heap;
    immortal = ap (λ (y : Area). y.start) (low 1 (omega arith)) ∙ g.placed.immortal ∙ sym (ap (λ (y : Area). y.size) (low 0 (omega arith)));
    whole = omega (arith, g.placed.whole, ap (λ (y : Area). y.size) (low 0 (omega arith)), ap (λ (y : Area). y.size) (low 1 (omega arith)));
    bits = o.size;
    aligned = λ a h k. each (λ (y : Area). y.start % block_words ≡ 0) a (λ e. o.aligned) (λ ne. g.placed.aligned a h k);
    below = λ a h k. each (λ (y : Area). y.start + block_words * blocks_for y.size ≤ block_words * block_count s) a (λ e. o.below) (λ ne. g.placed.below a h k);
    used = λ a k. each (λ (y : Area). y.used ≤ y.size) a (λ e. o.used) (λ ne. g.placed.used a k);
    apart = λ a c ha ka hc kc ne. each (λ (y : Area). Apart y (area_at (with_area s q x) c)) a
        (λ e. each (Apart x) c (λ d. absurd (ne (e ∙ sym d))) (λ nd. o.apart c hc kc nd))
        (λ nq. each (Apart (area_at s a)) c (λ d j k hj hk z. o.apart a ha ka nq k j hk hj (sym z)) (λ nd. g.placed.apart a c ha ka hc kc ne));
    held = λ a h l k. each (λ (y : Area). HasBlock y k → bit_at u k ≡ 1) a (λ e. o.here k) (λ ne. o.others a h l ne k);
    owned = λ k b. ⊎_elim
        (λ i. record { scope = q; low = scope; high = area; has = rw (area_same s q x (omega (arith, g.areas))) i })
        (λ i. record { scope = i.0; low = i.1; high = i.2; has = rw (area_other s q x i.0 i.3) i.4 })
        (o.owned k b);
  }

-- ---- op 03

module _ (s : State) (t q r : ℕ) (g : Good s) (ok : MakeOk s t q r) where
  abbrev made : Area
  made = made_area (area_at s q) (room_for s r) r

  -- the used bits have the room
  inside : room_for s r + blocks_for r ≤ 64 * length s.used_bits
  inside = omega (arith, ok.ends, g.placed.bits, g.placed.scratch)

  -- its first block
  first : first_block made ≡ room_for s r
  first = omega arith

  -- a block of another scope is used, so it is none of the room's
  away : (a : ℕ) → 2 ≤ a → a < 64 → (k : ℕ) → HasBlock (area_at s a) k → (k < room_for s r) ⊎ (room_for s r + blocks_for r ≤ k)
  away a h l k b = by_run (room_for s r) (blocks_for r) k
      (λ lo hi.
      let at : room_for s r + (k - room_for s r) ≡ k = omega arith in
      absurd (omega (arith, g.placed.held a h l k b, rw at at (ok.clear (k - room_for s r) (omega arith)))))
      (λ out. out)

  make_laid : Laid s g q ok.scope ok.area made (marked s.used_bits (room_for s r) (blocks_for r))
  make_laid = record {
    size = length_marked s.used_bits (room_for s r) (blocks_for r) ∙ g.placed.bits;
    aligned = omega arith;
    below = omega (arith, ok.ends);
    used = omega (arith, g.placed.used q ok.area, ok.unmade);
    apart = λ a h l ne j k hj hk e.
        let b : HasBlock (area_at s a) ((made.start + j) / block_words) = rw (sym e) at (word_block (area_at s a) k (g.placed.aligned a h l) hk) in
        ⊎_elim (λ y. omega arith) (λ y. omega arith) (away a h l ((made.start + j) / block_words) b);
    here = λ k b. marked_inside s.used_bits (room_for s r) (blocks_for r) k inside (omega (arith, b.0)) (omega (arith, b.1));
    others = λ a h l ne k b. marked_outside s.used_bits (room_for s r) (blocks_for r) k inside (away a h l k b) ∙ g.placed.held a h l k b;
    owned = λ k b. by_run (room_for s r) (blocks_for r) k
        (λ lo hi. inl (omega arith, omega arith))
        (λ out.
        let o : Owner s k = g.placed.owned k (rw (marked_outside s.used_bits (room_for s r) (blocks_for r) k inside out) at b) in
        inr (o.scope, o.low, o.high, λ e. none_has (area_at s q) k ok.unmade (rw e at o.has), o.has));
  }

  pub good_make : Good (make_state s q r)
  unfolding make_state with_used_blocks with_used_bits with_area
  good_make = nested_good
      (good_made s g q made ok.area (λ h. absurd (omega (arith, ok.scope))) (λ h. scope) _ (placed s g q ok.scope ok.area made _ make_laid))
      (nesting_altered (make_alters s g.areas q ok.area r) (make_rows s q r) refl refl refl refl g.nesting)
    where
      old : ScopeGood (area_at s q)
      old = g.scopes q ok.scope ok.area

      scope : ScopeGood made
      scope = record { generation = old.generation; made = λ o. ok.some; begun = old.begun; no_parent = old.no_parent; no_words = old.no_words; no_depth = old.no_depth }

-- ---- op 0c

module _ (s : State) (t q : ℕ) (g : Good s) (ok : RemoveOk s t q) where
  abbrev removed : Area
  removed = removed_area (area_at s q)

  abbrev freed : List ℕ
  freed = cleared s.used_bits (first_block (area_at s q)) (blocks_for (area_at s q).size)

  -- the used bits have its blocks
  held_inside : first_block (area_at s q) + blocks_for (area_at s q).size ≤ 64 * length s.used_bits
  held_inside = omega (arith, g.placed.below q ok.scope ok.area, g.placed.bits, g.placed.scratch)

  -- another scope's block is none of its own
  not_its : (a : ℕ) → 2 ≤ a → a < 64 → a ≢ q → (k : ℕ) → HasBlock (area_at s a) k
      → (k < first_block (area_at s q)) ⊎ (first_block (area_at s q) + blocks_for (area_at s q).size ≤ k)
  not_its a h l ne k b = by_run (first_block (area_at s q)) (blocks_for (area_at s q).size) k
      (λ lo hi. absurd (blocks_apart (area_at s a) (area_at s q) k (g.placed.aligned a h l) (g.placed.aligned q ok.scope ok.area)
      (g.placed.apart a q h l ok.scope ok.area ne) b (lo, hi)))
      (λ out. out)

  remove_laid : Laid s g q ok.scope ok.area removed freed
  remove_laid = record {
    size = length_cleared s.used_bits (first_block (area_at s q)) (blocks_for (area_at s q).size) ∙ g.placed.bits;
    aligned = refl;
    below = omega arith;
    used = omega (arith, (g.scopes q ok.scope ok.area).no_words ok.closed);
    apart = λ a h l ne j k hj hk e. omega arith;
    here = λ k b. absurd (none_has removed k refl b);
    others = λ a h l ne k b.
        cleared_outside s.used_bits (first_block (area_at s q)) (blocks_for (area_at s q).size) k held_inside (not_its a h l ne k b) ∙ g.placed.held a h l k b;
    owned = λ k b. by_run (first_block (area_at s q)) (blocks_for (area_at s q).size) k
        (λ lo hi. absurd (b (cleared_inside s.used_bits (first_block (area_at s q)) (blocks_for (area_at s q).size) k held_inside lo hi)))
        (λ out.
        let o : Owner s k = g.placed.owned k (rw (cleared_outside s.used_bits (first_block (area_at s q)) (blocks_for (area_at s q).size) k held_inside out) at b) in
        inr (o.scope, o.low, o.high, λ e. ⊎_elim (λ y. omega (arith, rw e at o.has)) (λ y. omega (arith, rw e at o.has)) out, o.has));
  }

  pub good_remove : Good (remove_state s q)
  unfolding remove_state with_free_blocks with_used_bits with_area
  good_remove = nested_good
      (good_made s g q removed ok.area (λ h. absurd (omega (arith, ok.scope))) (λ h. scope) _ (placed s g q ok.scope ok.area removed _ remove_laid))
      (nesting_altered (remove_alters s g.areas q ok.area) (remove_rows s q) refl refl refl refl g.nesting)
    where
      old : ScopeGood (area_at s q)
      old = g.scopes q ok.scope ok.area

      scope : ScopeGood removed
      scope = record { generation = old.generation; made = λ o. absurd (omega (arith, ok.closed)); begun = old.begun; no_parent = old.no_parent; no_words = old.no_words; no_depth = old.no_depth }
