-- What is read of a state after a part of it is replaced, and what stays good of it.
-- Assumes nothing.
use Prim.Native.Nat.{ℕ, ◌≤◌, ◌<◌}
use mathlib.Core.List.{List, []}
use mathlib.Core.Path.{◌≡◌, refl, sym, ap, ap₂, ◌∙◌}
use mathlib.Core.Logic.{◌≢◌}
use lib.ListN.{length, get_or, length-set, get_or-map}
use lib.Dec.{eqb}
use native.Mathlib.Omega.{arith}
use lib.Seq.{get_or-set_same, get_or-set_other}
use borrow.Author.Tests.{eqb-true, eqb-false}
use Rattle.layout.specs.Choice.{cases}
use Rattle.layout.specs.Stack.{down}
use Rattle.rights.specs.Rights.{Loadable}
use Rattle.model.specs.declared.Area.{Area}
use Rattle.model.specs.declared.Lengths.{Lengths}
use Rattle.model.specs.State.{Thread, State, no_area, no_thread, area_at, row_at, thread_at, with_area, with_row, with_thread, with_used_bits, with_rights, entries_of, stack_at, innermost, display_at}
use Rattle.model.specs.Blocks.{HasBlock}
use Rattle.model.specs.History.{total}
use Rattle.model.specs.Invariant.{branch_of, first_item, Nesting, ThreadGood, StandingGood, ScopeGood, Owner, Placed, parent_in, stacks_in, NestingIn, GoodWith, Good}
use Rattle.model.proofs.Lists.{innermost_is, each_set}
use Rattle.model.proofs.Nesting.{nested_frame}

-- ---- reads after a store

module _ (s : State) where
  -- area q is x after the store, and every other is as it was
  pub area_same : (q : ℕ) (x : Area) → q < length s.areas → area_at (with_area s q x) q ≡ x
  unfolding with_area
  area_same q x h = get_or-set_same s.areas q x no_area h

  pub area_other : (q : ℕ) (x : Area) (a : ℕ) → a ≢ q → area_at (with_area s q x) a ≡ area_at s a
  unfolding with_area
  area_other q x a ne = get_or-set_other s.areas q a x no_area ne

  -- the same of rows
  pub row_same : (q : ℕ) (r : List ℕ) → q < length s.rows → row_at (with_row s q r) q ≡ r
  unfolding with_row
  row_same q r h = get_or-set_same s.rows q r [] h

  pub row_other : (q : ℕ) (r : List ℕ) (a : ℕ) → a ≢ q → row_at (with_row s q r) a ≡ row_at s a
  unfolding with_row
  row_other q r a ne = get_or-set_other s.rows q a r [] ne

  -- the same of threads
  pub thread_same : (t : ℕ) (h : Thread) → t < length s.threads → thread_at (with_thread s t h) t ≡ h
  unfolding with_thread
  thread_same t h k = get_or-set_same s.threads t h no_thread k

  pub thread_other : (t : ℕ) (h : Thread) (u : ℕ) → u ≢ t → thread_at (with_thread s t h) u ≡ thread_at s u
  unfolding with_thread
  thread_other t h u ne = get_or-set_other s.threads t u h no_thread ne

  -- a row of the stacks is a thread's stack
  pub stack_is : (t : ℕ) → get_or (stacks_in s) t [] ≡ stack_at s t
  unfolding entries_of down
  stack_is t = get_or-map entries_of s.threads t no_thread

  -- the innermost scope of a stack is the first of its branch
  pub inner_is : (t : ℕ) → innermost (stack_at s t) ≡ first_item (branch_of (get_or (stacks_in s) t []))
  inner_is t = rw stack_is (innermost_is (stack_at s t))

  -- a display goes by the area's depth and its row
  pub display_same : (r : State) (a : ℕ) → (area_at r a).depth ≡ (area_at s a).depth → row_at r a ≡ row_at s a → display_at r a ≡ display_at s a
  unfolding display_at
  display_same r a e d = ap₂ (λ (l : List ℕ) (n : ℕ). down l n) d e

-- area a and its row are as they were
pub record Untouched (s n : State) (a : ℕ) : Type 0 where
  pub area : area_at n a ≡ area_at s a
  pub row : row_at n a ≡ row_at s a

-- what is seen of such an area
pub seen : {s n : State} {a : ℕ} → Untouched s n a → (parent_in n a ≡ parent_in s a) × (display_at n a ≡ display_at s a)
seen {s} {n} {a} u = (ap (λ (x : Area). x.parent) u.area, display_same s n a (ap (λ (x : Area). x.depth) u.area) u.row)

-- a nesting of which nothing that is seen has changed
pub nesting_same : {par par' : ℕ → ℕ} {dis dis' : ℕ → List ℕ} {cnt cnt' : ℕ → ℕ} {rows rows' : List (List ℕ)} → Nesting par dis cnt rows
    → ((a : ℕ) → (par' a ≡ par a) × (dis' a ≡ dis a)) → ((a : ℕ) → cnt' a ≡ cnt a) → rows' ≡ rows → Nesting par' dis' cnt' rows'
nesting_same {par} {par'} {dis} {dis'} {rows = rows} v f c e = record {
  size = ap length e ∙ v.size;
  counts = λ a h k. c a ∙ v.counts a h k ∙ ap (total a) (sym e);
  nested = λ t h. rw e (nested_frame par par' dis dis' (get_or rows t []) (λ a x. f a) (v.nested t h));
}

-- ---- the invariant

-- at the end of a call the state itself is nested
pub nested_good : {n s : State} → GoodWith n s → NestingIn s → Good s
nested_good g v = record { areas = g.areas; rows = g.rows; threads = g.threads; standing = g.standing; scopes = g.scopes; placed = g.placed; rights = g.rights; nesting = v }

-- an area that lies where it lay, with no more used words than it has
pub record SamePlace (x y : Area) : Type 0 where
  pub start : y.start ≡ x.start
  pub size : y.size ≡ x.size
  pub used : y.used ≤ y.size

-- it has the blocks that it had
block_same : {x y : Area} → SamePlace x y → (k : ℕ) → HasBlock y k → HasBlock x k
block_same p k h = rw (p.start, p.size) at h

block_still : {x y : Area} → SamePlace x y → (k : ℕ) → HasBlock x k → HasBlock y k
block_still p k h = rw (p.start, p.size) h

-- areas that lie where they lay
placed_same : (s r : State) → Placed s → r.lengths ≡ s.lengths → r.used_bits ≡ s.used_bits → ((a : ℕ) → a < 64 → SamePlace (area_at s a) (area_at r a)) → Placed r
placed_same s r p l u f =
    let e0 : r.lengths.permanent ≡ s.lengths.permanent = ap (λ (x : Lengths). x.permanent) l in
    let e1 : r.lengths.scratch ≡ s.lengths.scratch = ap (λ (x : Lengths). x.scratch) l in
    let e2 : r.lengths.map ≡ s.lengths.map = ap (λ (x : Lengths). x.map) l in
    let heap : SamePlace (area_at s 0) (area_at r 0) = f 0 (omega arith) in
    let immortal : SamePlace (area_at s 1) (area_at r 1) = f 1 (omega arith) in
    record {
      permanent = omega (arith, p.permanent);
      scratch = omega (arith, p.scratch);
      map = rw (e0, e1) (e2 ∙ p.map);
      heap = heap.start ∙ p.heap;
      immortal = immortal.start ∙ p.immortal ∙ sym heap.size;
      whole = omega (arith, p.whole);
      bits = ap length u ∙ p.bits;
      aligned = λ a h k. rw (f a k).start (p.aligned a h k);
      below = λ a h k. rw (e1, (f a k).start, (f a k).size) (p.below a h k);
      used = λ a k. (f a k).used;
      apart = λ a c ha ka hc kc ne j k hj hk. rw ((f a ka).start, (f c kc).start)
          (p.apart a c ha ka hc kc ne j k (omega (arith, (f a ka).size)) (omega (arith, (f c kc).size)));
      held = λ a h k j b. rw u (p.held a h k j (block_same (f a k) j b));
      owned = λ k b.
          let o : Owner s k = p.owned k (rw u at b) in
          record { scope = o.scope; low = o.low; high = o.high; has = block_still (f o.scope o.high) k o.has };
    }

module _ {n : State} (s : State) (g : GoodWith n s) where
  same : (a : ℕ) → a < 64 → SamePlace (area_at s a) (area_at s a)
  same a k = record { start = refl; size = refl; used = g.placed.used a k }

  -- a thread is replaced
  pub good_thread : (t : ℕ) (h : Thread) → ThreadGood h → GoodWith n (with_thread s t h)
  unfolding with_thread
  good_thread t h o = record {
    areas = g.areas;
    rows = g.rows;
    threads = each_set ThreadGood no_thread 16 s.threads t h g.threads o;
    standing = g.standing;
    scopes = g.scopes;
    placed = placed_same s (with_thread s t h) g.placed refl refl same;
    rights = g.rights;
    nesting = g.nesting;
  }

  -- a row is replaced
  pub good_row : (q : ℕ) (r : List ℕ) → length r ≡ 32 → GoodWith n (with_row s q r)
  unfolding with_row
  good_row q r o = record {
    areas = g.areas;
    rows = each_set (λ (r : List ℕ). length r ≡ 32) [] 64 s.rows q r g.rows o;
    threads = g.threads;
    standing = g.standing;
    scopes = g.scopes;
    placed = placed_same s (with_row s q r) g.placed refl refl same;
    rights = g.rights;
    nesting = g.nesting;
  }

  -- the rights table is replaced
  pub good_rights : (r : List ℕ) → Loadable r → GoodWith n (with_rights s r)
  unfolding with_rights
  good_rights r o = record {
    areas = g.areas;
    rows = g.rows;
    threads = g.threads;
    standing = g.standing;
    scopes = g.scopes;
    placed = placed_same s (with_rights s r) g.placed refl refl same;
    rights = o;
    nesting = g.nesting;
  }

  module _ (q : ℕ) (x : Area) (k : q < 64) where
    -- what holds of x and of every other area
    pub area_by : (P : Area → Type 0) (a : ℕ) → (a ≡ q → P x) → (a ≢ q → P (area_at s a)) → P (area_at (with_area s q x) a)
    area_by P a o f = cases (eqb a q)
        (λ e. rw (eqb-true a q e, area_same s q x (omega (arith, g.areas))) (o (eqb-true a q e)))
        (λ e. rw (area_other s q x a (eqb-false a q e)) (f (eqb-false a q e)))

    -- an area is replaced, and the used bits
    pub good_made : (q < 2 → StandingGood x) → (2 ≤ q → ScopeGood x) → (u : List ℕ) → Placed (with_used_bits (with_area s q x) u) → GoodWith n (with_used_bits (with_area s q x) u)
    unfolding with_used_bits with_area
    good_made low high u o = record {
      areas = length-set s.areas q x ∙ g.areas;
      rows = g.rows;
      threads = g.threads;
      standing = λ a h. area_by StandingGood a (λ e. low (omega arith)) (λ ne. g.standing a h);
      scopes = λ a h l. area_by ScopeGood a (λ e. high (omega arith)) (λ ne. g.scopes a h l);
      placed = o;
      rights = g.rights;
      nesting = g.nesting;
    }

    -- an area is replaced by one that lies where it lay
    pub good_area : (q < 2 → StandingGood x) → (2 ≤ q → ScopeGood x) → SamePlace (area_at s q) x → GoodWith n (with_area s q x)
    unfolding with_used_bits with_area
    good_area low high o =
        good_made low high s.used_bits
        (placed_same s (with_area s q x) g.placed refl refl
        (λ a l. area_by (SamePlace (area_at s a)) a (λ e. rw e o) (λ ne. same a l)))
