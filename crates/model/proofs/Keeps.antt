-- Set-up gives the invariant of the state, and every call keeps it, refused or not.
-- Assumes nothing.
use Prim.Native.Nat.{ℕ, zero, suc, ◌+◌, ◌/◌, ◌%◌, ◌^◌, ◌≤◌, ◌<◌}
use mathlib.Core.Bool.{not}
use mathlib.Core.List.{List, []}
use mathlib.Core.Path.{◌≡◌, refl, sym, ap, ◌∙◌}
use lib.ListN.{length, get_or, replicate, length-replicate, get_or-replicate, get_or-eq_default}
use lib.Dec.{eqb, ltb}
use native.Mathlib.Nat.{div-le_self}
use native.Mathlib.Omega.{arith}
use borrow.Author.Tests.{eqb-true, ltb-true, ltb-false, not-false}
use Rattle.layout.specs.Choice.{refuse, cases, peel}
use Rattle.layout.specs.Stack.{down}
use Rattle.bitmap.specs.Bitmap.{bit_at}
use Rattle.rights.proofs.Loading.{built_in_loadable}
use Rattle.model.specs.declared.Area.{Area}
use Rattle.model.specs.declared.Lengths.{Lengths}
use Rattle.model.specs.State.{State, Memory, no_area, no_thread, area_at, entries_of}
use Rattle.model.specs.SetUp.{set_up_status, new_thread, first_state, set_up_state}
use Rattle.model.specs.Calls.{Call, start, end, make, enter, exit, start_helper, remove, allocate, store, write, asks, configure, call_status, call_state, outcome_of}
use Rattle.model.specs.History.{occurrences, total}
use Rattle.model.specs.Invariant.{ThreadGood, StandingGood, ScopeGood, Placed, stacks_in, Good}
use Rattle.model.proofs.Accepted.{fitted_ok, start_ok, end_ok, make_ok, enter_ok, exit_ok, helper_ok, remove_ok, allocate_ok}
use Rattle.model.proofs.Lists.{each_replicate}
use Rattle.model.proofs.KeepsThreads.{good_start, good_end}
use Rattle.model.proofs.KeepsObjects.{good_allocate}
use Rattle.model.proofs.KeepsScopes.{good_make, good_remove}
use Rattle.model.proofs.KeepsEnter.{good_enter}
use Rattle.model.proofs.KeepsExit.{good_exit}
use Rattle.model.proofs.KeepsHelper.{good_helper}
use Rattle.model.proofs.KeepsConfiguration.{good_configure}

-- ---- set-up

-- what is the same of all areas at set-up
pub record Begins (x : Area) : Type 0 where
  pub used : x.used ≡ 0
  pub count : x.count ≡ 0
  pub parent : x.parent ≡ 0
  pub depth : x.depth ≡ 0

-- no row has an entry
none_on : (a : ℕ) → total a (replicate 16 []) ≡ 0
unfolding total occurrences
none_on a = refl

-- words of zeros have no digit
zeros : (n i : ℕ) → ◌≡◌ {A = ℕ} (get_or (replicate n 0) i 0) 0
zeros zero i = refl
zeros (suc n) zero = refl
zeros (suc n) (suc i) = zeros n i

zero_digit : (k : ℕ) → 0 / 2 ^ k % 2 ≡ 0
zero_digit k = omega (arith, div-le_self 0 (2 ^ k))

module _ (h i : ℕ) (n : Lengths) where
  -- an accepted set-up has passed these
  record SetUpOk : Type 0 where
    whole : h + i ≡ n.permanent
    permanent : n.permanent ≤ 16384
    scratch : n.scratch ≤ 16384
    map : n.map ≡ (n.permanent + n.scratch + 63) / 64

  set_up_ok : (k : ℕ) → set_up_status h i n k ≡ 0 → SetUpOk
  unfolding set_up_status
  set_up_ok k e =
      let a = peel (not (eqb (h + i) n.permanent)) 0 _ e in
      let b = peel _ 0 _ a.1 in
      let c = peel _ 0 _ b.1 in
      let d = peel (not (eqb n.map ((n.permanent + n.scratch + 63) / 64))) 0 _ c.1 in
      record {
        whole = eqb-true (h + i) n.permanent (not-false (eqb (h + i) n.permanent) a.0);
        permanent = omega (arith, ltb-false _ n.permanent b.0);
        scratch = omega (arith, ltb-false _ n.scratch c.0);
        map = eqb-true n.map ((n.permanent + n.scratch + 63) / 64) (not-false (eqb n.map ((n.permanent + n.scratch + 63) / 64)) d.0);
      }

  -- the stacks are empty
  pub first_stacks : stacks_in (first_state h i n) ≡ replicate 16 []
  unfolding first_state entries_of down
  first_stacks = refl

  -- no scope is made
  pub first_scope : (a : ℕ) → 2 ≤ a → area_at (first_state h i n) a ≡ no_area
  unfolding first_state
  first_scope zero k = absurd (omega arith)
  first_scope (suc zero) k = absurd (omega arith)
  first_scope (suc (suc a)) k = cases (ltb a 62)
      (λ e. get_or-replicate 62 a no_area no_area (ltb-true a 62 e))
      (λ e. get_or-eq_default (replicate 62 no_area) no_area {n = a} (omega (arith, ltb-false a 62 e, length-replicate 62 no_area)))

  first_standing : (a : ℕ) → a < 2 → StandingGood (area_at (first_state h i n) a)
  unfolding first_state
  first_standing zero k = record { generation = refl; count = refl; parent = refl; depth = refl }
  first_standing (suc zero) k = record { generation = refl; count = refl; parent = refl; depth = refl }
  first_standing (suc (suc a)) k = absurd (omega arith)

  first_scopes : (a : ℕ) → 2 ≤ a → ScopeGood (area_at (first_state h i n) a)
  first_scopes a k = rw (first_scope a k)
      record { generation = omega arith; made = λ o. absurd (omega arith); begun = λ o. absurd (omega arith); no_parent = λ z. refl; no_words = λ z. refl; no_depth = λ z. refl }

  pub first_area : (a : ℕ) → Begins (area_at (first_state h i n) a)
  unfolding first_state
  first_area zero = record { used = refl; count = refl; parent = refl; depth = refl }
  first_area (suc zero) = record { used = refl; count = refl; parent = refl; depth = refl }
  first_area (suc (suc a)) = rw (first_scope (suc (suc a)) (omega arith)) record { used = refl; count = refl; parent = refl; depth = refl }

  -- no block is used
  first_clear : (k : ℕ) → bit_at (replicate 16 0) k ≡ 0
  unfolding bit_at
  first_clear k = rw (zeros 16 (k / 64)) (zero_digit (k % 64))

  first_placed : SetUpOk → Placed (first_state h i n)
  unfolding first_state
  first_placed ok = record {
    permanent = ok.permanent;
    scratch = ok.scratch;
    map = ok.map;
    heap = refl;
    immortal = refl;
    whole = ok.whole;
    bits = refl;
    aligned = λ a k l. rw (first_scope a k) refl;
    below = λ a k l. rw (first_scope a k) (omega arith);
    used = λ a l. omega (arith, (first_area a).used);
    apart = λ a c ha ka hc kc ne j k hj hk. absurd (omega (arith, ap (λ (x : Area). x.size) (first_scope a ha)));
    held = λ a k l j b. absurd (omega (arith, rw (first_scope a k) at b));
    owned = λ k b. absurd (b (first_clear k));
  }

  pub good_first : (k : ℕ) → set_up_status h i n k ≡ 0 → Good (first_state h i n)
  unfolding first_state
  good_first k e = record {
    areas = refl;
    rows = each_replicate (λ (r : List ℕ). length r ≡ 32) [] 64 (replicate 32 0) refl;
    threads = each_replicate ThreadGood no_thread 16 new_thread record {
      kind = omega arith;
      idle = λ z. refl;
      room = refl;
      inner_room = refl;
      fits = omega arith;
      areas = λ k l. absurd (omega arith);
      inner_is = λ k l. absurd (omega arith);
    };
    standing = first_standing;
    scopes = λ a k l. first_scopes a k;
    placed = first_placed (set_up_ok k e);
    rights = built_in_loadable;
    nesting = rw first_stacks record {
      size = refl;
      counts = λ a k l. (first_area a).count ∙ sym (none_on a);
      nested = λ t k. rw (get_or-replicate {A = List ℕ} 16 t [] [] k) tt;
    };
  }

-- a refused set-up gives the state of an accepted one
pub good_set_up : (h i : ℕ) (n : Lengths) (k : ℕ) → Good (set_up_state h i n k)
unfolding set_up_state
good_set_up h i n k =
    cases
    (eqb (set_up_status h i n k) 0)
    (λ e. rw e (good_first h i n k (eqb-true (set_up_status h i n k) 0 e)))
    (λ e. rw e (good_first 0 0 (record { permanent = 0; scratch = 0; map = 0 }) 0 (unfold set_up_status refuse in refl)))

-- ---- calls

-- an accepted call
pub good_call : (s : State) (m : Memory) (c : Call) → Good s → call_status s m c ≡ 0 → Good (call_state s m c)
good_call s m (start t p) g e = good_start s t p g (start_ok s t p (fitted_ok s m _ e).1)
good_call s m (end t) g e = good_end s t g (end_ok s t (fitted_ok s m _ e).1)
good_call s m (make t q r) g e = good_make s t q r g (make_ok s t q r (fitted_ok s m _ e).1)
good_call s m (enter t q) g e = good_enter s t q g (enter_ok s t q (fitted_ok s m _ e).1)
good_call s m (exit t) g e = good_exit s t g (exit_ok s t (fitted_ok s m _ e).1)
good_call s m (start_helper t p q) g e = good_helper s t p q g (helper_ok s t p q (fitted_ok s m _ e).1)
good_call s m (remove t q) g e = good_remove s t q g (remove_ok s t q (fitted_ok s m _ e).1)
good_call s m (allocate t q r) g e = good_allocate s t q r g (allocate_ok s t q r (fitted_ok s m _ e).1)
good_call s m (store t p q r) g e = g
good_call s m (write t p q r) g e = g
good_call s m (asks x) g e = g
good_call s m (configure x) g e = good_configure s x g e

-- any call
pub good_outcome : (s : State) (m : Memory) (c : Call) → Good s → Good (outcome_of s m c).state
unfolding outcome_of
good_outcome s m c g =
    cases
    (eqb (call_status s m c) 0)
    (λ e. rw e (good_call s m c g (eqb-true (call_status s m c) 0 e)))
    (λ e. rw e g)
