-- The size of each scope is the one that the lines tell, 0 where it is not made; so they tell what a removal answers, and where scopes are made.
-- Assumes nothing.
use Prim.Native.Nat.{ℕ, ◌+◌, ◌≤◌, ◌<◌}
use mathlib.Core.List.{List, ◌∷◌}
use mathlib.Core.Path.{◌≡◌, refl, ap, ◌∙◌}
use mathlib.Core.Logic.{◌≢◌, ◌↔◌, ⊎_elim}
use lib.Dec.{eqb, leb, ltb}
use native.Mathlib.Omega.{arith}
use borrow.Author.Tests.{eqb-true, eqb-false, ltb-false, leb-true, leb-false}
use Rattle.layout.specs.Choice.{refuse, cases, or_false}
use Rattle.bitmap.specs.Bitmap.{bit_at}
use Rattle.model.specs.declared.Area.{Area}
use Rattle.model.specs.declared.Lengths.{Lengths}
use Rattle.model.specs.State.{State, Memory, area_at, is_no_scope, is_made}
use Rattle.model.specs.SetUp.{first_state}
use Rattle.model.specs.Checks.{called}
use Rattle.model.specs.Scopes.{enter_state, exit_state}
use Rattle.model.specs.Removal.{remove_rest}
use Rattle.model.specs.Objects.{current_at}
use Rattle.model.specs.Calls.{Call, start, end, make, enter, exit, start_helper, remove, allocate, store, write, asks, configure, call_status, call_state}
use Rattle.model.specs.Run.{Line}
use Rattle.model.specs.History.{History, blank, made_in, history_thread, history_size, history_enter, history_exit, history_allocate, history_words, history_step, history_from, history_of}
use Rattle.model.specs.Values.{remove_answer}
use Rattle.model.specs.Claims.{Room, Uses}
use Rattle.model.specs.Invariant.{Owner, Good}
use Rattle.model.proofs.Accepted.{fitted_ok, make_ok, enter_ok, EnterOk, exit_ok, ExitOk, helper_ok, remove_ok, allocate_ok}
use Rattle.model.proofs.Memory.{put_same, put_other}
use Rattle.model.proofs.Sound.{Same, Sound}
use Rattle.model.proofs.Bounds.{by_area, current_area}
use Rattle.model.proofs.Alters.{Stays, Alters, same_field, start_stays, end_stays, make_alters, remove_alters, allocate_alters, enter_stays, open_alters, fresh_alters, by_top, exit_stays, left_alters}
use Rattle.model.proofs.KeepsHelper.{helper_counts}
use Rattle.model.proofs.KeepsConfiguration.{configure_stays}
use Rattle.model.proofs.Keeps.{first_scope}
use Rattle.model.proofs.NestingClaims.{past, counts}
use Rattle.model.proofs.Outcomes.{Transition, history_accepts, history_refuses, fit_fitted}

-- each scope has the size that the history tells
abbrev pub Sized : State → History → Type 0
Sized s b = (a : ℕ) → 2 ≤ a → (area_at s a).size ≡ b.sizes a

pub sized_first : (h i : ℕ) (n : Lengths) → Sized (first_state h i n) blank
unfolding blank
sized_first h i n a k = ap (λ (x : Area). x.size) (first_scope h i n a k)

-- ---- any accepted call

module _ (s : State) (m : Memory) (b : History) (o : Sound s m b) (k : Sized s b) where
  -- no size changes
  abbrev Same-sizes : State → Type 0
  Same-sizes n = (a : ℕ) → (area_at n a).size ≡ (area_at s a).size

  stays_sizes : (n : State) → Stays s n → Same-sizes n
  stays_sizes n e a = ap (λ (x : Area). x.size) (e.all a).area

  enter_sizes : (t q : ℕ) → EnterOk s t q → Same-sizes (enter_state s t q)
  enter_sizes t q x a = by_area s q
      (λ h. stays_sizes (enter_state s t q) (enter_stays s t q h) a)
      (λ h c. same_field (fresh_alters s t q o.good.areas x.area h c) (λ (y : Area). y.size) refl a)
      (λ h c. same_field (open_alters s t q o.good.areas x.area h c) (λ (y : Area). y.size) refl a)

  exit_sizes : (t : ℕ) → ExitOk s t → Same-sizes (exit_state s t)
  exit_sizes t x a = by_top s t
      (λ h. stays_sizes (exit_state s t) (exit_stays s t h) a)
      (λ h. same_field (left_alters s t o.good.areas (current_area s o.good t x.called.thread) h) (λ (y : Area). y.size) refl a)

  -- one scope has another size
  sized_put : {n : State} {q : ℕ} {x : Area} → Alters s n q x → Sized n (history_size b q x.size)
  unfolding history_size
  sized_put {n} {q} {x} to a h = cases (eqb a q)
      (λ d. rw (eqb-true a q d, put_same b.sizes q x.size) (ap (λ (y : Area). y.size) to.here))
      (λ d. rw (put_other b.sizes q x.size a (eqb-false a q d)) (ap (λ (y : Area). y.size) (to.others a (eqb-false a q d)).area ∙ k a h))

  sized_call : (c : Call) (v : ℕ) → call_status s m c ≡ 0 → Sized (call_state s m c) (history_step b c v)
  unfolding history_thread history_enter history_exit history_allocate history_words
  sized_call (start t p) v z a h = stays_sizes _ (start_stays s t p) a ∙ k a h
  sized_call (end t) v z a h = stays_sizes _ (end_stays s t) a ∙ k a h
  sized_call (make t q r) v z a h = sized_put (make_alters s o.good.areas q (make_ok s t q r (fitted_ok s m _ z).1).area r) a h
  sized_call (enter t q) v z a h = enter_sizes t q (enter_ok s t q (fitted_ok s m _ z).1) a ∙ k a h
  sized_call (exit t) v z a h = exit_sizes t (exit_ok s t (fitted_ok s m _ z).1) a ∙ k a h
  sized_call (start_helper t p q) v z a h = ap (λ (x : Area). x.size) ((helper_counts s t p q o.good (helper_ok s t p q (fitted_ok s m _ z).1)).areas a) ∙ k a h
  sized_call (remove t q) v z a h = sized_put (remove_alters s o.good.areas q (remove_ok s t q (fitted_ok s m _ z).1).area) a h
  sized_call (allocate t q r) v z a h =
      same_field (allocate_alters s o.good.areas (current_at s t) (current_area s o.good t (allocate_ok s t q r (fitted_ok s m _ z).1).called.thread) q r)
      (λ (x : Area). x.size) refl a ∙ k a h
  sized_call (store t p q r) v z a h = k a h
  sized_call (write t p q r) v z a h = k a h
  sized_call (asks x) v z a h = k a h
  sized_call (configure x) v z a h = stays_sizes _ (configure_stays s x) a ∙ k a h

pub sized_line : (s : State) (m : Memory) (ls : List Line) → Sound s m (history_of ls) → Sized s (history_of ls)
    → {l : Line} {n : State} {k : Memory} → Transition s m l n k → Sized n (history_of (l ∷ ls))
unfolding history_from
sized_line s m ls o f {l} d = ⊎_elim
    (λ x. rw (x.state, history_accepts x (history_of ls)) (sized_call s m (history_of ls) o f l.call _ x.passed))
    (λ x. rw (x.state, history_refuses x (history_of ls)) f)
    d

-- ---- what the sizes tell

module _ (s : State) (b : History) (g : Good s) (e : Same s b) (k : Sized s b) where
  pub made_told : (a : ℕ) → is_made s a ≡ made_in b a
  unfolding is_made
  made_told a = cases (ltb a 2)
      (λ d. rw d refl)
      (λ d. rw (d, k a (ltb-false a 2 d)) refl)

  -- a scope with a size is one of the 64 areas
  below : (a : ℕ) → 0 < (area_at s a).size → a < 64
  below a h = cases (leb 64 a)
      (λ d. absurd (omega (arith, ap (λ (x : Area). x.size) (past s b g e a (leb-true 64 a d)))))
      (λ d. leb-false 64 a d)

  pub rooms_told : (a : ℕ) → 2 ≤ a → 0 < b.sizes a → Room s b a
  rooms_told a h p =
      let l : a < 64 = below a (omega (arith, k a h)) in
      record { start = omega (arith, g.placed.aligned a h l); ends = rw (← k a h) (omega (arith, g.placed.aligned a h l, g.placed.below a h l)) }

  pub apart_told : (a c : ℕ) → 2 ≤ a → 2 ≤ c → a ≢ c → (i j : ℕ) → i < b.sizes a → j < b.sizes c → (area_at s a).start + i ≢ (area_at s c).start + j
  apart_told a c h l ne i j p q =
      g.placed.apart a c h (below a (omega (arith, k a h))) l (below c (omega (arith, k c l))) ne i j (omega (arith, k a h)) (omega (arith, k c l))

  pub used_told : (j : ℕ) → (bit_at s.used_bits j ≡ 1) ↔ Uses s b j
  used_told j = (
    λ z.
        let x : Owner s j = g.placed.owned j (λ y. omega arith) in
        record { scope = x.scope; low = x.low; from = x.has.0; to = rw (← k x.scope x.low) x.has.1 },
    λ u.
        let size : (area_at s u.scope).size ≡ b.sizes u.scope = k u.scope u.low in
        g.placed.held u.scope u.low (below u.scope (omega (arith, u.from, u.to))) j (u.from, rw size u.to),
  )

-- what a removal answers: the history has the started threads, the scopes that are made, and their entries
pub remove_told : (s : State) (m : Memory) (b : History) → Sound s m b → Sized s b → (t q : ℕ) → call_status s m (remove t q) ≡ remove_answer b t q
unfolding remove_rest called remove_answer refuse
remove_told s m b o k t q =
    fit_fitted s m o.supplied _
    ∙ rw (o.same.kinds t, made_told s b o.good o.same k q) (cases (is_no_scope q)
    (λ e. rw e refl)
    (λ e. let low : 2 ≤ q = ltb-false q 2 (or_false (ltb q 2) _ e).0 in rw (counts s b o.good o.same q low) refl))
