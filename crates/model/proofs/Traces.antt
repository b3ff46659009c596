-- What a trace tells beside the history: where an object comes from, that what is gone stays gone, that an area with objects is open.
-- Assumes nothing.
use Prim.Native.Nat.{ℕ, ◌≤◌, ◌<◌}
use mathlib.Core.Bool.{false}
use mathlib.Core.List.{List, [], ◌∷◌, ◌++◌}
use mathlib.Core.Path.{◌≡◌, refl, sym, ap}
use mathlib.Core.Logic.{◌⊎◌, inl, inr, ⊎_elim}
use lib.Dec.{eqb, ltb}
use lib.ListN.{set}
use native.Mathlib.Omega.{arith}
use borrow.Author.Tests.{eqb-true, eqb-false, ltb-true, ltb-false}
use Rattle.layout.specs.Choice.{cases}
use Rattle.model.specs.State.{State, Memory, current, is_open}
use Rattle.model.specs.Calls.{Call, start, end, make, enter, exit, start_helper, remove, allocate, store, write, asks, configure}
use Rattle.model.specs.Run.{Element, Line, World, step, run}
use Rattle.model.specs.History.{Object, History, thread_row, put_at, below, occurrences, handles, is_scope_on_none, history_thread, history_size, history_enter, history_exit, history_allocate, history_words, history_step, history_line, history_from, history_of}
use Rattle.model.specs.Claims.{Open, In, Among, Allocates}
use Rattle.model.specs.Invariant.{count_in}
use Rattle.model.proofs.Lists.{occ_same, occ_other}
use Rattle.model.proofs.Memory.{put_same, put_other}
use Rattle.model.proofs.Tiles.{in_some}
use Rattle.model.proofs.Sound.{Sound}
use Rattle.model.proofs.NestingClaims.{opens}
use Rattle.model.proofs.MemoryClaims.{no_objects_above}

-- ---- what the trace tells beside the history

-- what is put at one area is seen there and nowhere else
put_in : (f : ℕ → List Object) (q : ℕ) (v : List Object) (a : ℕ) (x : Object) → In x (put_at f q v a) → (In x v × (a ≡ q)) ⊎ In x (f a)
put_in f q v a x i =
    cases (eqb a q)
    (λ e. inl (rw (eqb-true a q e, put_same f q v) at i, eqb-true a q e))
    (λ e. inr (rw (put_other f q v a (eqb-false a q e)) at i))

pub none_in : {x : Object} → In x [] → ⊥
none_in i = omega (arith, in_some i)

-- the newest of a list, or one of the rest
top_or : {x : Object} {k : List Object} → In x k → (y : Object) (l : List Object) → k ≡ y ∷ l → (x ≡ y) ⊎ In x l
top_or In.first y l e = inl (cc)
top_or {x} (In.later {l = k} i) y l e = let z : k ≡ l = cc in inr (rw z at i)

-- an exit makes no object
pub exit_kept : (b : History) (t a : ℕ) (x : Object) → In x ((history_exit b t).objects a) → In x (b.objects a)
unfolding history_exit
exit_kept b t a x i =
    cases (is_scope_on_none (current (thread_row b t)) (set b.rows t (below (thread_row b t))))
    (λ e. ⊎_elim (λ k. absurd (none_in k.0)) (λ k. k) (put_in b.objects (current (thread_row b t)) [] a x (rw e at i)))
    (λ e. rw e at i)

-- an allocation makes one, in the area of the row's top
pub made_or : (b : History) (t : ℕ) (o : Object) (a : ℕ) (x : Object) → In x ((history_allocate b t o).objects a)
    → ((a ≡ current (thread_row b t)) × (x ≡ o)) ⊎ In x (b.objects a)
unfolding history_allocate
made_or b t o a x i = ⊎_elim
    (λ k. ⊎_elim (λ z. inl (k.1, z)) (λ z. inr (rw (← k.1) at z)) (top_or k.0 o (b.objects (current (thread_row b t))) refl))
    (λ k. inr k)
    (put_in b.objects (current (thread_row b t)) (o ∷ b.objects (current (thread_row b t))) a x i)

pub made_in_lem : (b : History) (t : ℕ) (o : Object) → In o ((history_allocate b t o).objects (current (thread_row b t)))
unfolding history_allocate
made_in_lem b t o = rw (put_same b.objects (current (thread_row b t)) (o ∷ b.objects (current (thread_row b t)))) In.first

module _ (b : History) (l : Line) (ok : l.reply.status ≡ 0) (a : ℕ) (x : Object) where
  abbrev Born : Type 0
  Born = In x (b.objects a) ⊎ Allocates b l x.handle a

  born_allocate : (t q r : ℕ) → l.call ≡ allocate t q r
      → In x ((history_allocate b t (record { handle = l.reply.value; slots = q; data_words = r })).objects a) → Born
  born_allocate t q r e i = ⊎_elim
      (λ k. inr (record { thread = t; slots = q; data_words = r; call = e; accepted = ok; gave = sym (ap (λ (y : Object). y.handle) k.1); area = sym k.0 }))
      (λ k. inl k)
      (made_or b t (record { handle = l.reply.value; slots = q; data_words = r }) a x i)

  -- an object of the history has been there, or the line made it
  born_step : (c : Call) → l.call ≡ c → In x ((history_step b c l.reply.value).objects a) → Born
  unfolding history_thread history_size history_enter history_words
  born_step (start t p) e i = inl i
  born_step (end t) e i = inl i
  born_step (make t q r) e i = inl i
  born_step (enter t q) e i = inl i
  born_step (exit t) e i = inl (exit_kept b t a x i)
  born_step (start_helper t p q) e i = inl i
  born_step (remove t q) e i = inl i
  born_step (allocate t q r) e i = born_allocate t q r e i
  born_step (store t p q r) e i = inl i
  born_step (write t p q r) e i = inl i
  born_step (asks y) e i = inl i
  born_step (configure y) e i = inl i

pub born : (b : History) (l : Line) (a : ℕ) (x : Object) → In x ((history_line b l).objects a) → In x (b.objects a) ⊎ Allocates b l x.handle a
unfolding history_line
born b l a x i =
    cases (eqb l.reply.status 0)
    (λ e. born_step b l (eqb-true l.reply.status 0 e) a x l.call refl (rw e at i))
    (λ e. inl (rw e at i))

-- what is gone stays gone
among_after : (x : ℕ) (k l : List ℕ) → Among x l → Among x (k ++ l)
among_after x [] l i = i
among_after x (y ∷ k) l i = Among.later (among_after x k l i)

gone_exit : (b : History) (t x : ℕ) → Among x b.gone → Among x (history_exit b t).gone
unfolding history_exit
gone_exit b t x i =
    cases (is_scope_on_none (current (thread_row b t)) (set b.rows t (below (thread_row b t))))
    (λ e. rw e (among_after x (handles (b.objects (current (thread_row b t)))) b.gone i))
    (λ e. rw e i)

gone_step : (b : History) (c : Call) (v x : ℕ) → Among x b.gone → Among x (history_step b c v).gone
unfolding history_thread history_size history_enter history_allocate history_words
gone_step b (start t p) v x i = i
gone_step b (end t) v x i = i
gone_step b (make t q r) v x i = i
gone_step b (enter t q) v x i = i
gone_step b (exit t) v x i = gone_exit b t x i
gone_step b (start_helper t p q) v x i = i
gone_step b (remove t q) v x i = i
gone_step b (allocate t q r) v x i = i
gone_step b (store t p q r) v x i = i
gone_step b (write t p q r) v x i = i
gone_step b (asks y) v x i = i
gone_step b (configure y) v x i = i

gone_line : (b : History) (l : Line) (x : ℕ) → Among x b.gone → Among x (history_line b l).gone
unfolding history_line
gone_line b l x i = cases (eqb l.reply.status 0) (λ e. rw e (gone_step b l.call l.reply.value x i)) (λ e. rw e i)

-- with any lines more
pub gone_onto : (ks ls : List Line) (x : ℕ) → Among x (history_of ls).gone → Among x (history_of (ks ++ ls)).gone
unfolding history_from
gone_onto [] ls x i = i
gone_onto (k ∷ ks) ls x i = gone_line (history_of (ks ++ ls)) k x (gone_onto ks ls x i)

pub gone_run : (w : World) (es : List Element) (x : ℕ) → Among x (history_of w.trace).gone → Among x (history_of (run w es).trace).gone
unfolding run
gone_run w [] x i = i
gone_run w (e ∷ es) x i = gone_run (step w e) es x (unfold step history_from in gone_line (history_of w.trace) _ x i)

pub among_some : {x : ℕ} {l : List ℕ} → Among x l → 0 < occurrences x l
among_some {x} (Among.first {l = l}) = omega (arith, occ_same x l)
among_some {x} (Among.later {y = y} {l = l} i) =
    cases (eqb y x)
    (λ e. rw (eqb-true y x e) (omega (arith, occ_same x l)))
    (λ e. rw (occ_other x y l (eqb-false y x e)) (among_some i))

-- an area with an object is open, if it is a scope
module _ (s : State) (m : Memory) (b : History) (o : Sound s m b) where
  pub area_below : (a : ℕ) (x : Object) → In x (b.objects a) → a < 64
  area_below a x i = cases (ltb a 64)
      (λ e. ltb-true a 64 e)
      (λ e. absurd (none_in (rw (no_objects_above s m b o a (ltb-false a 64 e)) at i)))

  pub open_area : (a : ℕ) (x : Object) → In x (b.objects a) → 2 ≤ a → Open b a
  open_area a x i h = (opens s b o.good o.same a h).0 (cases (is_open s a)
      (λ e. e)
      (λ e. absurd (none_in (rw (o.memory.closed a h (area_below a x i) (closed e)) at i))))
    where
      closed : is_open s a ≡ false → count_in s a ≡ 0
      closed e = let z : count_in s a ≤ 0 = ltb-false 0 (count_in s a) e in omega arith
