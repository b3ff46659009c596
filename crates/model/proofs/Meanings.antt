-- What the words of the claims mean, by laws that a weaker word breaks.
-- Assumes nothing.
use Prim.Native.Nat.{ℕ, suc, ◌+◌, ◌≤◌, ◌<◌}
use mathlib.Core.Bool.{true, false≢true}
use mathlib.Core.List.{List, [], ◌∷◌, ◌++◌}
use mathlib.Core.Path.{◌≡◌, refl, sym, ap, ◌∙◌}
use mathlib.Core.Logic.{◌↔◌, ◌⊎◌, inl, inr, ⊎_elim}
use lib.Dec.{eqb}
use lib.ListN.{length, set}
use native.Mathlib.Omega.{arith}
use borrow.Author.Tests.{eqb-true, eqb-false, eq-eqb, ne_eqb}
use Rattle.layout.specs.Choice.{cases}
use Rattle.layout.specs.Handle.{offset_of}
use Rattle.model.specs.State.{State, Memory, area_at, current, store_of}
use Rattle.model.specs.Calls.{Call, start, end, make, enter, exit, start_helper, remove, allocate, store, write, asks, configure}
use Rattle.model.specs.Run.{Line, World}
use Rattle.model.specs.History.{Object, History, thread_row, below, occurrences, handles, is_scope_on_none, history_thread, history_size, history_enter, history_exit, history_allocate, history_words, history_step, history_line, history_from, history_of}
use Rattle.model.specs.Claims.{Open, Walk, ends, goes, Meets, here, up, InOrder, none, keep, skip, on_row, scan, In, Among, Within, Allocates, Since, made, stays, Names, newest, Claims}
use Rattle.model.proofs.Lists.{on_one, occ_le_total, occ_nil, occ_other}
use Rattle.model.proofs.Memory.{put_same, put_other}
use Rattle.model.proofs.Traces.{among_some}
use Rattle.model.proofs.ValueMeanings.{helper_number, row_received}

-- ---- lists: what is one of a list stands at some place of it, and nothing else is

abbrev pub At {ℓ} : {A : Type ℓ} → A → List A → Type ℓ
At {A} x l = (above : List A) × (under : List A) × (l ≡ above ++ (x ∷ under))

at_later {ℓ} : {A : Type ℓ} {x : A} {l : List A} (y : A) → At x l → At x (y ∷ l)
at_later y z = (y ∷ z.0, z.1, ap (λ l. y ∷ l) z.2)

in_at : {o : Object} {l : List Object} → In o l → At o l
in_at (In.first {l = l}) = ([], l, refl)
in_at (In.later {x = x} i) = at_later x (in_at i)

in_joined : (o : Object) (k l : List Object) → In o (k ++ (o ∷ l))
in_joined o [] l = In.first
in_joined o (x ∷ k) l = In.later (in_joined o k l)

pub in_is : {o : Object} {l : List Object} → In o l ↔ At o l
in_is {o} = (in_at, λ z. rw z.2 (in_joined o z.0 z.1))

among_at : {x : ℕ} {l : List ℕ} → Among x l → At x l
among_at (Among.first {l = l}) = ([], l, refl)
among_at (Among.later {y = y} i) = at_later y (among_at i)

among_none : {x : ℕ} → Among x [] → ⊥
among_none {x} i = omega (arith, among_some i, occ_nil x)

among_cons : {x y : ℕ} {l : List ℕ} → Among x (y ∷ l) → (x ≡ y) ⊎ Among x l
among_cons Among.first = inl refl
among_cons (Among.later i) = inr i

among_joined : (x : ℕ) (k l : List ℕ) → Among x (k ++ (x ∷ l))
among_joined x [] l = Among.first
among_joined x (y ∷ k) l = Among.later (among_joined x k l)

pub among_is : {x : ℕ} {l : List ℕ} → Among x l ↔ At x l
among_is {x} = (among_at, λ z. rw z.2 (among_joined x z.0 z.1))

-- ---- rows

some_among : (a : ℕ) (r : List ℕ) → 0 < occurrences a r → Among a r
unfolding occurrences
some_among a [] h = absurd (omega arith)
some_among a (x ∷ r) h = cases (eqb x a)
    (λ e. rw (eqb-true x a e) Among.first)
    (λ e. Among.later (some_among a r (rw (occ_other a x r (eqb-false x a e)) at h)))

-- how often a number stands on a row is above 0 exactly where it stands on it
pub occurs_is : (a : ℕ) (r : List ℕ) → (0 < occurrences a r) ↔ Among a r
occurs_is a r = (some_among a r, among_some)

-- "Open means on some row."
pub open_is : (b : History) (a : ℕ) → Open b a ↔ ((2 ≤ a) × ((t : ℕ) × Among a (thread_row b t)))
open_is b a = (
  λ o. let z = on_one a b.rows o.1 in (o.0, (z.0, some_among a (thread_row b z.0) z.2)),
  λ z. (z.0, omega (arith, among_some z.1.1, occ_le_total a b.rows z.1.0)),
)

yes_among : (a : ℕ) (r : List ℕ) → on_row a r ≡ true → Among a r
unfolding on_row
yes_among a [] e = absurd (false≢true e)
yes_among a (x ∷ r) e = cases (eqb x a)
    (λ d. rw (eqb-true x a d) Among.first)
    (λ d. Among.later (yes_among a r (rw d at e)))

among_yes : {a : ℕ} {r : List ℕ} → Among a r → on_row a r ≡ true
unfolding on_row
among_yes {a} (Among.first {l = l}) = rw (eq-eqb a a refl)
among_yes {a} (Among.later {y = y} i) = cases (eqb y a) (λ d. rw d) (λ d. rw d (among_yes i))

pub on_row_is : (a : ℕ) (r : List ℕ) → (on_row a r ≡ true) ↔ Among a r
on_row_is a r = (yes_among a r, among_yes)

-- "the scan [says yes] if on the thread's row A stands no higher than B": both stand on the row, and from the highest B down there is an A
pub record NoHigher (a b : ℕ) (r : List ℕ) : Type 0 where
  pub above : List ℕ
  pub under : List ℕ
  pub row : r ≡ above ++ (b ∷ under)
  pub highest : Among b above → ⊥
  pub found : Among a (b ∷ under)

scan_found : (a b : ℕ) (r : List ℕ) → scan a b r ≡ true → NoHigher a b r
unfolding scan
scan_found a b [] e = absurd (false≢true e)
scan_found a b (x ∷ r) e = cases (eqb x b)
    (λ d. record {
      above = [];
      under = r;
      row = rw (eqb-true x b d);
      highest = λ i. among_none i;
      found = rw (eqb-true x b d) at (yes_among a (x ∷ r) (rw d at e));
    })
    (λ d. let z = scan_found a b r (rw d at e) in record {
      above = x ∷ z.above;
      under = z.under;
      row = ap (λ l. x ∷ l) z.row;
      highest = λ i. ⊎_elim (λ k. eqb-false x b d (sym k)) z.highest (among_cons i);
      found = z.found;
    })

found_scan : (a b : ℕ) (above under : List ℕ) → (Among b above → ⊥) → Among a (b ∷ under) → scan a b (above ++ (b ∷ under)) ≡ true
unfolding scan
found_scan a b [] under h i = rw (eq-eqb b b refl) (among_yes i)
found_scan a b (x ∷ above) under h i =
    rw (ne_eqb x b (λ e. h (rw e Among.first))) (found_scan a b above under (λ k. h (Among.later k)) i)

pub scan_yes : (a b : ℕ) (r : List ℕ) → (scan a b r ≡ true) ↔ NoHigher a b r
scan_yes a b r = (scan_found a b r, λ z. rw z.row (found_scan a b z.above z.under z.highest z.found))

-- ---- walks

-- "A walk goes from a scope to its parent and so on; it meets the scope itself and then its ancestors, the outermost last."
pub walk_ends : {parent : ℕ → ℕ} {a : ℕ} → Walk parent a [] → a ≡ 0
walk_ends ends = refl

pub walk_goes : {parent : ℕ → ℕ} {a x : ℕ} {l : List ℕ} → Walk parent a (x ∷ l) → (x ≡ a) × (2 ≤ a) × Walk parent (parent a) l
walk_goes (goes h w) = (refl, h, w)

-- so two walks from one scope are equal
pub walk_one : {parent : ℕ → ℕ} {a : ℕ} {k l : List ℕ} → Walk parent a k → Walk parent a l → k ≡ l
walk_one ends ends = refl
walk_one ends (goes h w) = absurd (omega arith)
walk_one (goes h w) ends = absurd (omega arith)
walk_one (goes {a = a} h w) (goes i v) = ap (λ l. a ∷ l) (walk_one w v)

-- what the walk from a scope meets is what stands on it
met_among : {parent : ℕ → ℕ} {a b : ℕ} {l : List ℕ} → 2 ≤ a → Walk parent b l → Meets parent a b → Among a l
met_among h ends here = absurd (omega arith)
met_among h ends (up k m) = absurd (omega arith)
met_among h (goes k w) here = Among.first
met_among h (goes k w) (up j m) = Among.later (met_among h w m)

among_met : {parent : ℕ → ℕ} {a b : ℕ} {l : List ℕ} → Walk parent b l → Among a l → Meets parent a b
among_met {parent = parent} {a = a} ends i = elim i [ ]
among_met (goes k w) Among.first = here
among_met (goes k w) (Among.later i) = up k (among_met w i)

pub meets_is : {parent : ℕ → ℕ} {a b : ℕ} {l : List ℕ} → 2 ≤ a → Walk parent b l → Meets parent a b ↔ Among a l
meets_is h w = (met_among h w, among_met w)

-- "In their order means that on the row each one met stands below the one met before it, outermost lowest."
pub order_below : {a : ℕ} {l r : List ℕ} → InOrder (a ∷ l) r
    → (above : List ℕ) × (under : List ℕ) × (r ≡ above ++ (a ∷ under)) × InOrder l under
order_below (keep {r = r} o) = ([], r, refl, o)
order_below (skip {x = x} o) = let z = order_below o in (x ∷ z.0, z.1, ap (λ l. x ∷ l) z.2, z.3)

-- so what is in order on a row stands on it
pub order_among : {x : ℕ} {l r : List ℕ} → InOrder l r → Among x l → Among x r
order_among (none {r = r}) i = elim i [ ]
order_among (keep o) Among.first = Among.first
order_among (keep o) (Among.later i) = Among.later (order_among o i)
order_among (skip o) i = Among.later (order_among o i)

-- ---- the history's objects

-- an accepted allocation makes one object, in its area, with the handle that it gave
pub allocates_is : {b : History} {l : Line} {x a : ℕ} → Allocates b l x a
    → (o : Object) × (o.handle ≡ x) × ((history_line b l).objects a ≡ o ∷ b.objects a)
unfolding history_line history_allocate
allocates_is {b} {l} {x} {a} k = (
  record { handle = l.reply.value; slots = k.slots; data_words = k.data_words },
  k.gave,
  rw (k.accepted, k.call, k.area) (put_same b.objects a _),
)

-- every word after the header of an object that lies inside is a word of its store: none reads as 0 because it is not there
pub word_inside : {s : State} {m : Memory} {a : ℕ} {o : Object} → Within s m a o → (i : ℕ) → i < o.slots + o.data_words
    → (area_at s a).start + suc (offset_of o.handle + i) < length (store_of m a)
word_inside k i h = omega (arith, k.ends, k.used, k.inside)

among_handles : {o : Object} {l : List Object} → In o l → Among o.handle (handles l)
among_handles In.first = Among.first
among_handles (In.later i) = Among.later (among_handles i)

among_before : {x : ℕ} {k : List ℕ} (l : List ℕ) → Among x k → Among x (k ++ l)
among_before l Among.first = Among.first
among_before l (Among.later i) = Among.later (among_before l i)

module _ (b : History) (a : ℕ) (o : Object) (i : In o (b.objects a)) where
  abbrev KeptOrGone : History → Type 0
  KeptOrGone c = In o (c.objects a) ⊎ Among o.handle c.gone

  kept_exit : (t : ℕ) → KeptOrGone (history_exit b t)
  unfolding history_exit
  kept_exit t = cases (is_scope_on_none (current (thread_row b t)) (set b.rows t (below (thread_row b t))))
      (λ e. cases (eqb a (current (thread_row b t)))
      (λ d. inr (rw e (among_before b.gone (among_handles (rw (eqb-true a (current (thread_row b t)) d) at i)))))
      (λ d. inl (rw (e, put_other b.objects (current (thread_row b t)) [] a (eqb-false a (current (thread_row b t)) d)) i)))
      (λ e. inl (rw e i))

  kept_allocate : (t : ℕ) (n : Object) → KeptOrGone (history_allocate b t n)
  unfolding history_allocate
  kept_allocate t n = cases (eqb a (current (thread_row b t)))
      (λ d. inl (rw (eqb-true a (current (thread_row b t)) d, put_same b.objects (current (thread_row b t)) (n ∷ b.objects (current (thread_row b t))))
      (In.later (rw (eqb-true a (current (thread_row b t)) d) at i))))
      (λ d. inl (rw (put_other b.objects (current (thread_row b t)) (n ∷ b.objects (current (thread_row b t))) a (eqb-false a (current (thread_row b t)) d)) i))

  kept_step : (c : Call) (v : ℕ) → KeptOrGone (history_step b c v)
  unfolding history_thread history_size history_enter history_words
  kept_step (start t p) v = inl i
  kept_step (end t) v = inl i
  kept_step (make t q r) v = inl i
  kept_step (enter t q) v = inl i
  kept_step (exit t) v = kept_exit t
  kept_step (start_helper t p q) v = inl i
  kept_step (remove t q) v = inl i
  kept_step (allocate t q r) v = kept_allocate t _
  kept_step (store t p q r) v = inl i
  kept_step (write t p q r) v = inl i
  kept_step (asks x) v = inl i
  kept_step (configure x) v = inl i

  -- nothing vanishes: after a line an object is there, or its handle is one of those gone
  pub kept_or_gone : (l : Line) → KeptOrGone (history_line b l)
  unfolding history_line
  kept_or_gone l = cases (eqb l.reply.status 0) (λ e. rw e (kept_step l.call l.reply.value)) (λ e. inl (rw e i))

-- ---- by the list of calls alone

current_among : (r : List ℕ) → 2 ≤ current r → Among (current r) r
current_among [] h = absurd (omega arith)
current_among (x ∷ r) h = Among.first

-- the area that an allocation allocates in is open, if it is a scope
allocated_open : {x a : ℕ} {l : Line} (ls : List Line) → Allocates (history_of ls) l x a → 2 ≤ a → Open (history_of (l ∷ ls)) a
unfolding history_from history_line history_allocate
allocated_open {a = a} ls k h =
    rw (k.accepted, k.call) ((open_is (history_of ls) a).1 (h, (k.thread, rw k.area at (current_among (thread_row (history_of ls) k.thread) (rw k.area h)))))

-- x was given in area a by a line of the trace; "has never been empty of threads since": after that line, and after each one that came
-- later, the area is open, if it is a scope
pub record Given (x a : ℕ) (ls : List Line) : Type 0 where
  pub newer : List Line
  pub line : Line
  pub older : List Line
  pub trace : ls ≡ newer ++ (line ∷ older)
  pub gave : Allocates (history_of older) line x a
  pub always : 2 ≤ a → (later sooner : List Line) → newer ≡ later ++ sooner → Open (history_of (sooner ++ (line ∷ older))) a

no_newer : (later sooner : List Line) → [] ≡ later ++ sooner → sooner ≡ []
no_newer [] sooner e = sym e
no_newer (x ∷ later) sooner e = let z : ◌≡◌ {A = ℕ} 0 1 = cc in absurd (omega arith)

one_newer : {x a : ℕ} (l : Line) (ls : List Line) → (2 ≤ a → Open (history_of (l ∷ ls)) a) → Given x a ls → Given x a (l ∷ ls)
one_newer {x} {a} l ls o z = record {
  newer = l ∷ z.newer;
  line = z.line;
  older = z.older;
  trace = ap (λ k. l ∷ k) z.trace;
  gave = z.gave;
  always = always;
}
  where
    always : 2 ≤ a → (later sooner : List Line) → l ∷ z.newer ≡ later ++ sooner → Open (history_of (sooner ++ (z.line ∷ z.older))) a
    always h [] sooner e = rw (← e, ← z.trace) (o h)
    always h (y ∷ later) sooner e = z.always h later sooner (cc)

pub since_given : {x a : ℕ} {ls : List Line} → Since x a ls → Given x a ls
since_given (made {l = l} {ls = ls} k) = record {
  newer = [];
  line = l;
  older = ls;
  trace = refl;
  gave = k;
  always = λ h later sooner e. rw (no_newer later sooner e) (allocated_open ls k h);
}
since_given (stays {l = l} {ls = ls} s o) = one_newer l ls o (since_given s)

-- so it is open now
pub since_open : {x a : ℕ} {ls : List Line} → Since x a ls → 2 ≤ a → Open (history_of ls) a
since_open s h = let z = since_given s in rw z.trace (z.always h [] z.newer refl)

-- what names an object is the handle of one that the history has, and was given for it
pub names_is : {b : History} {ls : List Line} {x : ℕ} → Names b ls x → (a : ℕ) × Among x (handles (b.objects a)) × Given x a ls
names_is n = (n.area, rw n.handle at (among_handles n.live), since_given n.since)

-- ---- together

-- "Every thread in a scope stands in all that scope's ancestors"
pub stands_in_ancestors : {w : World} {b : History} → Claims w b → (t a c : ℕ)
    → 2 ≤ a → 2 ≤ c → Among a (thread_row b t) → Meets b.parents c a → Among c (thread_row b t)
stands_in_ancestors k t a c h i on m =
    let z = k.order t a h (among_some on) in
    order_among z.2 (met_among i z.1 m)

-- "The guarantees on ancestors must cover threads that never called enter": a helper that has just been started, thread q, stands in all ancestors
-- of each scope on its starter's row
pub helper_in_ancestors : {w : World} → Claims w (history_of w.trace) → (l : Line) (ls : List Line) → w.trace ≡ l ∷ ls
    → (t p q : ℕ) → l.call ≡ start_helper t p q → l.reply.status ≡ 0
    → (a c : ℕ) → 2 ≤ a → 2 ≤ c → Among a (thread_row (history_of ls) t) → Meets (history_of w.trace).parents c a → Among c (thread_row (history_of w.trace) q)
helper_in_ancestors {w} k l ls d t p q e z a c h i on m = stands_in_ancestors k q a c h i (rw (d, row_received l ls t p q e z number) on) m
  where
    number : q < 16
    number = helper_number ls t p q (sym (k.helpers l ls (rw d newest) t p q e (λ y. omega (arith, y))) ∙ z)
