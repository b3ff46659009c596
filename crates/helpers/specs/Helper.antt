-- Op 0b: its loops, one law for each way that its checks end, and what it leaves.
-- Assumes nothing.
use Rattle.std.specs.Prelude.{ℕ, zero, suc, ◌+◌, ◌≤◌, ◌<◌, Bool, not, ◌&&◌, ◌≢◌, ◌≡◌, eqb, get_or}
use Rattle.std.proofs.Math.Bool.{true, false}
use mathlib.Core.List.{List, [], ◌∷◌}
use Rattle.std.proofs.Math.Path.{refl, sym, ap, ap₂}
use Rattle.std.proofs.Common.{◌∙◌, add-one, eqb-true}
use native.Mathlib.Omega.{arith}
use Rattle.std.proofs.lemmas.Bool.{eqb-false}
use Rattle.layout.specs.Choice.{refuse, hit, skip, cases, and_true}
use Rattle.layout.specs.Stack.{down}
use Rattle.layout.specs.StackLaws.{length_down}
use Rattle.rights.specs.Rights.{class_of, allows}
use Rattle.rights.specs.declared.Right.TheVariants.{Enter}
use Rattle.model.specs.declared.Area.{Area}
use Rattle.model.specs.State.{Thread, State, area_at, thread_at, with_kind, with_area, with_thread, entries_of, stack_at}
use Rattle.model.specs.Checks.{called}
use Rattle.model.specs.Threads.{startable}
use Rattle.model.specs.Scopes.{reentered}
use Rattle.model.specs.Helpers.{may_enter_all, helper_rest, raised_area, raised, helper_state, helper_change}
use Rattle.model.specs.History.{occurrences}
use Rattle.model.proofs.Accepted.{Called, HelperOk, helper_ok, StartOk, startable_ok}
use Rattle.model.proofs.Lists.{occ_more}
use Rattle.model.proofs.Alters.{AllOpen, raised_low, raised_scope, raised_keeps}
use Rattle.model.proofs.KeepsHelper.{stack_open, raised_bound, good_helper}
use Rattle.tables.specs.declared.ThreadWords.{ThreadWords}
use Rattle.tables.specs.declared.Entry.{Entry}
use Rattle.tables.specs.Decode.{state_of, area_record, put_area, thread_record, put_thread, entry_record, copy_stack, rights_of, Shaped, Holds}
use Rattle.tables.proofs.Laws.{area_read, len_read, entry_read, state_area, state_copy}
use Rattle.tables.specs.Contract.{Ready, Changed}
use Rattle.tables.proofs.AnsweredLaws.{changed_accepted}
use Rattle.callers.specs.Caller.{thread_refused, called_rest}
use Rattle.callers.specs.Stack.{length_bound}
use Rattle.threads.specs.Thread.{start_refused, start_passed}

-- ---- the lowest n entries of a stack

-- of thread t, the highest of them first
abbrev pub lowest : State → ℕ → ℕ → List ℕ
lowest s t n = down (thread_at s t).entries n

-- the whole stack, where x are the words of the thread
pub whole : (w b : List ℕ) (t : ℕ) {x : ThreadWords} → t < 16 → x ≡ thread_record w t → (n : ℕ) → n ≡ x.len → lowest (state_of w b) t n ≡ stack_at (state_of w b) t
unfolding entries_of
whole w b t h e n f = ap (down (thread_at (state_of w b) t).entries) (f ∙ sym (len_read w b t h e))

-- a part of a stack has no scope that the stack has not
occ_part : (a : ℕ) (l : List ℕ) (i n : ℕ) → i ≤ n → 0 < occurrences a (down l i) → 0 < occurrences a (down l n)
unfolding down
occ_part a l i zero h p = rw (← i_is) at p
  where
    i_is : 0 ≡ i
    i_is = omega arith
occ_part a l i (suc n) h p = cases (eqb i (suc n))
    (λ e. rw (eqb-true i (suc n) e) at p)
    (λ e. occ_more a (get_or l n 0) (down l n) (occ_part a l i n (omega (arith, eqb-false i (suc n) e)) p))

-- ---- a kind and a stack

-- the kind lacks E for one of the lowest n entries
one_lacks : (table : List ℕ) (kind : ℕ) (l : List ℕ) (i n : ℕ) → i < n → allows table kind (class_of (get_or l i 0)) Enter ≡ false → may_enter_all table kind (down l n) ≡ false
unfolding down may_enter_all
one_lacks table kind l i zero h e = absurd (omega arith)
one_lacks table kind l i (suc n) h e = cases (eqb i n)
    (λ d. rw (← eqb-true i n d, e))
    (λ d. rw (one_lacks table kind l i n (omega (arith, eqb-false i n d)) e) (and_no (allows table kind (class_of (get_or l n 0)) Enter)))
  where
    and_no : (t : Bool) → t && false ≡ false
    and_no true = refl
    and_no false = refl

-- an area of every class
abbrev pub every_class : List ℕ
every_class = 0 ∷ 1 ∷ 2 ∷ []

-- what is read of the three
module _ (table : List ℕ) (kind : ℕ) {heap : Bool} (h : heap ≡ allows table kind (class_of 0) Enter) where
  pub heap_lacks : heap ≡ false → false ≡ may_enter_all table kind every_class
  unfolding may_enter_all
  heap_lacks e = rw (sym h ∙ e)

  module _ (e : heap ≡ true) {immortal : Bool} (i : immortal ≡ allows table kind (class_of 1) Enter) where
    pub immortal_lacks : immortal ≡ false → false ≡ may_enter_all table kind every_class
    unfolding may_enter_all
    immortal_lacks f = rw (sym h ∙ e, sym i ∙ f)

    pub by_scope : immortal ≡ true → {scope : Bool} → scope ≡ allows table kind (class_of 2) Enter → scope ≡ may_enter_all table kind every_class
    unfolding may_enter_all
    by_scope f s = rw (sym h ∙ e, sym i ∙ f, ← s) (and_yes _)
      where
        and_yes : (t : Bool) → t ≡ t && true
        and_yes true = refl
        and_yes false = refl

-- a kind that may enter every class may enter the areas of any stack
module _ (table : List ℕ) (kind : ℕ) (e : may_enter_all table kind every_class ≡ true) where
  every_area : (a : ℕ) → allows table kind (class_of a) Enter ≡ true
  unfolding may_enter_all class_of
  every_area a =
      let x = and_true (allows table kind (class_of 0) Enter) _ e in
      let y = and_true (allows table kind (class_of 1) Enter) _ x.1 in
      let z = and_true (allows table kind (class_of 2) Enter) _ y.1 in
      cases (eqb a 0) (λ d. rw d x.0) (λ d. cases (eqb a 1) (λ f. rw (d, f) y.0) (λ f. rw (d, f) z.0))

  pub enters_every : (l : List ℕ) → may_enter_all table kind l ≡ true
  unfolding may_enter_all
  enters_every [] = refl
  enters_every (x ∷ l) = rw (every_area x) (enters_every l)

-- ---- the loops, one entry further

module _ (w b : List ℕ) (y : Ready w b) (t : ℕ) (h : t < 16) where
  -- entry i, where x is what is read of it
  entry_is : (i : ℕ) {x : Entry} → i < 32 → x ≡ entry_record b t i → x.area ≡ get_or (thread_at (state_of w b) t).entries i 0
  entry_is i k e = ap (λ (z : Entry). z.area) e ∙ sym (entry_read w b t i h k)

  -- it is an area
  pub entry_area : {x : ThreadWords} → x ≡ thread_record w t → (i : ℕ) {z : Entry} → i < x.len → z ≡ entry_record b t i → z.area < 64
  entry_area e i k f = rw (entry_is i (omega (arith, length_bound w b y t h _ e)) f) ((y.good.threads.each t h).areas i (omega (arith, len_read w b t h e)))

  -- the kind may enter the area of each entry so far
  pub enters_none : (kind : ℕ) → true ≡ may_enter_all (state_of w b).rights kind (lowest (state_of w b) t 0)
  unfolding may_enter_all down
  enters_none kind = refl

  module _ (kind i : ℕ) {x : Entry} {may : Bool} (k : i < 32) (e : x ≡ entry_record b t i) (m : may ≡ allows (rights_of b) kind (class_of x.area) Enter) where
    entry_may : allows (state_of w b).rights kind (class_of (get_or (thread_at (state_of w b) t).entries i 0)) Enter ≡ may
    unfolding state_of
    entry_may = ap (λ (a : ℕ). allows (rights_of b) kind (class_of a) Enter) (sym (entry_is i k e)) ∙ sym m

    -- it may enter one area more
    pub enters_more : may ≡ true → true ≡ may_enter_all (state_of w b).rights kind (lowest (state_of w b) t i)
        → true ≡ may_enter_all (state_of w b).rights kind (lowest (state_of w b) t (i + 1))
    unfolding may_enter_all down
    enters_more f g = rw (add-one i, entry_may, f) g

    -- or it may not, and whatever stands above counts no more
    pub enters_not : may ≡ false → {y : ThreadWords} → y ≡ thread_record w t → i < y.len → false ≡ may_enter_all (state_of w b).rights kind (stack_at (state_of w b) t)
    unfolding entries_of
    enters_not f g l = sym (one_lacks (state_of w b).rights kind (thread_at (state_of w b) t).entries i _ (omega (arith, len_read w b t h g)) (entry_may ∙ f))

  -- the counts of the entries so far are raised
  pub raised_none : Holds w b (raised (state_of w b) (lowest (state_of w b) t 0))
  unfolding raised down
  raised_none = record { sized = y.sized; state = refl }

  -- v are the words then
  module _ {v : List ℕ} (i : ℕ) (e : Holds v b (raised (state_of w b) (lowest (state_of w b) t i))) where
    pub raised_room : {x : ThreadWords} → x ≡ thread_record w t → i < x.len → (a : ℕ) → a < 64 → (area_at (state_of v b) a).count < 1024
    unfolding entries_of
    raised_room f k a l = rw e.state (omega (
      arith,
      raised_bound (state_of w b) y.good (lowest (state_of w b) t i) opens a l,
      length_down (thread_at (state_of w b) t).entries i,
      length_bound w b y t h _ f,
    ))
      where
        opens : AllOpen (state_of w b) (lowest (state_of w b) t i)
        opens c n p = stack_open (state_of w b) y.good t h c n
            (occ_part c (thread_at (state_of w b) t).entries i (thread_at (state_of w b) t).len (omega (arith, len_read w b t h f)) p)

    pub raised_more : {x : Entry} → i < 32 → x ≡ entry_record b t i → {u : List ℕ} → Holds u b (raised_area (state_of v b) x.area)
        → Holds u b (raised (state_of w b) (lowest (state_of w b) t (i + 1)))
    unfolding raised down
    raised_more k f d = record {
      sized = d.sized;
      state = d.state ∙ ap₂ raised_area e.state (entry_is i k f) ∙ rw (add-one i) refl;
    }

-- ---- the refusals

module _ (s : State) (t p q : ℕ) where
  pub helper_not_called : {n : ℕ} → n ≡ called s t 0 → n ≢ 0 → n ≡ helper_rest s t p q
  unfolding helper_rest
  helper_not_called e h = thread_refused s t e h _

  module _ (a : Called s t) {n : ℕ} (e : n ≡ startable s q p 0) where
    pub helper_not_startable : n ≢ 0 → n ≡ helper_rest s t p q
    unfolding helper_rest
    helper_not_startable h = start_refused s q p e h _ ∙ sym (called_rest s t a _)

    module _ (z : n ≡ 0) where
      last_is : helper_rest s t p q ≡ refuse (not (may_enter_all s.rights p (stack_at s t))) 5 0
      unfolding helper_rest
      last_is = called_rest s t a _ ∙ start_passed s q p e z _

      pub startable_is : StartOk s q p
      startable_is = (startable_ok s q p 0 (sym e ∙ z)).0

      pub no_right : {all : Bool} → all ≡ may_enter_all s.rights p (stack_at s t) → all ≡ false → 5 ≡ helper_rest s t p q
      no_right f g = sym (last_is ∙ hit _ 5 0 (ap not (sym f ∙ g)))

      pub helper_accepted : {all : Bool} → all ≡ may_enter_all s.rights p (stack_at s t) → all ≡ true → 0 ≡ helper_rest s t p q
      helper_accepted f g = sym (last_is ∙ skip _ 5 0 (ap not (sym f ∙ g)))

-- ---- the counts

-- x is the record of the area
module _ (w b : List ℕ) (z : Shaped w b) (a : ℕ) where
  pub standing_kept : a < 2 → Holds w b (raised_area (state_of w b) a)
  standing_kept h = record { sized = z; state = sym (raised_low (state_of w b) a h) }

  pub scope_raised : 2 ≤ a → a < 64 → {x y : Area} → x ≡ area_record w a → y ≡ reentered x → Holds (put_area w a y) b (raised_area (state_of w b) a)
  scope_raised h k e f =
      let c = state_area w b a _ k z in
      record { sized = c.sized; state = c.state ∙ ap (with_area (state_of w b) a) (f ∙ ap reentered (e ∙ sym (area_read w b a k))) ∙ sym (raised_scope (state_of w b) a h) }

-- ---- what is left: v are the words after the counts are raised, x those of the starter then

module _ (b v : List ℕ) (t p q : ℕ) (ht : t < 16) (hq : q < 16) {x : ThreadWords} (e : x ≡ thread_record v t) where
  copied : Shaped v b → Holds (put_thread v q (record { kind = p; len = x.len })) (copy_stack b t q) (with_thread (state_of v b) q (with_kind (thread_at (state_of v b) t) p))
  copied z = rw (len_read v b t ht e) (state_copy v b t q _ ht hq z)

  pub copied_holds : (s : State) → Holds v b (raised s (stack_at s t)) → Holds (put_thread v q (record { kind = p; len = x.len })) (copy_stack b t q) (helper_state s t p q)
  unfolding helper_state
  copied_holds s k =
      let c = copied k.sized in
      record { sized = c.sized; state = c.state ∙ ap₂ (λ (r : State) (h : Thread). with_thread r q (with_kind h p)) k.state (ap (λ (r : State). thread_at r t) k.state ∙ same) }
    where
      same : thread_at (raised s (stack_at s t)) t ≡ thread_at s t
      same = raised_keeps s (λ (r : State). thread_at r t) (λ r a y. unfold with_area in refl) (stack_at s t)

-- n is what the check answers
module _ (w b : List ℕ) (y : Ready w b) (t p q : ℕ) {n : ℕ} (e : n ≡ helper_rest (state_of w b) t p q) (z : n ≡ 0) where
  pub passed : HelperOk (state_of w b) t p q
  passed = helper_ok (state_of w b) t p q (sym e ∙ z)

  pub helper_on : {v d : List ℕ} → Holds v d (helper_state (state_of w b) t p q) → Changed w b (helper_change (state_of w b) t p q) n 0 v d
  helper_on k = rw z (changed_accepted w b (helper_change (state_of w b) t p q) y e z refl k (good_helper (state_of w b) t p q y.good passed))
