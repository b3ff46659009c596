-- Op 04: its refusals over numbers, one law for each way that they end; what an accepted entry may rely on.
-- Assumes nothing.
use Rattle.std.specs.Prelude.{◌≡◌, Bool, true, false, ◌&&◌, ◌≢◌, List, ℕ, ◌≤◌, ◌<◌, eqb, leb, ltb}
use Rattle.std.proofs.Math.Path.{refl, sym}
use Rattle.std.proofs.Common.{ap, ◌∙◌}
use Rattle.std.proofs.Math.Bool.{not}
use borrow.Author.Tests.{le-leb, lt-leb, lt-ltb, le-ltb, eq-eqb, ne_eqb}
use Rattle.layout.specs.Choice.{refuse, refuse_first, hit, skip, peel}
use Rattle.rights.specs.declared.Right.TheVariants.{Enter}
use Rattle.model.specs.declared.Area.{Area}
use Rattle.model.specs.State.{State, area_at, thread_at, stack_at, made_as, is_made}
use Rattle.model.specs.Checks.{called, has_right}
use Rattle.model.specs.Scopes.{last_generation, other_parent, generations_out, enter_rest}
use Rattle.model.specs.Invariant.{Good}
use Rattle.model.proofs.Accepted.{Called, EnterOk, enter_ok}
use Rattle.tables.specs.declared.ThreadWords.{ThreadWords}
use Rattle.tables.specs.declared.Entry.{Entry}
use Rattle.tables.specs.Decode.{state_of, area_record, thread_record}
use Rattle.tables.proofs.Laws.{area_read, len_read}
use Rattle.callers.specs.Caller.{thread_refused, called_rest}
use Rattle.callers.specs.Stack.{top_entry_of}
use Rattle.opening.specs.Entered.{Enterable}
use Rattle.model.proofs.Bounds.{inner_area, count_bound}
use Rattle.model.proofs.KeepsEnter.{inner_depth}

-- refusals 6, 5 and 9 of a started thread and an area below 64, then the rest
unfoldable pub there_rest : State → ℕ → ℕ → ℕ → ℕ
there_rest s t q rest =
    refuse (not (made_as (area_at s q) q)) 6
    (refuse (not (has_right s t Enter q)) 5
    (refuse (leb 32 (thread_at s t).len) 9 rest))

-- refusals 10 and 17 of a scope, from its record and the innermost scope
unfoldable pub scope_rest : Area → ℕ → ℕ
scope_rest x inner =
    refuse (ltb 0 x.count && not (eqb x.parent inner)) 10
    (refuse (not (ltb 0 x.count) && leb last_generation x.generation) 17 0)

-- ---- 10 and 17 over numbers

module _ (x : Area) (p : ℕ) where
  pub other_parent_lem : 0 < x.count → x.parent ≢ p → 10 ≡ scope_rest x p
  unfolding scope_rest refuse
  other_parent_lem o h = rw (lt-ltb 0 x.count o, ne_eqb x.parent p h)

  pub same_parent : 0 < x.count → x.parent ≡ p → 0 ≡ scope_rest x p
  unfolding scope_rest refuse
  same_parent o h = rw (lt-ltb 0 x.count o, eq-eqb x.parent p h)

  pub last_generation_lem : x.count ≤ 0 → last_generation ≤ x.generation → 17 ≡ scope_rest x p
  unfolding scope_rest refuse
  last_generation_lem o h = rw (le-ltb 0 x.count o, le-leb last_generation x.generation h)

  pub fresh_generation : x.count ≤ 0 → x.generation < last_generation → 0 ≡ scope_rest x p
  unfolding scope_rest refuse
  fresh_generation o h = rw (le-ltb 0 x.count o, lt-leb last_generation x.generation h)

-- ---- the refusals over the state

module _ (s : State) (t q : ℕ) where
  pub enter_not_called : {n : ℕ} → n ≡ called s t 0 → n ≢ 0 → n ≡ enter_rest s t q
  unfolding enter_rest
  enter_not_called e h = thread_refused s t e h _

  -- 6, 5 and 9: where they refuse, nothing else counts; where they do not, the rest does
  there_first : there_rest s t q 0 ≢ 0 → (rest : ℕ) → there_rest s t q 0 ≡ there_rest s t q rest
  unfolding there_rest
  there_first h rest = refuse_first _ 6 (refuse_first _ 5 (refuse_first _ 9 (λ z. absurd (z refl)))) h

  there_passed : there_rest s t q 0 ≡ 0 → (rest : ℕ) → there_rest s t q rest ≡ rest
  unfolding there_rest
  there_passed e rest =
      let c = peel _ _ _ e in
      let d = peel _ _ _ c.1 in
      let f = peel _ _ _ d.1 in
      skip _ 6 _ c.0 ∙ skip _ 5 _ d.0 ∙ skip _ 9 rest f.0

  -- 10 and 17: none of heap or immortal memory; of a scope, whose record is x, by that record
  last_two : ℕ
  last_two = refuse (other_parent s t q) 10 (refuse (generations_out s q) 17 0)

  standing_none : q < 2 → 0 ≡ last_two
  unfolding last_two other_parent generations_out refuse
  standing_none h = rw (lt-leb 2 q h)

  scope_two : {x : Area} {y : Entry} → 2 ≤ q → x ≡ area_at s q → y ≡ top_entry_of (stack_at s t) → scope_rest x y.inner ≡ last_two
  unfolding last_two scope_rest other_parent generations_out
  scope_two h ex ey = rw (ex, ey, le-leb 2 q h) refl

  module _ (a : Called s t) where
    pub enter_no_area : 64 ≤ q → 6 ≡ enter_rest s t q
    unfolding enter_rest refuse
    enter_no_area h = sym (called_rest s t a _ ∙ rw (le-leb 64 q h))

    -- n is what check_there answers
    module _ (area : q < 64) {n : ℕ} (e : n ≡ there_rest s t q 0) where
      enter_there : there_rest s t q last_two ≡ enter_rest s t q
      unfolding enter_rest there_rest last_two is_made
      enter_there = sym (called_rest s t a _ ∙ rw (lt-leb 64 q area))

      pub there_refused : n ≢ 0 → n ≡ enter_rest s t q
      there_refused h = e ∙ there_first (λ z. h (e ∙ z)) last_two ∙ enter_there

      pub standing_checked : q < 2 → n ≡ enter_rest s t q
      standing_checked h = e ∙ ap (there_rest s t q) (standing_none h) ∙ enter_there

      -- x is the record of the scope, y what is read of the top, m what check_scope answers
      pub scope_checked : {m : ℕ} {x : Area} {y : Entry} → 2 ≤ q → n ≡ 0 → x ≡ area_at s q → y ≡ top_entry_of (stack_at s t) → m ≡ scope_rest x y.inner → m ≡ enter_rest s t q
      scope_checked h z ex ey em = em ∙ scope_two h ex ey ∙ sym (there_passed (sym e ∙ z) last_two) ∙ enter_there

  -- n is what the checks answer
  pub enterable : {n : ℕ} → Good s → n ≡ enter_rest s t q → n ≡ 0 → Enterable s t q
  enterable g e z =
      let k : EnterOk s t q = enter_ok s t q (sym e ∙ z) in
      record {
        thread = k.called.thread;
        room = k.room;
        area = k.area;
        parent = inner_area s g t k.called.thread;
        depth = inner_depth s t q g k;
        count = count_bound s g q k.area;
        generation = k.generation;
      }

-- ---- the refusals over the tables: x is the area's record, y what the test of it answers, r what is read of the right

module _ (w b : List ℕ) (t q : ℕ) (hq : q < 64) {x : Area} (ex : x ≡ area_record w q) {y : Bool} (ey : y ≡ made_as x q) where
  made_is : made_as (area_at (state_of w b) q) q ≡ y
  made_is = sym (ey ∙ ap (λ (z : Area). made_as z q) (ex ∙ sym (area_read w b q hq)))

  pub not_made : y ≡ false → 6 ≡ there_rest (state_of w b) t q 0
  unfolding there_rest
  not_made f = sym (hit (not (made_as (area_at (state_of w b) q) q)) 6 _ (ap not (made_is ∙ f)))

  module _ (f : y ≡ true) {r : Bool} (er : r ≡ has_right (state_of w b) t Enter q) where
    past_6 : there_rest (state_of w b) t q 0 ≡ refuse (not (has_right (state_of w b) t Enter q)) 5 (refuse (leb 32 (thread_at (state_of w b) t).len) 9 0)
    unfolding there_rest
    past_6 = skip (not (made_as (area_at (state_of w b) q) q)) 6 _ (ap not (made_is ∙ f))

    pub no_right : r ≡ false → 5 ≡ there_rest (state_of w b) t q 0
    no_right g = sym (past_6 ∙ hit (not (has_right (state_of w b) t Enter q)) 5 _ (ap not (sym er ∙ g)))

    -- h are the words of the thread
    module _ (g : r ≡ true) {h : ThreadWords} (ht : t < 16) (eh : h ≡ thread_record w t) where
      past_5 : there_rest (state_of w b) t q 0 ≡ refuse (leb 32 h.len) 9 0
      past_5 =
          past_6
          ∙ skip (not (has_right (state_of w b) t Enter q)) 5 _ (ap not (sym er ∙ g))
          ∙ ap (λ (n : ℕ). refuse (leb 32 n) 9 0) (len_read w b t ht eh)

      pub full : 32 ≤ h.len → 9 ≡ there_rest (state_of w b) t q 0
      full k = sym (past_5 ∙ hit (leb 32 h.len) 9 0 (le-leb 32 h.len k))

      pub place_left : h.len < 32 → 0 ≡ there_rest (state_of w b) t q 0
      place_left k = sym (past_5 ∙ skip (leb 32 h.len) 9 0 (lt-leb 32 h.len k))
