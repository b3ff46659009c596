-- The claims that speak of nesting: started threads, stacks, open scopes, parents, their order, and the verdicts of display, walk and scan.
-- Assumes nothing.
use Prim.Native.Nat.{ℕ, suc, ◌-◌, ◌≤◌, ◌<◌}
use mathlib.Core.Bool.{true, false, false≢true}
use mathlib.Core.List.{List, [], ◌∷◌}
use mathlib.Core.Path.{◌≡◌, refl, sym, ap, ◌∙◌, subst}
use mathlib.Core.Logic.{◌↔◌}
use lib.ListN.{length, get_or, get_or-eq_default}
use lib.Dec.{leb, ltb}
use native.Mathlib.Omega.{arith}
use borrow.Author.Tests.{eqb-true, eq-eqb, ltb-true, ltb-false, leb-true, leb-false, le-leb, lt-ltb}
use Rattle.layout.specs.Choice.{cases, and_true}
use Rattle.layout.specs.Display.{row_holds}
use Rattle.layout.specs.Stack.{down}
use Rattle.layout.specs.StackLaws.{length_down}
use Rattle.model.specs.declared.Area.{Area}
use Rattle.model.specs.State.{Thread, State, no_area, no_thread, area_at, row_at, thread_at, entries_of, stack_at, is_open, display_at, display_holds}
use Rattle.model.specs.Checks.{is_started}
use Rattle.model.specs.History.{History, started_in, thread_row, occurrences, total}
use Rattle.model.specs.Claims.{Open, Walk, Meets, InOrder, scan}
use Rattle.model.specs.Invariant.{Nested, Nesting, count_in, Good}
use Rattle.model.proofs.Nesting.{Chain, row_at_lem, StandsOn, stands_on}
use Rattle.model.proofs.Walks.{walk_is, meets_occ, occ_meets, scan_is, down_at, occ_down}
use Rattle.model.proofs.Sound.{Same}
use Rattle.model.proofs.Parts.{stack_is, nesting_same}
use Rattle.model.proofs.Bounds.{by_area}

module _ (s : State) (b : History) (g : Good s) (e : Same s b) where
  -- the nesting of the core, with the history's parents and rows
  pub history_nesting : Nesting b.parents (display_at s) (count_in s) b.rows
  history_nesting = nesting_same g.nesting (λ a. (sym (e.parents a), refl)) (λ a. refl) (sym e.rows)

  -- every row is nested, also one that is not there
  row_nested : (t : ℕ) → Nested b.parents (display_at s) (thread_row b t)
  row_nested t = cases (ltb t 16)
      (λ d. history_nesting.nested t (ltb-true t 16 d))
      (λ d. rw (get_or-eq_default b.rows [] {n = t} (omega (arith, ltb-false t 16 d, history_nesting.size))) tt)

  -- an open scope, with the branch below it on some row
  open_at : (a : ℕ) → Open b a → (k : List ℕ) × Chain b.parents (display_at s) (a ∷ k)
  open_at a o =
      let z : StandsOn b.parents (display_at s) b.rows a = stands_on history_nesting a o.0 o.1 in
      (z.branch, z.chain)

  -- there are 64 areas
  pub past : (a : ℕ) → 64 ≤ a → area_at s a ≡ no_area
  past a h = get_or-eq_default s.areas no_area {n = a} (omega (arith, g.areas))

  -- ---- the history's things

  pub started : (t : ℕ) → is_started s t ≡ started_in b t
  started t = ap (ltb 0) (e.kinds t)

  pub stacks : (t : ℕ) → stack_at s t ≡ thread_row b t
  stacks t = sym (stack_is s t) ∙ ap (λ (r : List (List ℕ)). get_or r t []) e.rows

  pub parents : (a : ℕ) → (area_at s a).parent ≡ b.parents a
  parents = e.parents

  pub opens : (a : ℕ) → 2 ≤ a → (is_open s a ≡ true) ↔ Open b a
  opens a h = (
    λ o. (h, omega (arith, ltb-true 0 (area_at s a).count o, history_nesting.counts a h (below (ltb-true 0 (area_at s a).count o)))),
    λ o. lt-ltb 0 (area_at s a).count (omega (arith, o.1, history_nesting.counts a h (open_at a o).1.0.area)),
  )
    where
      below : 0 < (area_at s a).count → a < 64
      below o = cases (leb 64 a)
          (λ d. absurd (omega (arith, ap (λ (x : Area). x.count) (past a (leb-true 64 a d)))))
          (λ d. leb-false 64 a d)

  pub counts : (a : ℕ) → 2 ≤ a → (area_at s a).count ≡ total a b.rows
  counts a h = cases (ltb a 64)
      (λ d. history_nesting.counts a h (ltb-true a 64 d))
      (λ d. let k : 64 ≤ a = ltb-false a 64 d in cases (ltb 0 (total a b.rows))
      (λ o. absurd (omega (arith, (open_at a (h, ltb-true 0 (total a b.rows) o)).1.0.area)))
      (λ o. omega (arith, ap (λ (x : Area). x.count) (past a k), ltb-false 0 (total a b.rows) o)))

  no_depth : (a : ℕ) → is_open s a ≡ false → (area_at s a).depth ≡ 0
  no_depth a o = cases (leb 64 a)
      (λ d. ap (λ (x : Area). x.depth) (past a (leb-true 64 a d)))
      (λ d.
      by_area s a
      (λ h. (g.standing a h).depth)
      (λ h z. (g.scopes a h (leb-false 64 a d)).no_depth z)
      (λ h k. absurd (omega (arith, ltb-false 0 (area_at s a).count o))))

  pub dropped : (a : ℕ) → is_open s a ≡ false → display_at s a ≡ []
  unfolding display_at down
  dropped a o = ap (down (row_at s a)) (no_depth a o)

  -- ---- inside the tables

  -- there are 16 threads
  no_thread_lem : (t : ℕ) → ltb t 16 ≡ false → thread_at s t ≡ no_thread
  no_thread_lem t d = get_or-eq_default s.threads no_thread {n = t} (omega (arith, ltb-false t 16 d, g.threads.size))

  pub threads : (t : ℕ) → started_in b t ≡ true → t < 16
  threads t k = cases (ltb t 16)
      (λ d. ltb-true t 16 d)
      (λ d. absurd (false≢true (sym (ap (λ (h : Thread). ltb 0 h.kind) (no_thread_lem t d)) ∙ started t ∙ k)))

  pub scopes : (a : ℕ) → Open b a → a < 64
  scopes a o = (open_at a o).1.0.area

  pub room : (t : ℕ) → (thread_at s t).len ≤ length (thread_at s t).entries
  room t = cases (ltb t 16)
      (λ d. let k = g.threads.each t (ltb-true t 16 d) in omega (arith, k.fits, k.room))
      (λ d. omega (arith, ap (λ (h : Thread). h.len) (no_thread_lem t d)))

  pub heights : (t : ℕ) → length (thread_row b t) ≤ 32
  heights t = rw (← stacks t) (cases (ltb t 16)
      (λ d. let k = g.threads.each t (ltb-true t 16 d) in omega (arith, height, k.fits))
      (λ d. omega (arith, height, ap (λ (h : Thread). h.len) (no_thread_lem t d))))
    where
      height : length (stack_at s t) ≡ (thread_at s t).len
      height = unfold entries_of in length_down (thread_at s t).entries (thread_at s t).len

  -- ---- walks

  pub order : (t a : ℕ) → 2 ≤ a → 0 < occurrences a (thread_row b t) → (l : List ℕ) × Walk b.parents a l × InOrder l (thread_row b t)
  order t a h p =
      let z : (l : List ℕ) × Chain b.parents (display_at s) (a ∷ l) × InOrder (a ∷ l) (thread_row b t)
      = row_at_lem b.parents (display_at s) a h (thread_row b t) (row_nested t) p in
      (a ∷ z.0, walk_is b.parents (display_at s) (a ∷ z.0) z.1, z.2)

  pub displays : (a : ℕ) → Open b a → Walk b.parents a (display_at s a)
  displays a o =
      let n : (k : List ℕ) × Chain b.parents (display_at s) (a ∷ k) = open_at a o in
      subst (Walk b.parents a) (sym n.1.0.display_is) (walk_is b.parents (display_at s) (a ∷ n.0) n.1)

  -- ---- the display

  display_occ : (a c : ℕ) → 2 ≤ a → display_holds s a c ≡ true → 0 < occurrences a (display_at s c)
  unfolding display_holds row_holds display_at
  display_occ a c h o =
      let f = and_true (leb (area_at s a).depth (area_at s c).depth) _ o in
      let k = and_true (ltb 0 (area_at s a).depth) _ f.1 in
      occ_down b.parents (display_at s) a h (row_at s c) (area_at s c).depth ((area_at s a).depth - 1)
      (omega (arith, ltb-true 0 (area_at s a).depth k.0, leb-true (area_at s a).depth (area_at s c).depth f.0))
      (eqb-true (get_or (row_at s c) ((area_at s a).depth - 1) 0) a k.1)

  occ_display : (a c : ℕ) → 2 ≤ a → Chain b.parents (display_at s) (display_at s c) → 0 < occurrences a (display_at s c) → display_holds s a c ≡ true
  unfolding display_holds row_holds display_at
  occ_display a c h n q =
      let z : (j : List ℕ) × Chain b.parents (display_at s) (a ∷ j) × (get_or (row_at s c) (length j) 0 ≡ a) × (length j < (area_at s c).depth)
      = down_at b.parents (display_at s) a h (row_at s c) (area_at s c).depth n q in
      let d : (area_at s a).depth ≡ suc (length z.0) = sym (length_down (row_at s a) (area_at s a).depth) ∙ ap length z.1.0.display_is in
      let p : (area_at s a).depth - 1 ≡ length z.0 = omega arith in
      rw (p, le-leb (area_at s a).depth (area_at s c).depth (omega (arith, z.3)), lt-ltb 0 (area_at s a).depth (omega arith)) (eq-eqb (get_or (row_at s c) (length z.0) 0) a z.2)

  pub looks : (a c : ℕ) → 2 ≤ a → Open b c → (display_holds s a c ≡ true) ↔ (0 < occurrences a (display_at s c))
  looks a c h o =
      let n : (k : List ℕ) × Chain b.parents (display_at s) (c ∷ k) = open_at c o in
      (display_occ a c h, occ_display a c h (subst (Chain b.parents (display_at s)) (sym n.1.0.display_is) n.1))

  -- one look into the display says whether the scope stands on it
  verdict : (a c : ℕ) → 2 ≤ a → (k : List ℕ) → Chain b.parents (display_at s) (c ∷ k) → display_holds s a c ≡ ltb 0 (occurrences a (c ∷ k))
  verdict a c h k n = cases (ltb 0 (occurrences a (c ∷ k)))
      (λ o. rw o (occ_display a c h (subst (Chain b.parents (display_at s)) (sym is) n) (rw is (ltb-true 0 (occurrences a (c ∷ k)) o))))
      (λ o. rw o (cases (display_holds s a c)
      (λ d. absurd (omega (arith, ltb-false 0 (occurrences a (c ∷ k)) o, display_occ a c h d, ap (occurrences a) is)))
      (λ d. d)))
    where
      is : display_at s c ≡ c ∷ k
      is = n.0.display_is

  pub walked : (a c : ℕ) → Open b a → Open b c → (display_holds s a c ≡ true) ↔ Meets b.parents a c
  walked a c o p =
      let n : (k : List ℕ) × Chain b.parents (display_at s) (c ∷ k) = open_at c p in (
        λ d. occ_meets b.parents (display_at s) a o.0 (c ∷ n.0) n.1 (ltb-true 0 (occurrences a (c ∷ n.0)) (sym (verdict a c o.0 n.0 n.1) ∙ d)),
        λ w. verdict a c o.0 n.0 n.1 ∙ lt-ltb 0 (occurrences a (c ∷ n.0)) (meets_occ b.parents (display_at s) a o.0 (c ∷ n.0) n.1 c refl w),
      )

  pub scanned : (t a c : ℕ) → 2 ≤ a → 2 ≤ c → 0 < occurrences a (thread_row b t) → 0 < occurrences c (thread_row b t) → display_holds s a c ≡ scan a c (thread_row b t)
  scanned t a c h k p q =
      let z : (j : List ℕ) × Chain b.parents (display_at s) (c ∷ j) × (scan a c (thread_row b t) ≡ ltb 0 (occurrences a (c ∷ j)))
      = scan_is b.parents (display_at s) a h c k (thread_row b t) (row_nested t) q in
      verdict a c h z.0 z.1 ∙ sym z.2
