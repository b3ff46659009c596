-- The nesting of the stacks, over what is seen of a state: a parent, a display and a count for each area, and the rows.
-- Assumes nothing.
use Prim.Native.Nat.{ℕ, suc, ◌+◌, ◌≤◌, ◌<◌}
use mathlib.Core.List.{List, [], ◌∷◌}
use mathlib.Core.Path.{◌≡◌, refl, sym, ap, ◌∙◌}
use mathlib.Core.Logic.{◌≢◌}
use lib.ListN.{length, get_or, set, length-set}
use lib.Dec.{leb, ltb, eqb}
use native.Mathlib.Omega.{arith}
use lib.Seq.{get_or-set_same, get_or-set_other}
use borrow.Author.Tests.{leb-true, leb-false, ltb-true, ltb-false, eqb-true, eqb-false}
use Rattle.layout.specs.Choice.{cases}
use Rattle.model.specs.History.{occurrences, total}
use Rattle.model.specs.Claims.{InOrder, keep, skip}
use Rattle.model.specs.Invariant.{scopes_of, branch_of, first_item, Link, Nested, Nesting}
use Rattle.model.proofs.Lists.{total_set, occ_le_total, on_one, occ_same, occ_other, occ_more, scopes_low, scopes_high, scopes_order, order_occ}

-- ---- branches

-- each scope of a branch stands above those that follow it
abbrev pub Chain : (ℕ → ℕ) → (ℕ → List ℕ) → List ℕ → Type 0
Chain par dis [] = Unit {0}
Chain par dis (a ∷ l) = Link par dis a l × Chain par dis l

module _ (par : ℕ → ℕ) (dis : ℕ → List ℕ) where
  pub chain_of : (r : List ℕ) → Nested par dis r → Chain par dis (branch_of r)
  chain_of [] n = unfold scopes_of in tt
  chain_of (x ∷ r) n = cases (leb 2 x)
      (λ e. rw (scopes_high x r (leb-true 2 x e)) (n.0 (leb-true 2 x e), chain_of r n.1))
      (λ e. rw (scopes_low x r (leb-false 2 x e)) (chain_of r n.1))

  -- two with one first scope are one
  chain_same : (k l : List ℕ) → Chain par dis k → Chain par dis l → first_item k ≡ first_item l → k ≡ l
  chain_same [] [] m n e = refl
  chain_same [] (y ∷ l) m n e = absurd (omega (arith, n.0.scope))
  chain_same (x ∷ k) [] m n e = absurd (omega (arith, m.0.scope))
  chain_same (x ∷ k) (y ∷ l) m n e = sym m.0.display_is ∙ ap dis e ∙ n.0.display_is

  -- scope a on a row, with the branch below it
  pub row_at_lem : (a : ℕ) → 2 ≤ a → (r : List ℕ) → Nested par dis r → 0 < occurrences a r → (k : List ℕ) × Chain par dis (a ∷ k) × InOrder (a ∷ k) r
  unfolding occurrences
  row_at_lem a h [] n p = absurd (omega arith)
  row_at_lem a h (x ∷ r) n p =
      cases
      (eqb x a)
      (λ e. (branch_of r, ((rw (eqb-true x a e) at n.0) h, chain_of r n.1), rw (eqb-true x a e) (keep (scopes_order r))))
      (λ e.
      let z : (k : List ℕ) × Chain par dis (a ∷ k) × InOrder (a ∷ k) r = row_at_lem a h r n.1 (rw (occ_other a x r (eqb-false x a e)) at p) in
      (z.0, z.1, skip z.2))

-- ---- a scope that stands on a row

-- scope a on a row, above the branch below it there
pub record StandsOn (par : ℕ → ℕ) (dis : ℕ → List ℕ) (rows : List (List ℕ)) (a : ℕ) : Type 0 where
  pub thread : ℕ
  pub branch : List ℕ
  pub is_thread : thread < 16
  pub chain : Chain par dis (a ∷ branch)
  pub order : InOrder (a ∷ branch) (get_or rows thread [])

pub stands_on : {par : ℕ → ℕ} {dis : ℕ → List ℕ} {cnt : ℕ → ℕ} {rows : List (List ℕ)} → Nesting par dis cnt rows → (a : ℕ) → 2 ≤ a → 0 < total a rows → StandsOn par dis rows a
stands_on {par} {dis} {rows = rows} v a h o =
    let u : (t : ℕ) × (t < length rows) × (0 < occurrences a (get_or rows t [])) = on_one a rows o in
    let k : u.0 < 16 = omega (arith, u.1, v.size) in
    let z : (l : List ℕ) × Chain par dis (a ∷ l) × InOrder (a ∷ l) (get_or rows u.0 []) = row_at_lem par dis a h (get_or rows u.0 []) (v.nested u.0 k) u.2 in
    record { thread = u.0; branch = z.0; is_thread = k; chain = z.1; order = z.2 }

-- ---- what is asked of parents and displays at the scopes of a row alone

pub nested_frame : (par par' : ℕ → ℕ) (dis dis' : ℕ → List ℕ) (r : List ℕ)
    → ((a : ℕ) → 0 < occurrences a r → (par' a ≡ par a) × (dis' a ≡ dis a)) → Nested par dis r → Nested par' dis' r
nested_frame par par' dis dis' [] f n = tt
nested_frame par par' dis dis' (x ∷ r) f n =
    let here : (par' x ≡ par x) × (dis' x ≡ dis x) = f x (omega (arith, occ_same x r)) in (
      λ h. let k = n.0 h in record { scope = h; area = k.area; parent_is = here.0 ∙ k.parent_is; display_is = here.1 ∙ k.display_is },
      nested_frame par par' dis dis' r (λ a h. f a (occ_more a x r h)) n.1,
    )

-- q alone has changed, and is not on the row
nested_but : (par par' : ℕ → ℕ) (dis dis' : ℕ → List ℕ) (q : ℕ) (r : List ℕ)
    → ((a : ℕ) → a ≢ q → (par' a ≡ par a) × (dis' a ≡ dis a)) → occurrences q r ≡ 0 → Nested par dis r → Nested par' dis' r
nested_but par par' dis dis' q r f z n =
    nested_frame par par' dis dis' r (λ a h. f a (λ e. absurd (omega (arith, ap (λ (x : ℕ). occurrences x r) e)))) n

-- ---- one row is replaced

module _ {par : ℕ → ℕ} {dis : ℕ → List ℕ} {cnt : ℕ → ℕ} {rows : List (List ℕ)} (v : Nesting par dis cnt rows) (t : ℕ) (ht : t < 16) where
  pub nesting_set : (par' : ℕ → ℕ) (dis' : ℕ → List ℕ) (cnt' : ℕ → ℕ) (r : List ℕ)
      → ((a : ℕ) → 2 ≤ a → a < 64 → cnt' a + occurrences a (get_or rows t []) ≡ cnt a + occurrences a r)
      → ((u : ℕ) → u < 16 → u ≢ t → Nested par' dis' (get_or rows u []))
      → Nested par' dis' r
      → Nesting par' dis' cnt' (set rows t r)
  nesting_set par' dis' cnt' r c f n = record {
    size = length-set rows t r ∙ v.size;
    counts = λ a h k. omega (arith, c a h k, v.counts a h k, total_set a rows t r (omega (arith, v.size)));
    nested = λ u h. cases (eqb u t)
        (λ e. rw (eqb-true u t e, get_or-set_same rows t r [] (omega (arith, v.size))) n)
        (λ e. rw (get_or-set_other rows t u r [] (eqb-false u t e)) (f u h (eqb-false u t e)));
  }

  -- heap or immortal is entered
  pub enter_low : (q : ℕ) → q < 2 → Nesting par dis cnt (set rows t (q ∷ get_or rows t []))
  enter_low q h =
      nesting_set par dis cnt (q ∷ get_or rows t [])
      (λ a k m. rw (occ_other a q (get_or rows t []) (λ e. omega arith)))
      (λ u k m. v.nested u k)
      (λ k. absurd (omega arith), v.nested t ht)

  -- scope q has a count that is one higher, and every other area the count it had
  abbrev OneMore : ℕ → (ℕ → ℕ) → Type 0
  OneMore q cnt' = (cnt' q ≡ suc (cnt q)) × ((a : ℕ) → a ≢ q → cnt' a ≡ cnt a)

  counted : (q : ℕ) (cnt' : ℕ → ℕ) → OneMore q cnt'
      → (a : ℕ) → 2 ≤ a → a < 64 → cnt' a + occurrences a (get_or rows t []) ≡ cnt a + occurrences a (q ∷ get_or rows t [])
  counted q cnt' m a h k = cases (eqb a q)
      (λ e. rw (eqb-true a q e) (omega (arith, occ_same q (get_or rows t []), m.0)))
      (λ e. omega (arith, occ_other a q (get_or rows t []) (λ d. eqb-false a q e (sym d)), m.1 a (eqb-false a q e)))

  -- an open scope is entered, whose parent is the innermost scope
  pub enter_open : (q : ℕ) (par' : ℕ → ℕ) (dis' : ℕ → List ℕ) (cnt' : ℕ → ℕ) → 2 ≤ q → q < 64 → 0 < cnt q
      → par q ≡ first_item (branch_of (get_or rows t [])) → OneMore q cnt'
      → ((a : ℕ) → (par' a ≡ par a) × (dis' a ≡ dis a)) → Nesting par' dis' cnt' (set rows t (q ∷ get_or rows t []))
  enter_open q par' dis' cnt' h k o p m f =
      nesting_set par' dis' cnt' (q ∷ row)
      (counted q cnt' m)
      (λ u hu ne. nested_frame par par' dis dis' (get_or rows u []) (λ a x. f a) (v.nested u hu))
      (nested_frame par par' dis dis' (q ∷ row) (λ a x. f a) (λ x. rw same at there.chain.0, v.nested t ht))
    where
      row : List ℕ
      row = get_or rows t []

      there : StandsOn par dis rows q
      there = stands_on v q h (omega (arith, v.counts q h k))

      same : there.branch ≡ branch_of row
      same = chain_same par dis there.branch (branch_of row) there.chain.1 (chain_of par dis row (v.nested t ht)) (sym there.chain.0.parent_is ∙ p)

  -- a scope that is not open is entered
  pub enter_fresh : (q : ℕ) (par' : ℕ → ℕ) (dis' : ℕ → List ℕ) (cnt' : ℕ → ℕ) → 2 ≤ q → q < 64 → cnt q ≡ 0
      → par' q ≡ first_item (branch_of (get_or rows t [])) → dis' q ≡ q ∷ branch_of (get_or rows t []) → OneMore q cnt'
      → ((a : ℕ) → a ≢ q → (par' a ≡ par a) × (dis' a ≡ dis a)) → Nesting par' dis' cnt' (set rows t (q ∷ get_or rows t []))
  enter_fresh q par' dis' cnt' h k z p d m f =
      nesting_set par' dis' cnt' (q ∷ get_or rows t [])
      (counted q cnt' m)
      (λ u hu ne. other u hu)
      (λ x. record { scope = h; area = k; parent_is = p; display_is = d }, other t ht)
    where
      other : (u : ℕ) → u < 16 → Nested par' dis' (get_or rows u [])
      other u hu = nested_but par par' dis dis' q (get_or rows u []) f (omega (arith, occ_le_total q rows u, v.counts q h k)) (v.nested u hu)

  module _ (q : ℕ) (r : List ℕ) (is : get_or rows t [] ≡ q ∷ r) where
    rest : Nested par dis (q ∷ r)
    rest = rw is at (v.nested t ht)

    -- heap or immortal is left
    pub exit_low : q < 2 → Nesting par dis cnt (set rows t r)
    exit_low h =
        nesting_set par dis cnt r
        (λ a k m. rw (is, occ_other a q r (λ e. omega arith)))
        (λ u k m. v.nested u k)
        rest.1

    abbrev OneLess : (ℕ → ℕ) → Type 0
    OneLess cnt' = (suc (cnt' q) ≡ cnt q) × ((a : ℕ) → a ≢ q → cnt' a ≡ cnt a)

    -- a scope is left: where its count is 0 then, its parent may change
    pub exit_scope : (par' : ℕ → ℕ) (dis' : ℕ → List ℕ) (cnt' : ℕ → ℕ) → 2 ≤ q → OneLess cnt'
        → ((a : ℕ) → a ≢ q → (par' a ≡ par a) × (dis' a ≡ dis a)) → (0 < cnt' q → (par' q ≡ par q) × (dis' q ≡ dis q))
        → Nesting par' dis' cnt' (set rows t r)
    exit_scope par' dis' cnt' h m f g =
        nesting_set par' dis' cnt' r
        (λ a k l. cases (eqb a q)
        (λ e. rw (eqb-true a q e, is) (omega (arith, occ_same q r, m.0)))
        (λ e. rw is (omega (arith, occ_other a q r (λ d. eqb-false a q e (sym d)), m.1 a (eqb-false a q e)))))
        (λ u hu ne. stays (get_or rows u []) (gone u ne) (v.nested u hu))
        (stays r (λ z. omega (arith, left z)) rest.1)
      where
        -- where the count is 0 the scope is on no row that is left
        left : cnt' q ≡ 0 → total q (set rows t r) + occurrences q r ≡ 0
        left z = omega (
          arith,
          m.0,
          v.counts q h (rest.0 h).area,
          occ_same q r,
          ap (occurrences q) is,
          total_set q rows t r (omega (arith, v.size)),
          occ_le_total q (set rows t r) t,
          ap (occurrences q) (get_or-set_same rows t r [] (omega (arith, v.size))),
        )

        gone : (u : ℕ) → u ≢ t → cnt' q ≡ 0 → occurrences q (get_or rows u []) ≡ 0
        gone u ne z = omega (arith, occ_le_total q (set rows t r) u, ap (occurrences q) (get_or-set_other rows t u r [] ne), left z)

        stays : (l : List ℕ) → (cnt' q ≡ 0 → occurrences q l ≡ 0) → Nested par dis l → Nested par' dis' l
        stays l z n = cases (ltb 0 (cnt' q))
            (λ e. nested_frame par par' dis dis' l (λ a x. cases (eqb a q) (λ y. rw (eqb-true a q y) (g (ltb-true 0 (cnt' q) e))) (λ y. f a (eqb-false a q y))) n)
            (λ e. nested_but par par' dis dis' q l f (z (omega (arith, ltb-false 0 (cnt' q) e))) n)

-- the scopes that an open scope's display has are open
pub display_open : {par : ℕ → ℕ} {dis : ℕ → List ℕ} {cnt : ℕ → ℕ} {rows : List (List ℕ)} (v : Nesting par dis cnt rows) (a c : ℕ)
    → 2 ≤ a → a < 64 → 0 < cnt a → 2 ≤ c → c < 64 → 0 < occurrences c (dis a) → 0 < cnt c
display_open {par} {dis} {cnt} {rows} v a c h k o hc kc p =
    let z : StandsOn par dis rows a = stands_on v a h (omega (arith, v.counts a h k)) in
    omega (arith, v.counts c hc kc, occ_le_total c rows z.thread, order_occ {l = a ∷ z.branch} c z.order, ap (occurrences c) z.chain.0.display_is)
