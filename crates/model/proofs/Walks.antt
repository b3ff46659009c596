-- Walks of the parents, scans of a row and displays: under a nesting they say the same.
-- Assumes nothing.
use Prim.Native.Nat.{ℕ, zero, suc, ◌≤◌, ◌<◌}
use mathlib.Core.Bool.{false}
use mathlib.Core.List.{List, [], ◌∷◌}
use mathlib.Core.Path.{◌≡◌, refl, sym, ap, ◌∙◌, subst}
use mathlib.Core.Logic.{◌≢◌}
use lib.ListN.{length, get_or}
use lib.Dec.{ltb, eqb}
use native.Mathlib.Omega.{arith}
use borrow.Author.Tests.{eqb-true, eqb-false, lt-ltb}
use Rattle.layout.specs.Choice.{cases}
use Rattle.layout.specs.Stack.{down}
use Rattle.layout.specs.StackLaws.{length_down}
use Rattle.model.specs.History.{occurrences}
use Rattle.model.specs.Claims.{Walk, ends, goes, Meets, here, up, on_row, scan}
use Rattle.model.specs.Invariant.{branch_of, first_item, Nested}
use Rattle.model.proofs.Lists.{occ_same, occ_other, occ_more, scopes_high, occ_scopes}
use Rattle.model.proofs.Nesting.{Chain, chain_of}

on_row_occ : (a : ℕ) (l : List ℕ) → on_row a l ≡ ltb 0 (occurrences a l)
unfolding on_row
on_row_occ a [] = unfold occurrences in refl
on_row_occ a (x ∷ l) =
    cases
    (eqb x a)
    (λ e. rw (e, eqb-true x a e, occ_same a l) (sym (lt-ltb 0 (suc (occurrences a l)) (omega arith))))
    (λ e. rw (e, occ_other a x l (eqb-false x a e)) (on_row_occ a l))

module _ (par : ℕ → ℕ) (dis : ℕ → List ℕ) where
  -- the walk from the first scope of a branch is the branch
  pub walk_is : (l : List ℕ) → Chain par dis l → Walk par (first_item l) l
  walk_is [] n = ends
  walk_is (x ∷ l) n = goes n.0.scope (subst (λ c. Walk par c l) (sym n.0.parent_is) (walk_is l n.1))

  module _ (a : ℕ) (h : 2 ≤ a) where
    pub meets_occ : (l : List ℕ) → Chain par dis l → (c : ℕ) → c ≡ first_item l → Meets par a c → 0 < occurrences a l
    meets_occ [] n c e here = absurd (omega arith)
    meets_occ [] n c e (up k m) = absurd (omega arith)
    meets_occ (x ∷ l) n c e here = rw (← e) (omega (arith, occ_same a l))
    meets_occ (x ∷ l) n c e (up k m) = occ_more a x l (meets_occ l n.1 (par c) (ap par e ∙ n.0.parent_is) m)

    pub occ_meets : (l : List ℕ) → Chain par dis l → 0 < occurrences a l → Meets par a (first_item l)
    unfolding occurrences
    occ_meets [] n p = absurd (omega arith)
    occ_meets (x ∷ l) n p =
        cases
        (eqb x a)
        (λ e. rw (eqb-true x a e) here)
        (λ e. up n.0.scope (subst (Meets par a) (sym n.0.parent_is) (occ_meets l n.1 (rw (occ_other a x l (eqb-false x a e)) at p))))

    found : (x c : ℕ) (r : List ℕ) → 2 ≤ c → x ≡ c → on_row a (x ∷ r) ≡ ltb 0 (occurrences a (c ∷ branch_of r))
    found x c r hc e = rw (e, ← scopes_high c r hc, occ_scopes a h (c ∷ r)) (on_row_occ a (c ∷ r))

    -- the scan from c on: what it finds below c is on the branch from c on
    pub scan_is : (c : ℕ) → 2 ≤ c → (r : List ℕ) → Nested par dis r → 0 < occurrences c r
        → (k : List ℕ) × Chain par dis (c ∷ k) × (scan a c r ≡ ltb 0 (occurrences a (c ∷ k)))
    unfolding occurrences scan
    scan_is c hc [] n p = absurd (omega arith)
    scan_is c hc (x ∷ r) n p =
        cases
        (eqb x c)
        (λ e. (branch_of r, ((rw (eqb-true x c e) at n.0) hc, chain_of par dis r n.1), rw e (found x c r hc (eqb-true x c e))))
        (λ e. rw e (scan_is c hc r n.1 (rw (occ_other c x r (eqb-false x c e)) at p)))

    -- where the display of a branch has a
    pub down_at : (l : List ℕ) (m : ℕ) → Chain par dis (down l m) → 0 < occurrences a (down l m)
        → (j : List ℕ) × Chain par dis (a ∷ j) × (get_or l (length j) 0 ≡ a) × (length j < m)
    unfolding down occurrences
    down_at l zero n p = absurd (omega arith)
    down_at l (suc m) n p =
        cases
        (eqb (get_or l m 0) a)
        (λ e. (down l m, rw (eqb-true (get_or l m 0) a e) at n, rw (length_down l m) (eqb-true (get_or l m 0) a e), omega (arith, length_down l m)))
        (λ e. let z : (j : List ℕ) × Chain par dis (a ∷ j) × (get_or l (length j) 0 ≡ a) × (length j < m)
        = down_at l m n.1 (rw (occ_other a (get_or l m 0) (down l m) (eqb-false (get_or l m 0) a e)) at p)
        in (z.0, z.1, z.2, omega (arith, z.3)))

    pub occ_down : (l : List ℕ) (m k : ℕ) → k < m → get_or l k 0 ≡ a → 0 < occurrences a (down l m)
    unfolding down
    occ_down l zero k p e = absurd (omega arith)
    occ_down l (suc m) k p e =
        cases
        (eqb (get_or l m 0) a)
        (λ d. rw (eqb-true (get_or l m 0) a d) (omega (arith, occ_same a (down l m))))
        (λ d. rw (occ_other a (get_or l m 0) (down l m) (eqb-false (get_or l m 0) a d)) (occ_down l m k (omega (arith, apart d)) e))
      where
        apart : eqb (get_or l m 0) a ≡ false → k ≢ m
        apart d q = eqb-false (get_or l m 0) a d (ap (λ (n : ℕ). get_or l n 0) (sym q) ∙ e)
