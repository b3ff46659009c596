-- Laws of occurrences on rows, of the scopes of a row, and of stores in lists of records.
-- Assumes nothing.
use Prim.Native.Nat.{ℕ, zero, suc, ◌+◌, ◌≤◌, ◌<◌}
use mathlib.Core.List.{List, [], ◌∷◌, ◌++◌, map}
use mathlib.Core.Path.{◌≡◌, refl, ◌∙◌}
use mathlib.Core.Logic.{◌≢◌}
use lib.ListN.{length, get_or, set, replicate, length-set, length-replicate, get_or-replicate}
use lib.Dec.{ltb, leb, eqb}
use native.Mathlib.Omega.{arith}
use native.Mathlib.Nat.{le_of_suc-le-suc, not-suc-le-zero}
use lib.Seq.{get_or-set_same, get_or-set_other}
use borrow.Author.Tests.{ltb-true, ltb-false, leb-true, leb-false, eqb-true, eqb-false, eq-eqb, ne_eqb, le-leb, lt-leb}
use Rattle.layout.specs.Choice.{cases}
use Rattle.model.specs.State.{innermost}
use Rattle.model.specs.History.{occurrences, total}
use Rattle.model.specs.Claims.{InOrder, none, keep, skip}
use Rattle.model.specs.Invariant.{scopes_of, branch_of, first_item, Each}

-- the innermost scope is the first of a row's branch
pub innermost_is : (l : List ℕ) → innermost l ≡ first_item (branch_of l)
unfolding innermost scopes_of
innermost_is [] = refl
innermost_is (x ∷ l) = cases (leb 2 x) (λ e. rw e) (λ e. rw e (innermost_is l))

-- ---- occurrences, total

pub total_set : (a : ℕ) (rs : List (List ℕ)) (i : ℕ) (r : List ℕ) → i < length rs → total a (set rs i r) + occurrences a (get_or rs i []) ≡ total a rs + occurrences a r
unfolding total
total_set a [] i r h = absurd (not-suc-le-zero h)
total_set a (x ∷ rs) zero r h = omega arith
total_set a (x ∷ rs) (suc i) r h = omega (arith, total_set a rs i r (le_of_suc-le-suc h))

pub occ_le_total : (a : ℕ) (rs : List (List ℕ)) (i : ℕ) → occurrences a (get_or rs i []) ≤ total a rs
unfolding total occurrences
occ_le_total a [] i = omega arith
occ_le_total a (x ∷ rs) zero = omega arith
occ_le_total a (x ∷ rs) (suc i) = omega (arith, occ_le_total a rs i)

-- what stands on all rows together stands on one
pub on_one : (a : ℕ) (rs : List (List ℕ)) → 0 < total a rs → (t : ℕ) × (t < length rs) × (0 < occurrences a (get_or rs t []))
unfolding total
on_one a [] h = absurd (omega arith)
on_one a (r ∷ rs) h =
    cases
    (ltb 0 (occurrences a r))
    (λ e. (0, omega arith, ltb-true 0 (occurrences a r) e))
    (λ e. let k : (t : ℕ) × (t < length rs) × (0 < occurrences a (get_or rs t [])) = on_one a rs (omega (arith, ltb-false 0 (occurrences a r) e)) in (suc k.0, omega arith, k.2))

pub occ_same : (a : ℕ) (l : List ℕ) → occurrences a (a ∷ l) ≡ suc (occurrences a l)
unfolding occurrences
occ_same a l = rw (eq-eqb a a refl) (omega arith)

pub occ_other : (a x : ℕ) (l : List ℕ) → x ≢ a → occurrences a (x ∷ l) ≡ occurrences a l
unfolding occurrences
occ_other a x l h = rw (ne_eqb x a h) (omega arith)

pub occ_more : (a x : ℕ) (l : List ℕ) → 0 < occurrences a l → 0 < occurrences a (x ∷ l)
unfolding occurrences
occ_more a x l h = omega arith

pub occ_nil : (a : ℕ) → occurrences a [] ≡ 0
unfolding occurrences
occ_nil a = refl

pub occ_append : (a : ℕ) (k l : List ℕ) → occurrences a (k ++ l) ≡ occurrences a k + occurrences a l
unfolding occurrences
occ_append a [] l = omega arith
occ_append a (x ∷ k) l = omega (arith, occ_append a k l)

-- the scopes of a row: what is no scope is passed over
pub scopes_low : (x : ℕ) (l : List ℕ) → x < 2 → scopes_of (x ∷ l) ≡ scopes_of l
unfolding scopes_of
scopes_low x l h = rw (lt-leb 2 x h)

pub scopes_high : (x : ℕ) (l : List ℕ) → 2 ≤ x → scopes_of (x ∷ l) ≡ x ∷ scopes_of l
unfolding scopes_of
scopes_high x l h = rw (le-leb 2 x h)

pub occ_scopes : (a : ℕ) → 2 ≤ a → (l : List ℕ) → occurrences a (scopes_of l) ≡ occurrences a l
unfolding scopes_of
occ_scopes a h [] = refl
occ_scopes a h (x ∷ l) =
    cases
    (leb 2 x)
    (λ e. cases (eqb x a)
    (λ d. rw (scopes_high x l (leb-true 2 x e), eqb-true x a d, occ_same a (scopes_of l), occ_same a l, occ_scopes a h l))
    (λ d. rw (scopes_high x l (leb-true 2 x e), occ_other a x (scopes_of l) (eqb-false x a d), occ_other a x l (eqb-false x a d), occ_scopes a h l)))
    (λ e. rw (scopes_low x l (leb-false 2 x e), occ_other a x l (λ d. omega (arith, leb-false 2 x e)), occ_scopes a h l))

-- ---- parts of a row, in its order

pub scopes_order : (r : List ℕ) → InOrder (scopes_of r) r
unfolding scopes_of
scopes_order [] = none
scopes_order (x ∷ r) = cases (leb 2 x) (λ e. rw e (keep (scopes_order r))) (λ e. rw e (skip (scopes_order r)))

pub order_length : {l r : List ℕ} → InOrder l r → length l ≤ length r
order_length none = omega arith
order_length (keep o) = omega (arith, order_length o)
order_length (skip o) = omega (arith, order_length o)

pub order_occ : {l r : List ℕ} (c : ℕ) → InOrder l r → occurrences c l ≤ occurrences c r
unfolding occurrences
order_occ c none = omega arith
order_occ c (keep o) = omega (arith, order_occ c o)
order_occ c (skip o) = omega (arith, order_occ c o)

-- ---- stores in lists

pub map_set {ℓ κ} : {A : Type ℓ} {B : Type κ} (f : A → B) (l : List A) (i : ℕ) (x : A) → map f (set l i x) ≡ set (map f l) i (f x)
map_set f [] i x = refl
map_set f (y ∷ l) zero x = refl
map_set f (y ∷ l) (suc i) x = rw (map_set f l i x)

pub each_set {ℓ κ} : {A : Type ℓ} (P : A → Type κ) (d : A) (n : ℕ) (l : List A) (i : ℕ) (x : A) → Each P d n l → P x → Each P d n (set l i x)
each_set P d n l i x e p = record {
  size = length-set l i x ∙ e.size;
  each = λ j h. cases (eqb j i)
      (λ q. rw (eqb-true j i q, get_or-set_same l i x d (omega (arith, e.size, eqb-true j i q))) p)
      (λ q. rw (get_or-set_other l i j x d (eqb-false j i q)) (e.each j h));
}

pub each_replicate {ℓ κ} : {A : Type ℓ} (P : A → Type κ) (d : A) (n : ℕ) (x : A) → P x → Each P d n (replicate n x)
each_replicate P d n x p = record { size = length-replicate n x; each = λ i h. rw (get_or-replicate n i x d h) p }
