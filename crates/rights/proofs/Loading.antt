-- Which tables may be loaded: the test and the meaning say the same; and the constant table is one of them.
-- Assumes nothing.
use Prim.Native.Nat.{ℕ, ◌+◌, ◌-◌, ◌*◌, ◌/◌, ◌%◌, ◌≤◌, ◌<◌, min}
use Rattle.std.proofs.Common.{arith, ◌∙◌}
use Rattle.std.proofs.Math.Bool.{true}
use Rattle.std.specs.Prelude.{List, ◌≡◌, ◌⊎◌, ◌↔◌, length}
use Rattle.std.proofs.Math.Path.{refl, sym, ap}
use Rattle.std.proofs.Math.Logic.{inl, inr, ⊎_elim}
use Rattle.std.proofs.Math.Dec.{eqb}
use Rattle.std.proofs.Math.ListN.{get_or}
use borrow.Author.Tests.{eqb-true, eqb-false, eq-eqb, ne_eqb, le-ltb}
use Rattle.layout.specs.Choice.{cases, and_true, or_true}
use Rattle.layout.specs.Below.{all_below, all_each, each_all}
use Rattle.rights.specs.declared.Right.{Right}
use Rattle.rights.specs.declared.Right.TheVariants.{Allocate, Use}
use Rattle.rights.specs.Rights.{Class, Heap, Immortal, Scope, class_of, class_index, digit0, digit1, table_size, place_of, allows, text_of, rights_rows, built_in}
use Rattle.rights.specs.Rights.{is_binary, only_binary, allocator_uses, allocators_use, is_table, Loadable}

class_below : (c : Class) → class_index c < 3
class_below Heap = omega arith
class_below Immortal = omega arith
class_below Scope = omega arith

-- the place of the class of area n; so n is the place of a class if it is below 3
pub class_place : (n : ℕ) → class_index (class_of n) ≡ min n 2
unfolding class_of
class_place n = cases (eqb n 0)
    (λ e. rw (e, eqb-true n 0 e) refl)
    (λ e. cases (eqb n 1)
    (λ f. rw (e, f, eqb-true n 1 f) refl)
    (λ f. let a : n ≡ 0 → ⊥ = eqb-false n 0 e in let b : n ≡ 1 → ⊥ = eqb-false n 1 f in rw (e, f) (omega arith)))

module _ (table : List ℕ) where
  -- a kind from 1 to 3 has what its digit says
  pub allows_at : (kind : ℕ) (class : Class) → 0 < kind → kind ≤ 3 → (right : Right)
      → allows table kind class right ≡ eqb (get_or table (place_of kind class right) 0) digit1
  unfolding allows
  allows_at kind class h k right = rw (ne_eqb kind 0 (λ e. omega arith), le-ltb 3 kind k) refl

  -- the digit of class g, counted through all kinds, is at the place of its kind and class
  in_group : (kind : ℕ) (class : Class) → 0 < kind → (r : ℕ) → (kind - 1) * 12 + class_index class * 4 + r ≡ ((kind - 1) * 3 + class_index class) * 4 + r
  in_group kind class h r = omega arith

  either : (c : ℕ) → is_binary c ≡ true → (c ≡ digit0) ⊎ (c ≡ digit1)
  unfolding is_binary
  either c e = ⊎_elim (λ x. inl (eqb-true c digit0 x)) (λ x. inr (eqb-true c digit1 x)) (or_true (eqb c digit0) (eqb c digit1) e)

  pub table_loadable : is_table table ≡ true → Loadable table
  unfolding is_table only_binary allocators_use allocator_uses
  table_loadable e =
      let a = and_true (eqb (length table) table_size) _ e in
      let b = and_true (only_binary table) (allocators_use table) a.1 in
      record {
        size = eqb-true (length table) table_size a.0;
        binary = λ i h. either (get_or table i 0) (all_each (λ (j : ℕ). is_binary (get_or table j 0)) table_size b.0 i h);
        allocators = λ kind class h k o. granted kind class h k b.1 o;
      }
    where
      granted : (kind : ℕ) (class : Class) → 0 < kind → kind ≤ 3 → all_below (allocator_uses table) 9 ≡ true → allows table kind class Allocate ≡ true → allows table kind class Use ≡ true
      granted kind class h k b o =
          let g : ℕ = (kind - 1) * 3 + class_index class in
          let u : allocator_uses table g ≡ true = all_each (allocator_uses table) 9 b g (omega (arith, class_below class)) in
          let p : get_or table (g * 4 + 1) 0 ≡ digit1 = eqb-true (get_or table (g * 4 + 1) 0) digit1 (ap (λ (i : ℕ). eqb (get_or table i 0) digit1) (sym (in_group kind class h 1)) ∙ sym (allows_at kind class h k Allocate) ∙ o) in
          ⊎_elim
          (λ z. absurd (omega (arith, p, eqb-true (get_or table (g * 4 + 1) 0) digit0 z)))
          (λ z. allows_at kind class h k Use ∙ ap (λ (i : ℕ). eqb (get_or table i 0) digit1) (in_group kind class h 2) ∙ z)
          (or_true (eqb (get_or table (g * 4 + 1) 0) digit0) (eqb (get_or table (g * 4 + 2) 0) digit1) u)

  pub loadable_table : Loadable table → is_table table ≡ true
  unfolding is_table only_binary allocators_use allocator_uses is_binary
  loadable_table l =
      rw (
        eq-eqb (length table) table_size l.size,
        each_all (λ (i : ℕ). is_binary (get_or table i 0)) table_size (λ i h. binary i (l.binary i h)),
        each_all (allocator_uses table) 9 (λ g h. uses g h),
      ) refl
    where
      binary : (i : ℕ) → (get_or table i 0 ≡ digit0) ⊎ (get_or table i 0 ≡ digit1) → is_binary (get_or table i 0) ≡ true
      binary i (inl e) = rw e refl
      binary i (inr e) = rw e refl

      uses : (g : ℕ) → g < 9 → allocator_uses table g ≡ true
      uses g h =
          let kind : ℕ = g / 3 + 1 in
          let class : Class = class_of (g % 3) in
          let at : (r : ℕ) → (kind - 1) * 12 + class_index class * 4 + r ≡ g * 4 + r = λ r. omega (arith, class_place (g % 3)) in
          ⊎_elim
          (λ z. rw z refl)
          (λ z.
          let a : allows table kind class Allocate ≡ true = allows_at kind class (omega arith) (omega arith) Allocate ∙ ap (λ (i : ℕ). eqb (get_or table i 0) digit1) (at 1) ∙ eq-eqb (get_or table (g * 4 + 1) 0) digit1 z in
          let u : allows table kind class Use ≡ true = l.allocators kind class (omega arith) (omega arith) a in
          let d : eqb (get_or table (g * 4 + 2) 0) digit1 ≡ true = ap (λ (i : ℕ). eqb (get_or table i 0) digit1) (sym (at 2)) ∙ sym (allows_at kind class (omega arith) (omega arith) Use) ∙ u in
          rw (z, d) refl)
          (l.binary (g * 4 + 1) (omega arith))

-- the test and the meaning
pub loadable_is : (table : List ℕ) → (is_table table ≡ true) ↔ Loadable table
loadable_is table = (table_loadable table, loadable_table table)

pub built_in_loadable : Loadable built_in
unfolding built_in text_of rights_rows is_table only_binary is_binary allocators_use allocator_uses all_below
built_in_loadable = table_loadable built_in refl
