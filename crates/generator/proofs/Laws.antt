-- Laws of the generator: where a digit stands, what a source has, and how the digits of a table are put class by class.
-- Assumes nothing.
use Prim.Native.Nat.{ℕ, suc, ◌+◌, ◌*◌, ◌/◌, ◌%◌, ◌≤◌, ◌<◌}
use native.Mathlib.Omega.{arith}
use mathlib.Core.Bool.{Bool, true, false, ◌&&◌}
use Rattle.std.proofs.Common.{sym, subst, true≢false}
use Rattle.std.proofs.lemmas.List.FromFn.{length-range_with_len, get_or-range_with_len}
use Rattle.std.specs.Bool.{MatchBool}
use Rattle.std.specs.List.{AllWithin, HoldsAt, range_with_len}
use mathlib.Core.List.{List, [], ◌∷◌, ◌++◌}
use mathlib.Core.Logic.{⊎_elim}
use mathlib.Core.Path.{◌≡◌, refl, ap, ◌∙◌}
use lib.Dec.{eqb}
use lib.ListN.{length, get_or, take, set, replicate, get_or-map}
use lib.Seq.{sets, take-suc, length-take-le}
use borrow.Author.Tests.{eqb-true}
use Rattle.layout.specs.Choice.{cases, and_true, or_true}
use Rattle.layout.specs.Below.{all_below, all_each, each_all}
use Rattle.hexadecimal.specs.Digit.{is_digit, digit_value}
use Rattle.rights.specs.Rights.{digit0, table_size, text_of}
use Rattle.generator.specs.Generator.{class_count, places, digit_place, is_line_feed, is_ended, all_digits, is_source, values_of}

-- the place of a digit by its line and its place there; computed for all nine
pub place_is : (g : ℕ) → g < class_count → g / 3 * 4 + g % 3 ≡ digit_place g
unfolding digit_place places all_below
place_is g h = eqb-true _ _ (all_each (λ (k : ℕ). eqb (k / 3 * 4 + k % 3) (digit_place k)) class_count refl g h)

-- a test of all numbers below n, as `all` over them tells it
pub told_all : (f : ℕ → Bool) (n : ℕ) (b : Bool)
    → MatchBool b (AllWithin (λ i. f i ≡ true) (range_with_len 0 n) 0 (length (range_with_len 0 n)))
    ((k : ℕ) × (k < length (range_with_len 0 n)) × HoldsAt (λ i. f i ≡ false) (range_with_len 0 n) k)
    → b ≡ all_below f n
told_all f n true h =
    sym (each_all f n (λ i l.
    let e : get_or (range_with_len 0 n) i 0 ≡ i = omega (arith, get_or-range_with_len 0 n i 0 l) in
    subst (λ k. f k ≡ true) e (h i 0 (omega arith) (omega (arith, length-range_with_len 0 n, l)))))
told_all f n false h = cases (all_below f n)
    (λ e.
    let l : h.0 < n = omega (arith, length-range_with_len 0 n, h.1) in
    let at : get_or (range_with_len 0 n) h.0 0 ≡ h.0 = omega (arith, get_or-range_with_len 0 n h.0 0 l) in
    absurd (true≢false (sym (all_each f n e h.0 l) ∙ sym (ap f at) ∙ h.2 0)))
    (λ e. sym e)

-- ---- what a source has

pub ended_long : (l : List ℕ) → is_ended l ≡ true → 11 ≤ length l
unfolding is_ended
ended_long l e =
    ⊎_elim
    (λ a. omega (arith, eqb-true (length l) 11 a))
    (λ a. omega (arith, eqb-true (length l) 12 (and_true (eqb (length l) 12) (is_line_feed l 11) a).0))
    (or_true (eqb (length l) 11) (eqb (length l) 12 && is_line_feed l 11) e)

module _ (l : List ℕ) (e : is_source l ≡ true) where
  pub source_long : 11 ≤ length l
  unfolding is_source
  source_long = ended_long l (and_true (is_ended l) _ e).0

  pub source_digit : (g : ℕ) → g < class_count → is_digit (get_or l (digit_place g) 0) ≡ true
  unfolding is_source all_digits
  source_digit g h =
      let a = (and_true (is_ended l) _ e).1 in
      let b = (and_true (is_line_feed l 3) _ a).1 in
      let c = (and_true (is_line_feed l 7) (all_digits l) b).1 in
      all_each (λ (k : ℕ). is_digit (get_or l (digit_place k) 0)) class_count c g h

-- ---- the digits of a table

-- the four digits of a class, by four stores
pub class_put : (l : List ℕ) (i n : ℕ) {e a u r : ℕ}
    → e ≡ digit0 + n / 8 % 2 → a ≡ digit0 + n / 4 % 2 → u ≡ digit0 + n / 2 % 2 → r ≡ digit0 + n % 2
    → set (set (set (set l i e) (i + 1) a) (i + 2) u) (i + 3) r ≡ sets l i (text_of (n ∷ []))
unfolding text_of
class_put l i n p q s t =
    let x : i + 1 ≡ suc i = omega arith in
    let y : i + 2 ≡ suc (suc i) = omega arith in
    let z : i + 3 ≡ suc (suc (suc i)) = omega arith in
    rw (p, q, s, t, x, y, z) refl

-- a class more behind some
text_more : (ns l : List ℕ) (i n : ℕ)
    → sets (sets l i (text_of ns)) (i + length ns * 4) (text_of (n ∷ [])) ≡ sets l i (text_of (ns ++ (n ∷ [])))
unfolding text_of
text_more [] l i n = let z : i + 0 * 4 ≡ i = omega arith in rw z refl
text_more (m ∷ ns) l i n =
    let z : i + suc (length ns) * 4 ≡ suc (suc (suc (suc i))) + length ns * 4 = omega arith in
    rw z (text_more ns _ (suc (suc (suc (suc i)))) n)

-- zeros, with the digits of the first g classes of an input
unfoldable pub filled : List ℕ → ℕ → List ℕ
filled l g = sets (replicate table_size 0) 0 (text_of (take g (values_of l)))

module _ (l : List ℕ) where
  next_value : (g : ℕ) → g < class_count → take (suc g) (values_of l) ≡ take g (values_of l) ++ (digit_value (get_or l (digit_place g) 0) ∷ [])
  unfolding values_of digit_place places
  next_value g h =
      let f : ℕ → ℕ = λ p. digit_value (get_or l p 0) in
      take-suc (values_of l) g (f 0) h ∙ ap (λ (n : ℕ). take g (values_of l) ++ (n ∷ [])) (get_or-map f places g 0)

  pub filled_none : replicate table_size 0 ≡ filled l 0
  unfolding filled text_of
  filled_none = refl

  pub filled_more : (g : ℕ) → g < class_count → sets (filled l g) (g * 4) (text_of (digit_value (get_or l (digit_place g) 0) ∷ [])) ≡ filled l (suc g)
  unfolding filled values_of places
  filled_more g h =
      let z : 0 + length (take g (values_of l)) * 4 ≡ g * 4 = omega (arith, length-take-le g (values_of l) (omega arith)) in
      rw (← z, next_value g h) (text_more (take g (values_of l)) (replicate table_size 0) 0 _)

  pub filled_all : filled l class_count ≡ text_of (values_of l)
  unfolding filled text_of values_of places
  filled_all = refl
