-- Laws of answers: digits written from the lowest on, and runs written one after the other.
-- Assumes nothing.
use Rattle.std.specs.Prelude.{◌≡◌, refl, List, [], ◌∷◌, ◌++◌, ℕ, zero, suc, ◌+◌, ◌-◌, ◌*◌, ◌/◌, ◌%◌, ◌^◌, ◌≤◌, ◌<◌, ◌≢◌, length, get_or, set, take, drop}
use Rattle.std.proofs.Common.{ap, ◌∙◌, add-zero, pow-suc, arith, below_more, length-append, append_assoc, length-take, length-drop, get_or-set_same, get_or-set_other}
use Rattle.std.proofs.lemmas.List.{drop-drop}
use Rattle.std.proofs.lemmas.List.Edits.{sets, sets-eq}
use Rattle.std.proofs.lemmas.Nat.{pow-add}
use Rattle.lines.specs.Answers.{digit_of, digits_of, answer_of}

-- ---- runs of stores

-- a run after a run
pub sets_sets : (s l : List ℕ) (i : ℕ) (t : List ℕ) → sets (sets l i s) (i + length s) t ≡ sets l i (s ++ t)
sets_sets [] l i t = rw (add-zero i) refl
sets_sets (a ∷ s) l i t =
    let e : i + suc (length s) ≡ suc i + length s = omega arith in
    rw e (sets_sets s (set l i a) (suc i) t)

-- ---- digits

length_digits : (v n : ℕ) → length (digits_of v n) ≡ n
unfolding digits_of
length_digits v zero = refl
length_digits v (suc n) = ap suc (length_digits v n)

pub length_answer : (status value : ℕ) → length (answer_of status value) ≡ 19
unfolding answer_of
length_answer s v =
    length-append (digits_of s 2) _ ∙ ap (λ (n : ℕ). length (digits_of s 2) + n) (length-append (digits_of v 16) (10 ∷ []))
    ∙ rw (length_digits s 2, length_digits v 16) refl

-- the digit of v at place k of n, the highest first
abbrev pub digit_at : ℕ → ℕ → ℕ → ℕ
digit_at v n k = digit_of (v / 16 ^ (n - (k + 1)) % 16)

-- the first i of n digits of v are written
abbrev pub Written : List ℕ → ℕ → ℕ → ℕ → Type 0
Written l v n i = (k : ℕ) → k < i → get_or l k 0 ≡ digit_at v n k

four_bits : (k : ℕ) → 2 ^ (4 * k) ≡ 16 ^ k
four_bits zero = refl
four_bits (suc k) =
    let e : 4 * suc k ≡ 4 + 4 * k = omega arith in
    rw (e, pow-add 2 4 (4 * k), four_bits k, pow-suc 16 k) (omega arith)

-- one digit more
pub written_more : (l : List ℕ) (v n i shift : ℕ) → i < length l → shift + 4 * i ≡ 4 * n → Written l v n i
    → Written (set l i (digit_of (v / 2 ^ (shift - 4) % 16))) v n (i + 1)
written_more l v n i shift h e w =
    let p : shift - 4 ≡ 4 * (n - (i + 1)) = omega arith in
    below_more _ _
    (λ k g. let ne : k ≢ i = omega arith in rw get_or-set_other (w k g))
    (rw (get_or-set_same, p, four_bits (n - (i + 1))) refl)

-- all digits
pub written_all : (l : List ℕ) (v n : ℕ) → length l ≡ n → Written l v n n → l ≡ digits_of v n
unfolding digits_of
written_all [] v zero e w = refl
written_all [] v (suc n) e w = absurd (omega arith)
written_all (b ∷ l) v zero e w = absurd (omega arith)
written_all (b ∷ l) v (suc n) e w =
    let first : suc n - (0 + 1) ≡ n = omega arith in
    let head : b ≡ digit_of (v / 16 ^ n % 16) = rw first at (w 0 (omega arith)) in
    rw (head, written_all l v n (omega arith) (λ k g. let m : suc n - (suc k + 1) ≡ n - (k + 1) = omega arith in rw m at (w (suc k) (omega arith)))) refl

-- the digits in a part are a run of stores
pub part_written : (l part : List ℕ) (at k v n : ℕ) → k ≡ n → at + n ≤ length l → part ≡ digits_of v (length (take k (drop at l)))
    → take at l ++ (part ++ drop k (drop at l)) ≡ sets l at (digits_of v n)
part_written l part at k v n e h d =
    let m : length (take k (drop at l)) ≡ n = omega (arith, length-take k (drop at l), length-drop at l) in
    let p : part ≡ digits_of v n = d ∙ ap (digits_of v) m in
    let s : k ≡ length (digits_of v n) = omega (arith, length_digits v n) in
    rw (p, s, sets-eq (digits_of v n) l at (omega arith), append_assoc, drop-drop) refl

-- ---- an answer

pub answer_written : (l : List ℕ) (at s v : ℕ)
    → set (sets (sets l at (digits_of s 2)) (at + 2) (digits_of v 16)) (at + 18) 10 ≡ sets l at (answer_of s v)
unfolding answer_of
answer_written l at s v =
    let e : at + 18 ≡ (at + 2) + length (digits_of v 16) = omega (arith, length_digits v 16) in
    let f : at + 2 ≡ at + length (digits_of s 2) = omega (arith, length_digits s 2) in
    ap (λ (i : ℕ). sets (sets (sets l at (digits_of s 2)) (at + 2) (digits_of v 16)) i (10 ∷ [])) e
    ∙ sets_sets (digits_of v 16) (sets l at (digits_of s 2)) (at + 2) (10 ∷ [])
    ∙ ap (λ (i : ℕ). sets (sets l at (digits_of s 2)) i (digits_of v 16 ++ (10 ∷ []))) f
    ∙ sets_sets (digits_of s 2) l at (digits_of v 16 ++ (10 ∷ []))
