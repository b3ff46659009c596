-- Laws of the line so far: every 40 bytes with every length stand for some line, it begins empty, and takes bytes more.
-- Assumes nothing.
use Rattle.std.specs.Prelude.{◌≡◌, refl, List, [], ◌∷◌, ◌++◌, ℕ, zero, suc, ◌+◌, ◌-◌, ◌≤◌, ◌<◌, min, length, take, drop}
use Rattle.std.proofs.Common.{sym, ap, ◌∙◌, arith, length-append, append_assoc, length-take, length-drop, take_all}
use Rattle.std.proofs.lemmas.List.{take-append-le}
use Rattle.std.proofs.Math.Seq.{take-append_seam, take-append-add}
use Rattle.lines.specs.declared.line.Line.{Line}
use Rattle.lines.specs.Lines.{Buffered, emptied}

-- an empty line, whatever the text is
pub buffered_none : (line : Line) → length line.text ≡ 40 → Buffered (emptied line) []
buffered_none line h = record { sized = h; count = refl; bytes = refl }

-- whatever the text and the length are, they stand for a line: so a promise about the lines that they stand for leaves none out
pub buffered_short : (line : Line) → length line.text ≡ 40 → line.len ≤ 40 → Buffered line (take line.len line.text)
buffered_short line h k =
    let m : min line.len 40 ≡ line.len = omega arith in
    let n : length (take line.len line.text) ≡ line.len = length-take line.len line.text ∙ omega (arith, h) in
    record {
      sized = h;
      count = omega (arith, n);
      bytes = ap (λ (i : ℕ). take i line.text) m ∙ sym (take_all 40 (take line.len line.text) (omega (arith, n)));
    }

pub buffered_long : (line : Line) (b : ℕ) → length line.text ≡ 40 → 40 < line.len → Buffered line (line.text ++ (b ∷ []))
buffered_long line b h k =
    let m : min line.len 40 ≡ 40 = omega arith in
    record {
      sized = h;
      count = omega (arith, h, length-append line.text (b ∷ []));
      bytes = ap (λ (i : ℕ). take i line.text) m ∙ sym (take-append-le 40 line.text (b ∷ []) (omega (arith, h)));
    }

-- no more of a list is taken than it has
take_min : (n : ℕ) (l : List ℕ) → take (min (length l) n) l ≡ take n l
take_min zero l = let e : min (length l) 0 ≡ 0 = omega arith in rw e refl
take_min (suc n) [] = let e : min (length {A = ℕ} []) (suc n) ≡ 0 = omega arith in rw e refl
take_min (suc n) (b ∷ l) =
    let e : min (length (b ∷ l)) (suc n) ≡ suc (min (length l) n) = omega arith in
    rw e (ap (λ (x : List ℕ). b ∷ x) (take_min n l))

module _ (line : Line) (l bs : List ℕ) (h : Buffered line l) where
  longer : length (l ++ bs) ≡ length l + length bs
  longer = length-append l bs

  -- the line is full: the bytes are counted and not kept
  pub buffered_full : 40 ≤ line.len → (n : ℕ) → min n 41 ≡ min (line.len + length bs) 41 → Buffered (record { text = line.text; len = n }) (l ++ bs)
  buffered_full f n e =
      let m : min line.len 40 ≡ min n 40 = omega arith in
      record {
        sized = h.sized;
        count = omega (arith, longer, h.count);
        bytes = ap (λ (n : ℕ). take n line.text) (sym m) ∙ h.bytes ∙ sym (take-append-le 40 l bs (omega (arith, h.count)));
      }

  -- as many of the bytes are kept as there is room for
  pub buffered_more : line.len < 40 → (j k n : ℕ) → j ≡ k → k ≡ min (length bs) (40 - line.len) → min n 41 ≡ min (line.len + length bs) 41
      → Buffered (record { text = take line.len line.text ++ (take k bs ++ drop j (drop line.len line.text)); len = n }) (l ++ bs)
  buffered_more f j k n i e g =
      let s : length l ≡ line.len = omega (arith, h.count) in
      let m : min line.len 40 ≡ line.len = omega arith in
      let same : take line.len line.text ≡ l = ap (λ (i : ℕ). take i line.text) (sym m) ∙ h.bytes ∙ take_all 40 l (omega arith) in
      let q : length (take k bs) ≡ k = omega (arith, length-take k bs) in
      let kept : take 40 (l ++ bs) ≡ l ++ take k bs =
      let t : 40 ≡ length l + (40 - line.len) = omega arith in
      rw (t, take-append-add l bs (40 - line.len), e, take_min (40 - line.len) bs) refl
      in
      let part : min n 40 ≡ length (l ++ take k bs) = omega (arith, length-append l (take k bs)) in
      rw same (record {
        sized = omega (arith, length-append l (take k bs ++ drop j (drop line.len line.text)), length-append (take k bs) (drop j (drop line.len line.text)), length-drop j (drop line.len line.text), length-drop line.len line.text, h.sized);
        count = omega (arith, longer);
        bytes = rw (part, ← append_assoc l (take k bs) (drop j (drop line.len line.text)), take-append_seam (l ++ take k bs) (drop j (drop line.len line.text))) (sym kept);
      })
