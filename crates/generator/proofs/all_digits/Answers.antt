-- `all_digits` meets its contract: the closure tells of each class whether its digit is one.
use Rattle.std.proofs.Common.{rules, ◌≡◌, refl, ℕ, Bool, true, false}
use Rattle.std.proofs.lemmas.Iterator.{cases_from_all, YieldsList-from_range}
use lib.ListN.{get_or}
use Rattle.hexadecimal.specs.Digit.{is_digit}
use Rattle.generator.specs.Generator.{class_count, digit_place, all_digits}
use Rattle.generator.proofs.Laws.{told_all}
use Rattle.generator.proofs.all_digits.Goals as goal

pub returns : goal.returns
unfolding all_digits
returns c =
    let f : ℕ → Bool = λ g. is_digit (get_or c.args.input.now (digit_place g) 0) in
    told_all f class_count _
    (cases_from_all _ _ c.all.result (λ g. f g ≡ true) (λ g. f g ≡ false) c.all.ensures.ran
    (YieldsList-from_range 0 class_count class_count refl refl) (λ x q k. search rules) (λ x q k. search rules))
