-- `all_digits` meets its contract.
use Rattle.std.proofs.Common.{arith, ◌≡◌, ◌&&◌, Bool, true, ℕ, ◌∙◌}
use Rattle.std.proofs.lemmas.Grind.{common_steps}
use Rattle.std.specs.List.{fold}
use Rattle.hexadecimal.specs.Digit.{is_digit}
use Rattle.lines.specs.HexadecimalLaws.{digits_from}
use Rattle.lines.proofs.digit.all_digits.Goals as goal

pub returns : goal.returns
returns c =
    let e : c.fold.result ≡ fold (λ (all : Bool) (b : ℕ). all && is_digit b) true c.args.text.now = grind (arith, common_steps) in
    e ∙ digits_from true c.args.text.now
