-- `only_binary` meets its contract: the fold looks at every digit.
use Rattle.std.proofs.Common.{arith, ◌≡◌, ◌&&◌, Bool, true, ℕ, ◌∙◌}
use Rattle.std.proofs.lemmas.Grind.{common_steps}
use Rattle.std.specs.List.{fold}
use Rattle.rights.specs.Rights.{is_binary}
use Rattle.loading.specs.Load.{binary_folded}
use Rattle.loading.proofs.only_binary.Goals as goal

pub returns : goal.returns
unfolding is_binary
returns c =
    let text = c.args.text.now in
    let e : c.fold.result ≡ fold (λ (all : Bool) (d : ℕ). all && is_binary d) true text = grind (arith, common_steps) in
    e ∙ binary_folded text c.requires
