-- `load_rights` meets its contract.
use Rattle.std.proofs.Common.{rules, ◌≡◌, refl}
use Rattle.layout.specs.Answer.{answer_of, number_of, number_some, refused}
use Rattle.loading.specs.Load.{not_loaded, load_size, loaded}
use Rattle.loading.proofs.load_rights.Goals as goal

pub returns-in_err-check_load : goal.returns-in_err-check_load
returns-in_err-check_load c =
    let a = c.args in
    let e = c.in_err-check_load in
    let q : answer_of c.from_residual.result ≡ refused (number_of e.field-0.0) = search rules in
    rw q (not_loaded a.words.now a.bytes.now c.requires a.text.now e.ensures (number_some e.field-0.0))

pub put_rights-requires : goal.put_rights-requires
put_rights-requires c =
    let a = c.args in
    load_size a.words.now a.bytes.now c.requires a.text.now c.in_ok-check_load.ensures refl

pub returns : goal.returns
returns c =
    let a = c.args in
    loaded a.words.now a.bytes.now c.requires a.text.now c.in_ok-check_load.ensures refl c.put_rights.ensures
