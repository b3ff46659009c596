-- `put_class` meets its contract: the four digits are stored in their order.
use Prim.Native.Nat.{◌*◌}
use Rattle.generator.proofs.Laws.{class_put}
use Rattle.generator.proofs.put_class.Goals as goal

pub returns : goal.returns
returns c =
    let a = c.args in
    class_put a.table.now (a.g * 4) a.value c.text_digit.ensures c.text_digit-2.ensures c.text_digit-3.ensures c.text_digit-4.ensures
