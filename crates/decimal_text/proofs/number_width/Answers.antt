use Rattle.decimal_text.proofs.Laws.Decimal.{width_is, width_none}
use Rattle.decimal_text.proofs.number_width.Goals as goal

-- `number_width` meets its contract.
pub returns-in-Some : goal.returns-in-Some
returns-in-Some c =
    let h = c.in-Some.ensures in width_is _ _ h.bound h.power_le h.next_power_gt

pub returns-in-None : goal.returns-in-None
returns-in-None c = width_none _ c.in-None.ensures.none
