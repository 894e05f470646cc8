use Rattle.std.proofs.Common.{sym, ◌∙◌, rules}
use Rattle.register.proofs.Tests.{handed_on}
use Rattle.register.proofs.Filing.{not_filed, not_made, no_entry, filed_by}
use Rattle.register.proofs.registers.Register.file.Goals as goal

pub returns-in_err-forecast : goal.returns-in_err-forecast
returns-in_err-forecast g c =
    rw (handed_on _ _ c.from_residual.ensures.1)
    (not_filed (sym c.forecast.ensures ∙ c.in_err-forecast.was))

pub returns-then-is_full : goal.returns-then-is_full
returns-then-is_full g c =
    no_entry _ (sym c.forecast.ensures ∙ c.in_ok-forecast.was)
    (c.is_full.ensures.0 c.if-is_full.true)

pub returns-in_err-node : goal.returns-in_err-node
returns-in_err-node g c =
    rw (handed_on _ _ c.from_residual-in_err-node.ensures.1)
    (not_made c.in_err-node.ensures.made)

pub returns : goal.returns
returns g c =
    rw c.push-entry.ensures.number
    (filed_by c.in_ok-node.ensures.made (search rules)
    c.push-entry.ensures.pushed)
