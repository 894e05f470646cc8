use Rattle.std.proofs.Common.{sym, ◌∙◌, rules}
use Rattle.register.proofs.Tests.{handed_on}
use Rattle.register.proofs.Calls.{not_joined_first, not_joined_last, joined_by}
use Rattle.register.proofs.registers.Register.join.Goals as goal

pub returns-in_err-left : goal.returns-in_err-left
returns-in_err-left g c E T = rw (handed_on _ _ c.from_residual.ensures.1) (not_joined_first _ (sym c.pair.ensures ∙ c.in_err-left.was))

pub returns-in_err-node : goal.returns-in_err-node
returns-in_err-node g c E T =
    rw (handed_on _ _ c.from_residual-in_err-node.ensures.1)
    (not_joined_last (sym c.pair.ensures ∙ c.in_ok-left.was) c.and.ensures c.in_err-node.was)

pub returns : goal.returns
returns g c E T =
    rw c.push-entry.ensures.number
    (joined_by (sym c.pair.ensures ∙ c.in_ok-left.was) c.and.ensures c.in_ok-node.was c.push-entry.ensures.pushed (search rules) (search rules))
