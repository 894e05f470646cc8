use Rattle.std.proofs.Common.{sym, ◌∙◌}
use Rattle.register.specs.Answers.{read_refused}
use Rattle.register.proofs.Tests.{refused_why, handed_on}
use Rattle.register.proofs.Calls.{shown_by}
use Rattle.register.proofs.registers.Register.read.Goals as goal

pub returns-in_err-node : goal.returns-in_err-node
returns-in_err-node g c E T =
    rw (handed_on _ _ c.from_residual.ensures.1) (read_refused (refused_why _ _ _ (sym c.entry.ensures ∙ c.in_err-node.was)))

pub returns : goal.returns
returns g c E T =
    shown_by (sym c.entry.ensures ∙ c.in_ok-node.was)
