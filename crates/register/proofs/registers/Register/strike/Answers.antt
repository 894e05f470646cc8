use Rattle.std.proofs.Common.{sym, ◌∙◌}
use Rattle.register.specs.Answers.{strike_refused}
use Rattle.register.proofs.Tests.{refused_why, handed_on}
use Rattle.register.proofs.Calls.{struck_by}
use Rattle.register.proofs.registers.Register.strike.Goals as goal

pub returns-in_err-entry : goal.returns-in_err-entry
returns-in_err-entry g c E T =
    rw (handed_on _ _ c.from_residual.ensures.1) (strike_refused (refused_why _ _ _ (sym c.entry.ensures ∙ c.in_err-entry.was)))

pub returns : goal.returns
returns g c E T =
    struck_by (sym c.entry.ensures ∙ c.in_ok-entry.was)
    c.mark.ensures
