use Rattle.register.specs.Histories.{no_more, one_more}
use Rattle.register.proofs.Promised.{promise_goes_on}
use Rattle.register.proofs.registers.Register.answer.Goals as goal

pub returns-clause-promise : goal.returns-clause-promise
returns-clause-promise g c = promise_goes_on g.met.S.Store.lawful g.met.S.Store.sound (one_more c.perform.ensures no_more)
