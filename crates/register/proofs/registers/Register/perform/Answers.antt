use Rattle.std.proofs.Common.{rules}
use Rattle.register.proofs.registers.Register.perform.Goals as goal

pub returns-in-Join : goal.returns-in-Join
returns-in-Join g c = let h = c.join.ensures c.args.rows.now c.args.terms.now in search rules

pub returns-in-Strike : goal.returns-in-Strike
returns-in-Strike g c = let h = c.strike.ensures c.args.rows.now c.args.terms.now in search rules

pub returns-in-Read : goal.returns-in-Read
returns-in-Read g c = let h = c.read.ensures c.args.rows.now c.args.terms.now in search rules
