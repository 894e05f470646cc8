use Rattle.std.proofs.Common.{refl, arith}
use Rattle.std.proofs.lemmas.List.{length-take}
use Rattle.std.proofs.lemmas.Grind.{common_steps}
use Rattle.register.specs.Histories.{no_more}
use Rattle.register.proofs.Replaying.{history_more, history_whole}
use Rattle.register.proofs.Promised.{promise_goes_on}
use Rattle.register.proofs.registers.Register.answer_all.Goals as goal

pub loop-i-init : goal.loop-i-init
loop-i-init g c = record { history = no_more; rest = refl }

pub loop-i-preserved : goal.loop-i-preserved
loop-i-preserved g c = record {
  history = history_more c.min-count.result c.loop-i.i c.args.requests.now c.loop-i.answers _ _ c.loop-i-test.true
      (omega (arith, length-take c.min-count.result c.args.requests.now)) c.loop-i.invariant.history c.perform.ensures;
  rest = grind (arith, common_steps);
}

pub returns : goal.returns
returns g c =
    let whole = history_whole c.min-count.result c.loop-i.i c.args.requests.now c.loop-i.answers c.loop-i-test.false (omega arith)
    c.loop-i.invariant.history in
    record { history = whole; promise = promise_goes_on g.met.S.Store.lawful g.met.S.Store.sound whole; rest = c.loop-i.invariant.rest }
