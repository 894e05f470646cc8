use Rattle.register.proofs.Promised.{promise_kept}
use Rattle.register.proofs.registers.replays.replay.Goals as goal

pub returns : goal.returns
returns g c =
    let past = rw (c.new-register.ensures c.args.rows.now c.args.terms.now) at c.answer_all.ensures.history in
    record {
      history = past;
      promise = promise_kept _ _ _ g.met.S.Store.lawful g.met.S.Store.sound _ _ _ _ _ _ past;
      rest = c.answer_all.ensures.rest;
    }
