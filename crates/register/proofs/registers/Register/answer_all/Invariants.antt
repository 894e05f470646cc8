use Rattle.std.proofs.Common.{◌≡◌, length, take, drop}
use Rattle.register.specs.Histories.{History}
use Rattle.register.specs.Views.{held, exchanges}
use Rattle.register.proofs.registers.Register.answer_all.Given as goal

abbrev pub invariant-loop-i : goal.invariant-loop-i
invariant-loop-i g l = record {
  history : History g.S.Value.Kind.kind g.S.Store.meaning g.S.Store.steps (held l.initial.self l.initial.rows l.initial.terms)
      (exchanges (take l.i l.requests) (take l.i l.answers)) (held l.self l.rows l.terms);
  rest : drop (length l.requests) l.answers ≡ drop (length l.requests) l.initial.answers;
}
