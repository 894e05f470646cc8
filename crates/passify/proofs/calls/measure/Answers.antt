use Rattle.std.proofs.Common.{ap, arith}
use Rattle.routine.specs.Decoding.{decode}
use Rattle.passify.specs.declared.measuring.Measured.{Measured}
use Rattle.passify.proofs.Accepted.{nodes_fit}
use Rattle.passify.proofs.Answering.{decoded}
use Rattle.passify.proofs.calls.measure.Goals as goal

pub overflow_add-result : goal.overflow_add-result
overflow_add-result g c =
    let d = decoded (decode c.args.v g.K.Kind.kind.ops c.args.commands.now c.args.terms.now) _ c.in_ok-check.ensures.answer in
    let fm = c.measure_checked-form.ensures g.K.Kind.kind.ops c.args.terms.now d.0 d.1 in
    omega (arith, nodes_fit c.args.v g.K.Kind.kind.ops c.args.commands.now c.args.terms.now d.0 d.1, ap (λ (s : Measured). s.nodes) fm)
