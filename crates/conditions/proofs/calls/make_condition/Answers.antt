use Rattle.std.proofs.Common.{◌-◌, length, ap₂, arith}
use Rattle.routine.specs.Decoding.{decode}
use Rattle.conditions.proofs.Fixing.{tables_fixed, evaluators_fixed}
use Rattle.conditions.proofs.Forecasts.{never_refused, asked, risen, stands}
use Rattle.conditions.proofs.calls.make_condition.Goals as goal

pub condition_node-node-requires : goal.condition_node-node-requires
condition_node-node-requires g c =
    asked g.S.Value.Kind.kind g.S.Store.meaning g.S.Store.steps g.met.S.Store.lawful g.met.S.Store.sound c.args.v c.args.commands.now c.args.terms.now c.args.store.now
    c.args.rows.now c.passify.new.rows c.args.out.now c.passify.new.out c.in_ok-forecast.field-0 c.in_ok-forecast.ensures c.in_ok-form.form
    c.in_ok-form.ensures.answer c.in_ok-form.ensures.rows c.in_ok-form.ensures.terms

pub overflow_sub-result : goal.overflow_sub-result
overflow_sub-result g c =
    let more =
    risen g.S.Value.Kind.kind g.S.Store.meaning g.S.Store.steps g.met.S.Store.lawful g.met.S.Store.sound c.args.v c.args.commands.now c.args.terms.now c.args.store.now
    c.args.rows.now c.passify.new.rows c.args.out.now c.passify.new.out c.in_ok-forecast.field-0 c.in_ok-forecast.ensures c.in_ok-form.form
    c.in_ok-form.ensures.answer c.in_ok-form.ensures.rows c.in_ok-form.ensures.terms
    c.condition_node-node.new.rows c.condition_node-node.result c.condition_node-node.new.store c.condition_node-node.ensures in
    omega (arith, more, c.count.ensures, c.count-before.ensures)

pub returns-clause-made : goal.returns-clause-made
returns-clause-made g c =
    stands g.S.Value.Kind.kind g.S.Store.meaning g.S.Store.steps g.met.S.Store.lawful g.met.S.Store.sound c.args.v c.args.commands.now c.args.terms.now c.args.store.now
    c.args.rows.now c.passify.new.rows c.args.out.now c.passify.new.out c.in_ok-forecast.field-0 c.in_ok-forecast.ensures c.in_ok-form.form
    c.in_ok-form.ensures.answer c.in_ok-form.ensures.rows c.in_ok-form.ensures.terms
    c.condition_node-node.new.rows c.condition_node-node.result c.condition_node-node.new.store c.condition_node-node.ensures _
    (ap₂ ◌-◌ c.count.ensures c.count-before.ensures)

pub returns-clause-tables : goal.returns-clause-tables
returns-clause-tables g c = tables_fixed

pub returns-clause-evaluators : goal.returns-clause-evaluators
returns-clause-evaluators g c = evaluators_fixed g.S.Value.Kind.kind

pub returns-in_err-forecast-clause-tables : goal.returns-in_err-forecast-clause-tables
returns-in_err-forecast-clause-tables g c = tables_fixed

pub returns-in_err-forecast-clause-evaluators : goal.returns-in_err-forecast-clause-evaluators
returns-in_err-forecast-clause-evaluators g c = evaluators_fixed g.S.Value.Kind.kind

pub returns-in_err-form-clause-made : goal.returns-in_err-form-clause-made
returns-in_err-form-clause-made g c =
    absurd (never_refused g.S.Store.meaning c.args.store.now (length c.args.rows.now) (length c.args.out.now) c.args.v
    (decode c.args.v g.S.Value.Kind.kind.ops c.args.commands.now c.args.terms.now) _ _ c.in_ok-forecast.ensures c.in_err-form.ensures.answer)

pub returns-in_err-form-clause-tables : goal.returns-in_err-form-clause-tables
returns-in_err-form-clause-tables g c = tables_fixed

pub returns-in_err-form-clause-evaluators : goal.returns-in_err-form-clause-evaluators
returns-in_err-form-clause-evaluators g c = evaluators_fixed g.S.Value.Kind.kind
