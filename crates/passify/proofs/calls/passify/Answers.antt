use Rattle.std.proofs.Common.{Some, sym, ap, ◌∙◌}
use Rattle.kinds.specs.declared.refusals.Refusal.TheVariants.{Names, WorkTable}
use Rattle.routine.specs.Decoding.{decode}
use Rattle.passive.proofs.Rules.{joints_as_stated}
use Rattle.passify.proofs.Accepted.{form_fits}
use Rattle.passify.proofs.Answering.{decoded, rows_kept, terms_kept, too_many, too_short, enough, form_room, rows_are, terms_are, form_writable, form_written, agrees}
use Rattle.passify.proofs.calls.passify.Goals as goal

pub returns-then-form-gt-MOST_NAMES : goal.returns-then-form-gt-MOST_NAMES
returns-then-form-gt-MOST_NAMES g c =
    let d = decoded (decode c.args.v g.K.Kind.kind.ops c.args.commands.now c.args.terms.now) _ c.in_ok-check.ensures.answer in
    let fm = c.measure_checked-form.ensures g.K.Kind.kind.ops c.args.terms.now d.0 d.1 in
    record {
      answer = too_many c.args.v (decode c.args.v g.K.Kind.kind.ops c.args.commands.now c.args.terms.now) d.0 d.1 c.measure_checked-form.result fm c.args.rows.now c.args.out.now c.if-form-gt-MOST_NAMES.true;
      rows = rows_kept c.args.v (decode c.args.v g.K.Kind.kind.ops c.args.commands.now c.args.terms.now) Names c.args.rows.now;
      terms = terms_kept c.args.v (decode c.args.v g.K.Kind.kind.ops c.args.commands.now c.args.terms.now) Names c.args.out.now;
      rules = joints_as_stated;
      agreement = agrees g.K.Kind.kind c.args.v c.args.commands.now c.args.terms.now;
    }

pub returns-then-not-tables_suffice : goal.returns-then-not-tables_suffice
returns-then-not-tables_suffice g c =
    let d = decoded (decode c.args.v g.K.Kind.kind.ops c.args.commands.now c.args.terms.now) _ c.in_ok-check.ensures.answer in
    let fm = c.measure_checked-form.ensures g.K.Kind.kind.ops c.args.terms.now d.0 d.1 in
    record {
      answer = too_short c.args.v (decode c.args.v g.K.Kind.kind.ops c.args.commands.now c.args.terms.now) d.0 d.1 c.measure_checked-form.result fm c.args.rows.now c.args.out.now c.if-form-gt-MOST_NAMES.false (sym c.if-not-tables_suffice.ensures);
      rows = rows_kept c.args.v (decode c.args.v g.K.Kind.kind.ops c.args.commands.now c.args.terms.now) WorkTable c.args.rows.now;
      terms = terms_kept c.args.v (decode c.args.v g.K.Kind.kind.ops c.args.commands.now c.args.terms.now) WorkTable c.args.out.now;
      rules = joints_as_stated;
      agreement = agrees g.K.Kind.kind c.args.v c.args.commands.now c.args.terms.now;
    }

pub passify_row-requires : goal.passify_row-requires
passify_row-requires g c =
    let d = decoded (decode c.args.v g.K.Kind.kind.ops c.args.commands.now c.args.terms.now) _ c.in_ok-check.ensures.answer in
    let fm = c.measure_checked-form.ensures g.K.Kind.kind.ops c.args.terms.now d.0 d.1 in
    form_writable c.args.v g.K.Kind.kind.ops c.args.commands.now c.args.terms.now d.0 d.1 _ (ap Some c.first.ensures) c.args.rows.now c.args.out.now
    (form_room c.args.v (decode c.args.v g.K.Kind.kind.ops c.args.commands.now c.args.terms.now) d.0 d.1 c.measure_checked-form.result fm c.args.rows.now c.args.out.now c.if-form-gt-MOST_NAMES.false (sym c.if-not-tables_suffice.ensures)
    (form_fits c.args.v g.K.Kind.kind.ops c.args.commands.now c.args.terms.now d.0 d.1))

pub returns : goal.returns
returns g c =
    let d = decoded (decode c.args.v g.K.Kind.kind.ops c.args.commands.now c.args.terms.now) _ c.in_ok-check.ensures.answer in
    let fm = c.measure_checked-form.ensures g.K.Kind.kind.ops c.args.terms.now d.0 d.1 in
    let w =
    form_written c.args.v g.K.Kind.kind.ops c.args.commands.now c.args.terms.now d.0 d.1 _ (ap Some c.first.ensures)
    c.args.rows.now c.args.out.now c.passify_row.new.rows c.passify_row.new.out c.passify_row.result c.passify_row.ensures in
    record {
      answer = enough c.args.v (decode c.args.v g.K.Kind.kind.ops c.args.commands.now c.args.terms.now) d.0 d.1 c.measure_checked-form.result fm c.args.rows.now c.args.out.now c.if-form-gt-MOST_NAMES.false (sym c.if-not-tables_suffice.ensures);
      rows = w.0 ∙ rows_are c.args.v (decode c.args.v g.K.Kind.kind.ops c.args.commands.now c.args.terms.now) d.0 d.1 c.measure_checked-form.result fm c.args.rows.now c.args.out.now _;
      terms = w.1 ∙ terms_are c.args.v (decode c.args.v g.K.Kind.kind.ops c.args.commands.now c.args.terms.now) d.0 d.1 c.measure_checked-form.result fm c.args.rows.now c.args.out.now _;
      rules = joints_as_stated;
      agreement = agrees g.K.Kind.kind c.args.v c.args.commands.now c.args.terms.now;
    }
