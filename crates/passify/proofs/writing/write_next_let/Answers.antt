use Rattle.std.proofs.Common.{◌-◌, cond, sym, ap, ◌∙◌, arith}
use Rattle.std.proofs.lemmas.Bool.{ne_eqb}
use Rattle.passive.specs.Layout.{joint_row}
use Rattle.passify.specs.Pieces.{◌then◌, one_row, let_piece}
use Rattle.passify.proofs.Wrotes.{wrote_then, wrote_as}
use Rattle.passify.proofs.writing.write_next_let.Goals as goal

pub returns : goal.returns
returns c =
    let this = let_piece (record { new = c.args.new; old = c.args.old }) c.args.at.term in
    let apart = ne_eqb c.args.at.row c.args.start.row c.if-at-start.false in
    wrote_as
    (ap (λ r. this then one_row r) c.joining.ensures
    ∙ ap (λ b. cond b this (this then one_row (joint_row 6 (c.args.at.row - 1)))) (sym apart))
    (wrote_then c.write_let-after.ensures (c.write_row.ensures c.write_let-after.new.terms) (omega arith) (omega arith))
