use Rattle.std.proofs.Common.{arith}
use Rattle.passify.proofs.SinglePieces.{rooms, single_wrote}
use Rattle.passify.proofs.passing.passify_single.Goals as goal

pub returns : goal.returns
returns c v ops s e f =
    single_wrote c.args.m.now c.args.next c.args.at c.args.rows.now c.args.out.now s c.single_row.result
    c.write_term-term.new.out c.write_term-term.result (omega (arith, (rooms c.args.m.now c.args.next c.args.at c.args.rows.now c.args.out.now c.requires.2 c.requires.5).row))
    (c.single_row.ensures c.args.terms.now c.args.m.now v ops s e f) (c.write_term-term.ensures v ops s e f)
