use Rattle.passify.proofs.Wrotes.{wrote_row}
use Rattle.passify.proofs.writing.write_row.Goals as goal

pub returns : goal.returns
returns c T = wrote_row c.args.row c.args.at c.args.rows.now T c.requires.within
