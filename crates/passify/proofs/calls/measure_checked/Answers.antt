use Rattle.std.proofs.Common.{Some, ap}
use Rattle.passify.proofs.Accepted.{checked_measurable, checked_measured}
use Rattle.passify.proofs.calls.measure_checked.Goals as goal

pub measure_row-requires : goal.measure_row-requires
measure_row-requires c = checked_measurable c.args.v c.args.commands.now _ (ap Some c.first.ensures) c.requires

pub returns : goal.returns
returns c = checked_measured c.args.v c.args.commands.now _ (ap Some c.first.ensures) c.measure_row.result c.measure_row.ensures
