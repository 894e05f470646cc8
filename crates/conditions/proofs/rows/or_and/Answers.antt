use Rattle.conditions.specs.Made.{or_and_made}
use Rattle.conditions.proofs.rows.or_and.Goals as goal

pub returns : goal.returns
returns g c = or_and_made c.make-both.ensures c.make.ensures
