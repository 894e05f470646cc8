-- The one clause for all joints is the three rules.
use Rattle.std.proofs.Common.{refl}
use Rattle.passive.specs.Stated.{JointsAsStated}

pub joints_as_stated : JointsAsStated
joints_as_stated a b = (refl, refl, refl)
