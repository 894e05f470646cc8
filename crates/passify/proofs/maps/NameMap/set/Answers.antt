use Rattle.std.proofs.Common.{ap, ◌∙◌, set}
use Rattle.passify.proofs.Padded.{items_set, fills_set, within}
use Rattle.passify.proofs.maps.NameMap.set.Goals as goal

pub invariant_of-self : goal.invariant_of-self
invariant_of-self c =
    fills_set _ _ _ _ c.self.invariant c.args.x c.args.f (within _ _ _ _ c.self.invariant _ c.self.view_is c.args.x c.requires)

pub returns : goal.returns
returns c =
    items_set _ _ _ _ c.self.invariant c.args.x c.args.f (within _ _ _ _ c.self.invariant _ c.self.view_is c.args.x c.requires)
    ∙ ap (λ m. set m c.args.x c.args.f) c.self.view_is
