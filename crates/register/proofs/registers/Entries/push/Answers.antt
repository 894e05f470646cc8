use Rattle.passify.proofs.Padded.{fills_push, room_left}
use Rattle.register.proofs.registers.Entries.push.Goals as goal

pub invariant_of-self : goal.invariant_of-self
invariant_of-self c = fills_push _ _ _ _ c.self.invariant c.args.entry (room_left _ _ _ _ c.self.invariant _ c.self.view_is c.requires)
