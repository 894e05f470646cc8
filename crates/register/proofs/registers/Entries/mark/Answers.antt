use Rattle.std.proofs.Common.{take, set, sym, ap, ◌∙◌}
use Rattle.std.proofs.lemmas.List.{get_or-take}
use Rattle.passify.proofs.Padded.{items_set, fills_set, within}
use Rattle.register.specs.Held.{no_entry, entry_at, struck_out}
use Rattle.register.proofs.registers.Entries.mark.Goals as goal

pub invariant_of-self : goal.invariant_of-self
invariant_of-self c =
    fills_set _ _ _ _ c.self.invariant c.args.j _ (within _ _ _ _ c.self.invariant _ c.self.view_is c.args.j c.requires)

pub returns : goal.returns
returns c =
    let e = c.self.inside in
    let there = within _ _ _ _ c.self.invariant _ c.self.view_is c.args.j c.requires in
    items_set _ _ _ _ c.self.invariant c.args.j (struck_out (entry_at e.slots c.args.j)) there
    ∙ (ap (λ x. set (take e.used e.slots) c.args.j (struck_out x)) (sym (get_or-take e.used e.slots c.args.j no_entry there))
    ∙ ap (λ es. set es c.args.j (struck_out (entry_at es c.args.j))) c.self.view_is)
