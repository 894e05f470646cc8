use Rattle.std.proofs.Common.{refl, arith}
use Rattle.std.proofs.lemmas.Grind.{put_two, common_steps}
use Rattle.register.specs.Printed.{filing_front, filing_rest}
use Rattle.register.proofs.entries.FilingDisplay.fmt.Goals as goal

pub returns-clause-writes : goal.returns-clause-writes
returns-clause-writes g c = λ plain ok.
    put_two g.W.Write.write_str_gives c.args.f.now c.write.new.self c.write-2.new.self (filing_front c.args.self.now) (filing_rest c.args.self.now) _
    (grind (arith, common_steps)) (grind (arith, common_steps)) refl
