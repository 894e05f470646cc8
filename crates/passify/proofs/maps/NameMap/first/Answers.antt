use Rattle.std.proofs.Common.{length, ap, ◌∙◌, ◌++◌, [], ◌∷◌, arith}
use Rattle.passive.specs.Passive.{name}
use Rattle.passify.proofs.Padded.{length_names_from, one_more}
use Rattle.passify.proofs.maps.NameMap.first.Goals as goal

pub push-requires : goal.push-requires
push-requires c = omega (arith, ap length c.loop-i.invariant, length_names_from 0 c.loop-i.i, c.loop-i-test.true, c.requires)

pub loop-i-preserved : goal.loop-i-preserved
loop-i-preserved c = c.push.ensures ∙ (ap (λ l. l ++ name c.loop-i.i ∷ []) c.loop-i.invariant ∙ one_more c.loop-i.i)
