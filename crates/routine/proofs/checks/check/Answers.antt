use Rattle.std.proofs.Common.{ap, ◌∙◌}
use Rattle.routine.specs.Decoding.{decode, verdict}
use Rattle.routine.proofs.Soundness.{decoding_sound}
use Rattle.routine.proofs.Completeness.{decoding_complete}
use Rattle.routine.proofs.checks.check.Goals as goal

pub returns : goal.returns
returns g c = record { answer = c.check_rows.ensures ∙ ap (λ ops. verdict (decode c.args.v ops c.args.commands.now c.args.terms.now)) (c.from.ensures ∙ c.ops.ensures); sound = decoding_sound _ _ _ _; complete = decoding_complete _ _ _ _ }
