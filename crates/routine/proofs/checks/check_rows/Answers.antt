use Rattle.std.proofs.Common.{sym, ap, ◌∙◌, arith, false-eqb}
use Rattle.std.proofs.lemmas.Result.{err_from_is_err_and}
use Rattle.routine.specs.Decoding.{verdict}
use Rattle.routine.proofs.Finished.{sofar_ready, sofar_more, sofar_stop, decode_within, ends_whole, ends_split}
use Rattle.routine.proofs.checks.check_rows.Goals as goal

pub place-requires : goal.place-requires
place-requires c = sofar_ready _ _ _ _ c.loop-i.invariant (omega arith)

pub loop-i-preserved : goal.loop-i-preserved
loop-i-preserved c =
    sofar_more _ _ _ _ c.loop-i.invariant _ c.loop-i-test.true c.if-commands-gt-MOST_COMMANDS.false _
    (sym c.place.ensures ∙ c.in_ok-parts.was)

pub returns-in_err-parts : goal.returns-in_err-parts
returns-in_err-parts c =
    let p = err_from_is_err_and c.from_residual.result c.from_residual.ensures.1 in
    let within =
    decode_within _ _ _ _ c.if-v-gt-MOST_VARIABLES.false (omega (arith, false-eqb _ 0 c.if-is_empty.ensures))
    c.if-commands-gt-MOST_COMMANDS.false c.if-terms-gt-MOST_TERMS.false in
    let stop =
    sofar_stop _ _ _ _ c.loop-i.invariant _ c.loop-i-test.true c.if-commands-gt-MOST_COMMANDS.false _
    (sym c.place.ensures ∙ c.in_err-parts.was) in
    rw (p.1, p.2) (sym (ap verdict (within ∙ stop)))

pub returns-then-parts-commands-eq0 : goal.returns-then-parts-commands-eq0
returns-then-parts-commands-eq0 c =
    ends_whole _ _ _ _ c.if-v-gt-MOST_VARIABLES.false (omega (arith, false-eqb _ 0 c.if-is_empty.ensures))
    c.if-commands-gt-MOST_COMMANDS.false c.if-terms-gt-MOST_TERMS.false c.loop-i.invariant c.loop-i-test.false c.loop-i.auto.i-end
    c.if-parts-commands-eq0.true

pub returns-else-parts-commands-eq0 : goal.returns-else-parts-commands-eq0
returns-else-parts-commands-eq0 c =
    ends_split _ _ _ _ c.if-v-gt-MOST_VARIABLES.false (omega (arith, false-eqb _ 0 c.if-is_empty.ensures))
    c.if-commands-gt-MOST_COMMANDS.false c.if-terms-gt-MOST_TERMS.false c.loop-i.invariant c.loop-i-test.false c.loop-i.auto.i-end
    c.if-parts-commands-eq0.false
