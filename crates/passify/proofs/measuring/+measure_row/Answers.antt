use Rattle.std.proofs.Common.{sym, ◌∙◌, arith}
use Rattle.passify.proofs.RowParts.{measurable_same, measures_same, left_falls, left_measurable, right_measurable, joined_fits}
use Rattle.passify.proofs.measuring.+measure_row.Goals as goal

pub measure_row-requires : goal.measure_row-requires
measure_row-requires t c =
    let ts = c.requires.0 in
    let f = measurable_same _ _ _ _ c.in-Some.is c.requires.1 in
    let s = sym c.joint.ensures ∙ c.in-Some-joint.is in (
      omega (arith, left_falls _ ts _ _ _ _ s f, c.decreases),
      (ts, measurable_same _ _ _ _ (sym c.in-Some.is) (left_measurable _ ts _ _ _ _ s f)),
    )

pub measure_row-requires-2 : goal.measure_row-requires-2
measure_row-requires-2 t c =
    let ts = c.requires.0 in
    let f = measurable_same _ _ _ _ c.in-Some.is c.requires.1 in
    let s = sym c.joint.ensures ∙ c.in-Some-joint.is in (
      omega (arith, left_falls _ ts _ _ _ _ s f, c.decreases),
      (ts, right_measurable _ ts _ _ _ _ s c.measure_row.result (measures_same _ _ _ _ c.in-Some.is (c.measure_row.ensures ts)) c.entry-start.result.now (c.entry-start.ensures _ c.in-Some.is) f),
    )

pub measure_joined-requires : goal.measure_joined-requires
measure_joined-requires t c =
    let ts = c.requires.0 in
    let f = measurable_same _ _ _ _ c.in-Some.is c.requires.1 in
    let s = sym c.joint.ensures ∙ c.in-Some-joint.is in
    joined_fits _ ts _ _ _ _ s c.measure_row.result (measures_same _ _ _ _ c.in-Some.is (c.measure_row.ensures ts)) c.entry-start.result.now (c.entry-start.ensures _ c.in-Some.is)
    c.measure_row-2.result (c.measure_row-2.ensures ts) f
