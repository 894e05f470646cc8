use Rattle.std.proofs.Common.{subst, sym}
use Rattle.conditions.proofs.Frames.{grown_then}
use Rattle.conditions.proofs.TermLaws.{item_grown, item_used}
use Rattle.conditions.proofs.TermTurns.{WorkableFrom, workable_then, one_left, made_more, made_none}
use Rattle.conditions.specs.Reading.{items}
use Rattle.std.proofs.Common.{◌+◌, drop}
use Rattle.conditions.proofs.terms.term_node.Goals as goal

pub loop-row-preserved : goal.loop-row-preserved
loop-row-preserved g c =
    let inv = c.loop-row.invariant in
    let rows = c.args.terms.now in
    let i = c.loop-row.row-index in
    let K = g.S.Value.Kind.kind in
    let M = g.S.Store.meaning in
    let steps = g.S.Store.steps in
    let sound = g.met.S.Store.sound in
    let here = c.loop-row-test.true in
    let made = rw c.from.ensures at c.item_node.ensures in
    let grown = item_grown K M steps sound made in (
      λ t n h. inv.0 t n (made_more steps rows i here made h),
      subst (λ w. WorkableFrom K.ops w c.item_node.new.stack (items (drop (i + 1) rows))) (sym grown.width_same)
          (workable_then K.ops (M.width c.loop-row.store) rows i steps here made inv.1),
      item_used K M steps sound made inv.2,
      grown_then M inv.3 grown,
    )

pub returns : goal.returns
returns g c =
    let inv = c.loop-row.invariant in
    let rows = c.args.terms.now in
    let i = c.loop-row.row-index in
    let over = c.loop-row-test.false in
    let one = one_left g.S.Value.Kind.kind.ops (g.S.Store.meaning.width c.loop-row.store) rows i c.loop-row.stack over inv.1 in
    inv.0 _ _ (made_none g.S.Store.steps rows i over c.loop-row.stack c.pop.new.self c.pop.ensures.popped one)
