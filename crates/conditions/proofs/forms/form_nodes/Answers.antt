use Rattle.std.proofs.Common.{ap, ◌∙◌, arith, rules}
use Rattle.std.proofs.lemmas.List.{take_all}
use Rattle.conditions.specs.Made.{last_ends}
use Rattle.conditions.specs.Asks.{ends_of}
use Rattle.conditions.proofs.RowTurns.{asked, turned, all_made}
use Rattle.conditions.proofs.forms.form_nodes.Goals as goal

pub row_nodes-last-requires : goal.row_nodes-last-requires
row_nodes-last-requires g c =
    let inv = c.loop-i.invariant in
    let h =
    asked g.S.Value.Kind.kind g.S.Store.meaning g.S.Store.steps g.met.S.Store.lawful g.met.S.Store.sound c.args.terms.now c.loop-i.rows c.loop-i.i
    (omega (arith, c.loop-i-test.true, c.loop-i.auto.rows)) c.loop-i.store c.loop-i.store (ends_of c.loop-i.last) (ends_of c.loop-i.last)
    inv.1 inv.2 inv.3 inv.4 (ends_of c.nodes_at-left.result) c.nodes_at-left.ensures in
    let left_used = h.left in
    let right_used = h.right in
    record { workable = h.workable; left = search rules; right = search rules; room = h.room }

pub loop-i-preserved : goal.loop-i-preserved
loop-i-preserved g c =
    let inv = c.loop-i.invariant in
    let h =
    turned g.S.Value.Kind.kind g.S.Store.meaning g.S.Store.steps g.met.S.Store.lawful g.met.S.Store.sound c.args.terms.now c.loop-i.rows c.loop-i.i
    (omega (arith, c.loop-i-test.true, c.loop-i.auto.rows)) c.loop-i.store c.row_nodes-last.new.store (ends_of c.loop-i.last) (ends_of c.row_nodes-last.result)
    inv.1 inv.2 inv.3 inv.4 (ends_of c.nodes_at-left.result) c.nodes_at-left.ensures c.row_nodes-last.ensures in
    (λ t all made. inv.0 t all (h.0 t all made), h.1, h.2, h.3, h.4)

pub returns : goal.returns
returns g c = record {
  made = c.loop-i.invariant.0 _ _ (all_made g.S.Store.steps c.args.terms.now c.loop-i.rows c.loop-i.i c.loop-i.store (omega (arith, c.loop-i-test.false, c.loop-i.auto.rows)));
  last = c.loop-i.invariant.4 ∙ ap last_ends (take_all c.loop-i.i c.loop-i.rows (omega (arith, c.loop-i-test.false, c.loop-i.auto.rows)));
}
