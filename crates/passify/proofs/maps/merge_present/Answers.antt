use Rattle.std.proofs.Common.{rules, ℕ, ◌+◌, List, length, Some, ap, ◌∙◌, sym, length-take, arith}
use Rattle.kinds.specs.declared.numbered.Name.{Name}
use mathlib.Core.Path.{subst₃}
use Rattle.passify.proofs.MergeTurns.{Turned, turned_room, turned_same, turned_apart, turned_done, pair_apart, pair_same}
use Rattle.passify.proofs.maps.merge_present.Goals as goal
use Rattle.passify.proofs.maps.merge_present.Goals.{then-ne, else-ne}

pub overflow_cast-k : goal.overflow_cast-k
overflow_cast-k c =
    let e = pair_apart _ _ _ _ _ _ c.as_slice-xs.ensures.names c.as_slice-ys.ensures.names (search rules) c.if-ne.ensures in
    omega (arith, turned_room _ _ _ _ _ _ _ (search rules) (search rules) c.loop-i.invariant e, c.requires)

pub overflow_add-k : goal.overflow_add-k
overflow_add-k c =
    let e = pair_apart _ _ _ _ _ _ c.as_slice-xs.ensures.names c.as_slice-ys.ensures.names (search rules) c.if-ne.ensures in
    omega (arith, turned_room _ _ _ _ _ _ _ (search rules) (search rules) c.loop-i.invariant e, c.requires)

pub loop-i-preserved : goal.loop-i-preserved
loop-i-preserved c =
    let After : List Name → ℕ → ℕ → Type 0 = λ m k d. Turned c.args.a.now c.args.b.now m k d c.args.next (c.loop-i.i + 1) in
    elim c.if-ne.branch [
      | then-ne w ↦
          let e = pair_apart _ _ _ _ _ _ c.as_slice-xs.ensures.names c.as_slice-ys.ensures.names (search rules) w.if-ne.ensures in
          subst₃ After (sym (w.both-is ∙ w.set.ensures)) (sym w.k-is) (sym w.renamed-is)
          (turned_apart _ _ _ _ _ _ _ (search rules) (search rules) c.loop-i.invariant e)
      | else-ne w ↦
          let e = pair_same _ _ _ _ _ _ c.as_slice-xs.ensures.names c.as_slice-ys.ensures.names (search rules) w.if-ne.ensures in
          subst₃ After (sym w.both-is) (sym w.k-is) (sym w.renamed-is) (turned_same _ _ _ _ _ _ _ (search rules) (search rules) c.loop-i.invariant e)
    ]

pub returns : goal.returns
returns c =
    let long = length-take c.min.result c.as_slice-xs.result.now in
    let xs = ap length c.as_slice-xs.ensures.names in
    let ys = ap length c.as_slice-ys.ensures.names in
    let d = turned_done _ _ _ _ _ _ _ (omega (arith, c.loop-i-test.false, c.loop-i.auto.i-end, long, c.min.ensures, xs, ys)) c.loop-i.invariant in
    record {
      names = ap Some d.names;
      next = d.next;
      renamed = d.renamed;
      few = omega (arith, c.loop-i.invariant.sofar.few, c.loop-i.auto.i-end, long, c.as_slice-xs.ensures.few);
    }
