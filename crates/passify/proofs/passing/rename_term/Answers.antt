use Rattle.std.proofs.Common.{sym, ap, ◌∙◌, map, arith}
use Rattle.std.proofs.lemmas.List.{take_all}
use Rattle.routine.specs.Rows.{item}
use Rattle.passive.specs.Passive.{renamed}
use Rattle.passive.specs.Rows.{term_row}
use Rattle.passive.specs.Layout.{put}
use Rattle.passify.proofs.Putting.{put_nil, put_turn, map_three}
use Rattle.passify.proofs.passing.rename_term.Goals as goal

pub loop-i-init : goal.loop-i-init
loop-i-init c = sym (put_nil c.args.out.now c.args.at)

pub loop-i-preserved : goal.loop-i-preserved
loop-i-preserved c =
    put_turn (λ r. term_row (renamed c.args.m.now (item r))) c.args.out.now c.args.at c.loop-i.i c.args.rows.now
    (record { tag = 0; number = 0 }) c.loop-i-test.true (omega arith) c.loop-i.out c.rename_row.result c.loop-i.invariant c.rename_row.ensures

pub returns : goal.returns
returns c =
    c.loop-i.invariant
    ∙ (ap (λ rs. put c.args.out.now c.args.at (map (λ r. term_row (renamed c.args.m.now (item r))) rs))
    (take_all c.loop-i.i c.args.rows.now c.loop-i-test.false)
    ∙ ap (put c.args.out.now c.args.at) (map_three term_row (renamed c.args.m.now) item c.args.rows.now))
