use Rattle.std.proofs.Common.{◌≡◌, map, take}
use Rattle.routine.specs.Rows.{item}
use Rattle.passive.specs.Passive.{renamed}
use Rattle.passive.specs.Rows.{term_row}
use Rattle.passive.specs.Layout.{put}
use Rattle.passify.proofs.passing.rename_term.Given as goal

-- what is written so far
abbrev pub invariant-loop-i : goal.invariant-loop-i
invariant-loop-i l = l.out ≡ put l.initial.out l.at (map (λ r. term_row (renamed l.m (item r))) (take l.i l.rows))
