use Rattle.passify.proofs.passing.+passify_row.Given as goal

abbrev pub decreases-passify_row : goal.decreases-passify_row
decreases-passify_row l = l.i
