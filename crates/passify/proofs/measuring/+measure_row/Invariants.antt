use Rattle.passify.proofs.measuring.+measure_row.Given as goal

abbrev pub decreases-measure_row : goal.decreases-measure_row
decreases-measure_row l = l.at
