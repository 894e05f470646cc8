use Rattle.walkthrough.proofs.text.+print_command.Given as goal

abbrev pub decreases-print_command : goal.decreases-print_command
decreases-print_command l = l.at
