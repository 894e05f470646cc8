use Rattle.walkthrough.proofs.text.+node_text.Given as goal

abbrev pub decreases-node_text : goal.decreases-node_text
decreases-node_text l = l.depth
