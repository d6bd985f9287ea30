use Rattle.draw.proofs.pairs.+pair_of.Given as goal

abbrev pub decreases-pair_of : goal.decreases-pair_of
decreases-pair_of l = l.m
