use Rattle.alto_addr.proofs.front.+head_front.Given as goal

abbrev pub decreases-head_front : goal.decreases-head_front
decreases-head_front l = l.more
