use Rattle.alto_addr.proofs.front.+tail_front.Given as goal

abbrev pub decreases-tail_front : goal.decreases-tail_front
decreases-tail_front l = l.more
