use Rattle.alto_addr.proofs.front.+octets_front.Given as goal

abbrev pub decreases-octets_front : goal.decreases-octets_front
decreases-octets_front l = l.more
