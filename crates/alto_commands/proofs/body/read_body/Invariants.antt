use Rattle.std.proofs.Common.{◌≡◌, ◌≤◌, ◌-◌, length}
use Rattle.alto_commands.specs.Bodies.{Came}
use Rattle.alto_commands.proofs.body.read_body.Given as goal

-- what came so far is the body, with a byte more than it may have at most
abbrev pub invariant-pieces : goal.invariant-pieces
invariant-pieces g l = record {
  came : Came l.body.items (g.L.Link.left l.initial.link) (g.L.Link.left l.link);
  within : length l.body.items ≤ 4194305;
  reads : g.L.Link.failed_reads l.link ≡ g.L.Link.failed_reads l.initial.link;
  out : g.L.Link.out l.link ≡ g.L.Link.out l.initial.link;
  writes : g.L.Link.failed_writes l.link ≡ g.L.Link.failed_writes l.initial.link;
}

abbrev pub decreases-pieces : goal.decreases-pieces
decreases-pieces g l = 4194305 - length l.body.items
