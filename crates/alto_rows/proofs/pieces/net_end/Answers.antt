use Rattle.std.proofs.Common.{Some, None}
use Rattle.alto_rows.proofs.PieceLemmas.{net_ends}
use Rattle.alto_rows.proofs.pieces.net_end.Goals as goal

pub returns-in-Some : goal.returns-in-Some
returns-in-Some c = net_ends (Some c.in-Some.place) c.args.text.now c.in-Some.ensures

pub returns-in-None : goal.returns-in-None
returns-in-None c = net_ends None c.args.text.now c.in-None.ensures
