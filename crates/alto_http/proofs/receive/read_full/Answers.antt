use Rattle.std.proofs.Common.{◌∙◌, arith}
use Rattle.alto_http.proofs.Ahead.{full_more}
use Rattle.alto_http.proofs.Ranges.{take_shorter}
use Rattle.alto_http.proofs.receive.read_full.Goals as goal

pub pieces-preserved : goal.pieces-preserved
pieces-preserved g c =
    let i = c.pieces.invariant in
    let k = c.in_ok-count.ensures in (
      omega arith,
      k.within,
      take_shorter _ _ _ _ i.0 k.front ∙ i.2,
      full_more _ _ _ c.pieces.into _ _ _ _ i.0 k.within k.front i.3 k.given,
      k.counted ∙ i.4,
      k.out ∙ i.5,
      k.failed_writes ∙ i.6,
    )
