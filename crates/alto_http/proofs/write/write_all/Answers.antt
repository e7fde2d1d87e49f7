use Rattle.std.proofs.Common.{◌∙◌, arith}
use Rattle.std.proofs.lemmas.List.{take_rest}
use Rattle.alto_http.proofs.Links.{extended_more}
use Rattle.alto_http.proofs.write.write_all.Goals as goal

pub loop-at-preserved : goal.loop-at-preserved
loop-at-preserved g c =
    let i = c.loop-at.invariant in
    let k = c.in_ok-at.ensures in (
      omega arith,
      extended_more _ _ _ _ _ _ i.1 (rw take_rest at k.put),
      k.counted ∙ i.2,
      k.left ∙ i.3,
      k.failed_reads ∙ i.4,
    )
