use Rattle.std.proofs.Common.{◌≡◌, ◌∙◌, ◌++◌, sym, append-nil}
use Rattle.std.proofs.lemmas.Result.{on_err_weaker}
use Rattle.doc_pieces.specs.Parts.{whole}
use Rattle.alto_serve.proofs.WritingLemmas.{on_err, part_breaks, part_out, rest_breaks}
use Rattle.alto_serve.proofs.serve.write_parts.Goals as goal

pub returns-in_err-gathered-clause-err : goal.returns-in_err-gathered-clause-err
returns-in_err-gathered-clause-err g c =
    let before = rw c.in-Some.ensures.some at c.loop-part.invariant.0 in
    on_err c.from_residual.result
    (part_breaks _ _ _ _ c.loop-part.gathered.items c.in-Some.part.now (whole c.next.new.self) before
    c.in_err-gathered.ensures.err)

pub loop-part-preserved : goal.loop-part-preserved
loop-part-preserved g c =
    let before = rw c.in-Some.ensures.some at c.loop-part.invariant.0 in (
      part_out _ _ _ _ c.loop-part.gathered.items c.in_ok-gathered.gathered.items c.in-Some.part.now
          (whole c.next.new.self) before c.in_ok-gathered.ensures.ok,
      c.in_ok-gathered.ensures.counted ∙ c.loop-part.invariant.1,
      c.in_ok-gathered.ensures.left ∙ c.loop-part.invariant.2,
      c.in_ok-gathered.ensures.failed_reads ∙ c.loop-part.invariant.3,
    )

pub returns-clause-err : goal.returns-clause-err
returns-clause-err g c =
    let gathered = c.loop-part.gathered.items in
    let rest : gathered ++ whole c.loop-part.parts ≡ c.deref.result.now =
    rw c.in_default.ensures.none (append-nil gathered ∙ sym c.deref.ensures.value) in
    let before = rw rest at c.loop-part.invariant.0 in
    on_err_weaker c.write_all.result (λ cut. rest_breaks _ _ _ _ c.deref.result.now before cut) c.write_all.ensures.err
