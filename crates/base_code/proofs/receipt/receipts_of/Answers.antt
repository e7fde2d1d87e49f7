use Rattle.std.proofs.Common.{◌≡◌, ◌++◌, ◌∷◌, []}
use Rattle.std.proofs.lemmas.List.Elements.{All-push}
use Rattle.std.proofs.lemmas.Result.{err_from_is_err_and}
use Rattle.code_bytes.proofs.GrammarLemmas.{read_more, read_stops}
use Rattle.base_code.specs.Bases.{IsKept}
use Rattle.base_code.specs.Parts.{Receipts}
use Rattle.base_code.specs.Pieces.{kept_bytes}
use Rattle.base_code.proofs.PieceLemmas.{is_receipt, receipts_grammar}
use Rattle.base_code.proofs.receipt.receipts_of.Goals as goal

pub returns-in_err-kept-clause-stops : goal.returns-in_err-kept-clause-stops
returns-in_err-kept-clause-stops c =
    let p = err_from_is_err_and c.from_residual.result c.from_residual.ensures.1 in
    rw (p.1, p.2) (read_stops kept_bytes Receipts c.args.count c.loop.counter c.args.bytes.now c.loop.receipts.items
    c.loop.rest.now c.in_err-kept.field-0.0 receipts_grammar c.loop-test.true
    c.in_err-kept.ensures.stops c.loop.invariant.read)

pub loop-preserved : goal.loop-preserved
loop-preserved c =
    let items : c.push.new.self.items ≡ c.loop.receipts.items ++ (c.in_ok-kept.kept ∷ []) =
    c.in_ok-push.ensures.items in
    rw items (record {
      kept = All-push IsKept c.loop.receipts.items c.in_ok-kept.kept c.loop.invariant.kept c.in_ok-kept.ensures.ok.0;
      read = read_more kept_bytes Receipts c.args.count c.loop.counter c.args.bytes.now c.loop.receipts.items
          c.loop.rest.now c.in_ok-kept.kept c.in_ok-kept.after.now receipts_grammar
          c.loop-test.true (is_receipt c.in_ok-kept.kept c.in_ok-kept.ensures.ok.0) c.in_ok-kept.ensures.ok.1
          c.loop.invariant.read;
    })
