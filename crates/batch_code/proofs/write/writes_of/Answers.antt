use Rattle.std.proofs.Common.{◌≡◌, ◌++◌, ◌∷◌, [], ap, ◌∙◌}
use Rattle.std.proofs.lemmas.List.Elements.{All-push}
use Rattle.std.proofs.lemmas.Result.{err_from_is_err_and}
use Rattle.alto_rows.specs.declared.write.Write.{Write}
use Rattle.code_bytes.proofs.GrammarLemmas.{read_more, read_stops}
use Rattle.batch_code.specs.Grammar.{Writes}
use Rattle.batch_code.specs.Spelling.{write_bytes}
use Rattle.batch_code.specs.Storable.{IsStored}
use Rattle.batch_code.proofs.WriteLemmas.{is_write, writes_grammar}
use Rattle.batch_code.proofs.write.writes_of.Goals as goal

pub returns-in_err-write-clause-stops : goal.returns-in_err-write-clause-stops
returns-in_err-write-clause-stops c =
    let p = err_from_is_err_and c.from_residual.result c.from_residual.ensures.1 in
    rw (p.1, p.2) (read_stops write_bytes Writes c.args.count c.loop.counter c.args.bytes.now c.loop.writes.items
    c.loop.rest.now c.in_err-write.field-0.0 writes_grammar c.loop-test.true
    c.in_err-write.ensures.stops c.loop.invariant.read)

pub loop-preserved : goal.loop-preserved
loop-preserved c =
    let items : c.push.new.self.items ≡ c.loop.writes.items ++ (c.in_ok-write.write ∷ []) =
    c.in_ok-push.ensures.items ∙ ap (λ (write : Write). c.loop.writes.items ++ (write ∷ [])) c.in_ok-shared.ensures in
    rw items (record {
      stored = All-push IsStored c.loop.writes.items c.in_ok-write.write c.loop.invariant.stored
          c.in_ok-write.ensures.ok.0;
      read = read_more write_bytes Writes c.args.count c.loop.counter c.args.bytes.now c.loop.writes.items
          c.loop.rest.now c.in_ok-write.write c.in_ok-write.after.now writes_grammar
          c.loop-test.true (is_write c.in_ok-write.write c.in_ok-write.ensures.ok.0) c.in_ok-write.ensures.ok.1
          c.loop.invariant.read;
    })
