use Rattle.std.proofs.Common.{◌≡◌, ◌+◌, ◌-◌, [], length, refl, ap, sym, ◌∙◌, arith}
use Rattle.std.proofs.lemmas.Bool.{eqb-false}
use Rattle.std.proofs.lemmas.List.{length-append}
use Rattle.batch_code.specs.Faults.{IsBatch}
use Rattle.batch_code.specs.Grammar.{BatchTexts}
use Rattle.batch_code.specs.Spelling.{batch_bytes}
use Rattle.batch_code.proofs.BatchLemmas.{batch_text, behind_longest, behind_outside, fault_is, longest_same}
use Rattle.batch_code.proofs.BatchLemmas.{batches_grammar}
use Rattle.batch_code.proofs.SpelledLemmas.{batch_in}
use Rattle.batch_code.proofs.decoding.decode.Goals as goal

pub returns-else-is_empty-clause-err : goal.returns-else-is_empty-clause-err
returns-else-is_empty-clause-err c =
    let text = batch_bytes c.in-Ok.batch in
    let rest = c.in-Ok.rest.now in
    let more : rest ≡ [] → ⊥ = λ nil. eqb-false (length rest) 0 (sym c.is_empty.ensures ∙ c.if-is_empty.false)
    (ap length nil) in
    let is : BatchTexts text = batch_text text (c.in-Ok.batch, c.in-Ok.ensures.ok.0, refl) in
    let place : length c.args.bytes.now - length rest + length rest ≡ length c.args.bytes.now =
    omega (arith, ap length c.in-Ok.ensures.ok.1, length-append text rest) in (
      (λ row. behind_outside BatchTexts c.args.bytes.now text rest batches_grammar is c.in-Ok.ensures.ok.1
          more (batch_text c.args.bytes.now row)),
      longest_same BatchTexts IsBatch c.args.bytes.now _ batch_in
          batch_text (behind_longest BatchTexts c.args.bytes.now text rest (length c.args.bytes.now - length rest)
          batches_grammar is c.in-Ok.ensures.ok.1 place),
    )

pub returns-in-Err-clause-err : goal.returns-in-Err-clause-err
returns-in-Err-clause-err c = rw c.fault_of.ensures (fault_is IsBatch BatchTexts c.args.bytes.now c.in-Err.stop
    batch_text batch_in c.in-Err.ensures.stops)
