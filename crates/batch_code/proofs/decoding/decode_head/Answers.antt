use Rattle.std.proofs.Common.{◌≡◌, ◌+◌, ◌-◌, [], length, refl, ap, sym, ◌∙◌, arith}
use Rattle.std.proofs.lemmas.Bool.{eqb-false}
use Rattle.std.proofs.lemmas.List.{length-append}
use Rattle.batch_code.specs.Faults.{IsRowZero}
use Rattle.batch_code.specs.Grammar.{HeadTexts}
use Rattle.batch_code.specs.Spelling.{head_bytes}
use Rattle.batch_code.proofs.BatchLemmas.{head_text, behind_longest, behind_outside, fault_is, longest_same}
use Rattle.batch_code.proofs.BatchLemmas.{heads_grammar}
use Rattle.batch_code.proofs.SpelledLemmas.{head_in}
use Rattle.batch_code.proofs.decoding.decode_head.Goals as goal

pub returns-else-is_empty-clause-err : goal.returns-else-is_empty-clause-err
returns-else-is_empty-clause-err c =
    let text = head_bytes c.in-Ok.head.0 c.in-Ok.head.1 in
    let rest = c.in-Ok.rest.now in
    let more : rest ≡ [] → ⊥ = λ nil. eqb-false (length rest) 0 (sym c.is_empty.ensures ∙ c.if-is_empty.false)
    (ap length nil) in
    let is : HeadTexts text = head_text text (c.in-Ok.head.0, c.in-Ok.head.1, c.in-Ok.ensures.ok.0, refl) in
    let place : length c.args.bytes.now - length rest + length rest ≡ length c.args.bytes.now =
    omega (arith, ap length c.in-Ok.ensures.ok.1, length-append text rest) in (
      (λ row. behind_outside HeadTexts c.args.bytes.now text rest heads_grammar is c.in-Ok.ensures.ok.1
          more (head_text c.args.bytes.now row)),
      longest_same HeadTexts IsRowZero c.args.bytes.now _ head_in
          head_text (behind_longest HeadTexts c.args.bytes.now text rest (length c.args.bytes.now - length rest)
          heads_grammar is c.in-Ok.ensures.ok.1 place),
    )

pub returns-in-Err-clause-err : goal.returns-in-Err-clause-err
returns-in-Err-clause-err c = rw c.fault_of.ensures (fault_is IsRowZero HeadTexts c.args.bytes.now c.in-Err.stop
    head_text head_in c.in-Err.ensures.stops)
