-- Each part that is a name goes to the names so far, of which there are 64 at most.
use Rattle.std.proofs.Common.{◌≡◌, ◌++◌, ◌∷◌, [], append-nil, refl, ◌∙◌, arith}
use Rattle.std.proofs.lemmas.List.Elements.{All-push}
use Rattle.std.proofs.lemmas.Result.{err_from_is_err_and}
use Rattle.alto_names.specs.Name.{IsAneName, is_pid_byte}
use Rattle.edit_forms.specs.Columns.{spaced}
use Rattle.edit_forms.proofs.AneLemmas.{cut_parts, part_fault, part_more, parts_left, some_part, too_many}
use Rattle.edit_forms.proofs.ValueLemmas.{name_is_text}
use Rattle.edit_forms.proofs.anes.anes_in.Goals as goal

pub returns-then-len-eq-MOST-clause-answer : goal.returns-then-len-eq-MOST-clause-answer
returns-then-len-eq-MOST-clause-answer c = (
  refl,
  too_many c.args.text.now c.in-Some.rest.now c.loop-left.names.items
      (rw c.in-Some.is at c.loop-left.invariant.parts) (omega (arith, c.len.ensures)),
)

pub returns-in_err-name_in-clause-answer : goal.returns-in_err-name_in-clause-answer
returns-in_err-name_in-clause-answer c =
    let p = err_from_is_err_and c.from_residual.result c.from_residual.ensures.1 in
    rw (p.1, p.2) (part_fault c.args.column c.args.text.now c.cut.result.0.now c.loop-left.names.items
    (parts_left c.cut.result.1) c.in_err-name_in.field-0.0
    (rw (← cut_parts c.in-Some.rest.now c.cut.result.0.now c.cut.result.1 c.cut.ensures)
    (rw c.in-Some.is at c.loop-left.invariant.parts)) c.in_err-name_in.ensures.answer)

pub loop-left-preserved : goal.loop-left-preserved
loop-left-preserved c =
    let items : c.push.new.self.items ≡ c.loop-left.names.items ++ c.in_ok-name_in.field-0 ∷ [] =
    c.in_ok-push.ensures.items in
    record {
      parts = part_more c.args.text.now c.in-Some.rest.now c.cut.result.0.now c.in_ok-name_in.field-0
          c.loop-left.names.items c.push.new.self.items c.cut.result.1
          (rw c.in-Some.is at c.loop-left.invariant.parts)
          (cut_parts c.in-Some.rest.now c.cut.result.0.now c.cut.result.1 c.cut.ensures)
          (name_is_text is_pid_byte 32 c.cut.result.0.now c.in_ok-name_in.field-0 c.in_ok-name_in.ensures.answer) items;
      names = rw items (All-push IsAneName c.loop-left.names.items c.in_ok-name_in.field-0 c.loop-left.invariant.names
          c.in_ok-name_in.ensures.name);
      few = omega (arith, c.len.ensures, c.in_ok-push.ensures.len, c.loop-left.invariant.few, c.if-len-eq-MOST.false);
    }

pub returns-clause-anes : goal.returns-clause-anes
returns-clause-anes c =
    let all : spaced c.args.text.now ≡ c.loop-left.names.items = rw c.in_default.is at c.loop-left.invariant.parts
    ∙ append-nil c.loop-left.names.items in
    rw c.new.ensures (c.loop-left.invariant.names, rw (← all) (some_part c.args.text.now), c.loop-left.invariant.few)
