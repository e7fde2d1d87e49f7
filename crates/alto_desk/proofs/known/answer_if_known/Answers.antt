-- What is known of the id answers.
use Rattle.std.proofs.Common.{map, ap, ◌∙◌}
use Rattle.std.specs.Prelude.{Some, option_map}
use Rattle.std.specs.Arc.{arc_value}
use Rattle.alto_book.specs.Acceptance.{answer_known, known}
use Rattle.alto_book.specs.Import.{Import}
use Rattle.alto_desk.specs.Ledger.{kept_in}
use Rattle.alto_desk.proofs.known.answer_if_known.Goals as goal

pub returns : goal.returns
returns c =
    let kept = kept_in c.args.receipts.now (map arc_value c.args.batches.now) in
    ap (λ answer. Some answer) (c.answer.ensures c.command.inside.id)
    ∙ ap (option_map (λ numbered. answer_known numbered c.args.command.now))
    (c.in_ok-found.ensures ∙ ap (λ (import : Import). known kept import.id) c.command.view_is)
