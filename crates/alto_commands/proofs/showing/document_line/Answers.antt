use Rattle.std.proofs.Common.{sym, ◌∙◌}
use Rattle.alto_answers.proofs.NamedLemmas.{named_declared}
use Rattle.alto_commands.proofs.showing.document_line.Goals as goal

pub document_text-requires-clause-declared : goal.document_text-requires-clause-declared
document_text-requires-clause-declared g c =
    named_declared (g.R.RowStore.rows c.deref-rows.result.now) c.as_bytes.result.now c.in-Some.of
    (sym c.in-Some.is ∙ c.in_ok-of.ensures)
