-- The text that is kept is that of the document.
use Rattle.std.proofs.Common.{ap, sym, ◌∙◌}
use Rattle.doc_pieces.specs.Pieces.{text_of}
use Rattle.alto_versions.proofs.TextLemmas.{map_text}
use Rattle.alto_answers.proofs.edges.document_at.Goals as goal

pub returns-in_ok-try_clone-in-Some : goal.returns-in_ok-try_clone-in-Some
returns-in_ok-try_clone-in-Some g c =
    let rows = g.R.RowStore.rows c.args.rows.now in
    let is = c.in-Some.ensures rows (sym c.requires.number) in
    c.of_map.ensures ∙ (ap text_of c.in_ok-try_clone-in-Some.ensures
    ∙ (ap text_of is ∙ map_text rows c.args.resource.now))
