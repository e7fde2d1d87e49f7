use Rattle.std.proofs.Common.{ap, sym, subst, ◌∙◌}
use Rattle.std.proofs.lemmas.Result.{IfOk-weaker}
use Rattle.alto_rows.specs.Good.{AreGood}
use Rattle.alto_book.proofs.StateLemmas.{good_rows}
use Rattle.alto_versions.specs.Front.{Version, tables_in}
use Rattle.alto_answers.specs.Answers.{BringsEdits}
use Rattle.alto_answers.specs.Target.{segment}
use Rattle.alto_answers.proofs.EdgeLemmas.{edges_bring_none}
use Rattle.alto_answers.proofs.answering.answer.Goals as goal

-- the version has the rows of a legal book
pub maps-requires : goal.maps-requires
maps-requires g c = subst AreGood (sym c.requires.2.current) (good_rows _ c.requires.1)

pub directory-requires : goal.directory-requires
directory-requires g c =
    let version = c.requires in
    let rows = ap g.R.RowStore.rows c.deref-in-Some-Directory.ensures
    ∙ ap (λ (version : Version). version.rows) c.front.view_is ∙ version.2.current in
    subst AreGood (sym rows) (good_rows _ version.1)

-- the tables of a version are those of its rows
pub query-requires : goal.query-requires
query-requires g c =
    let version = c.requires in
    record {
      good = subst AreGood (sym version.2.current) (good_rows _ version.1);
      tables = version.2.tables ∙ ap tables_in (sym version.2.current);
    }

pub returns-in-Some-Edge-clause-edits : goal.returns-in-Some-Edge-clause-edits
returns-in-Some-Edge-clause-edits g c =
    IfOk-weaker c.edges.result _ _
    (λ answer made. subst BringsEdits (sym (made _ c.requires.1 c.requires.2))
    (edges_bring_none _ c.requires.0 _ (segment c.path_of-path.result.now 2) (segment c.path_of-path.result.now 4)
    (segment c.path_of-path.result.now 5))) c.edges.ensures.answer
