-- The rows after the batch are those of the book with it.
use Rattle.std.proofs.Common.{ap, ◌∙◌}
use Rattle.std.proofs.lemmas.Result.{IfOk-weaker}
use Rattle.alto_rows.specs.Accepted.{Accepted}
use Rattle.alto_rows.specs.Rows.{Rows, after}
use Rattle.alto_versions.proofs.CourseLemmas.{rows_of-with_batch}
use Rattle.alto_desk.proofs.trim.course_with.Goals as goal

pub returns : goal.returns
returns g c =
    let batch = c.args.batch.now in
    let writes = c.deref.ensures.value ∙ ap (λ (one : Accepted). one.writes) c.batch.view_is in
    IfOk-weaker c.with.result _ _
    (λ next leads book legal more follows.
    leads book batch legal more
    (c.in_ok-rows.ensures ∙ (ap (λ (rows : Rows). after rows batch.writes) (c.rows.ensures ∙ follows.current)
    ∙ rows_of-with_batch book batch))
    writes follows)
    c.with.ensures
