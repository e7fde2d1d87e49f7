-- The writes of edits are of no versions.
use Rattle.alto_rules.proofs.CompileLemmas.{edits_plain}
use Rattle.alto_rules.proofs.compiler.compile.Goals as goal

pub versioned-requires-clause-edits : goal.versioned-requires-clause-edits
versioned-requires-clause-edits g c =
    edits_plain c.args.edits.now (g.R.RowStore.rows c.args.rows.now) 1 c.in_ok-drafted.field-0.writes
    c.in_ok-drafted.ensures.ok
