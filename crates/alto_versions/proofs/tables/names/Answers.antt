-- A text that is a name's bytes is that name.
use Rattle.std.proofs.Common.{◌∙◌, subst, sym}
use Rattle.alto_names.specs.Name.{IsNetName}
use Rattle.alto_rows.proofs.TouchesLemmas.{one_name}
use Rattle.alto_versions.proofs.tables.names.Goals as goal

pub returns-clause-name : goal.returns-clause-name
returns-clause-name c = λ t.
    let same = one_name c.args.text.now c.as_bytes.result.now (sym c.eq.ensures ∙ t) in
    subst IsNetName (sym (same ∙ c.as_bytes.ensures.bytes)) c.as_bytes.ensures.read_again
