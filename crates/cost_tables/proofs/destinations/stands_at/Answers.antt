use Rattle.std.proofs.Common.{◌∙◌, Some, ap, length, refl, sym}
use Rattle.std.proofs.lemmas.Option.{slice_get_read}
use Rattle.alto_rows.proofs.TouchesLemmas.{one_name}
use Rattle.cost_tables.specs.Tables.{Name}
use Rattle.cost_tables.proofs.destinations.stands_at.Goals as goal

pub returns-in-Some : goal.returns-in-Some
returns-in-Some c found =
    let all = c.args.destinations.now in
    let name = c.in-Some.name.now in
    let item = c.in-Some.ensures.lookup in
    slice_get_read all (length all) c.args.place name refl item.3.0 item.1
    ∙ ap (λ (name : Name). Some name) (one_name name c.args.destination.now
    (rw c.as_bytes.ensures.value at (sym c.matches.ensures ∙ found)))
