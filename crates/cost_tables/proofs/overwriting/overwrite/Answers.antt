-- A write of no cost from the source leaves its costs; one of a cost writes over the one at its place.
use Rattle.std.proofs.Common.{◌∙◌, ap, option_map, sym}
use Rattle.cost_tables.proofs.OverwriteLemmas.{left_by, written_over}
use Rattle.cost_tables.proofs.overwriting.overwrite.Goals as goal

pub returns-in_default-clause-told : goal.returns-in_default-clause-told
returns-in_default-clause-told c held rows sorted had =
    left_by rows c.args.write.now.key c.args.write.now.value c.args.net.now c.args.metric.now c.args.source.now _ sorted
    (sym c.destination_of.ensures ∙ ap (option_map (λ destination. destination.now)) c.in_default.is) had

pub returns-in-Some-place_of-clause-told : goal.returns-in-Some-place_of-clause-told
returns-in-Some-place_of-clause-told c held rows sorted had =
    written_over rows c.args.write.now.key c.args.write.now.value c.args.net.now c.args.metric.now c.args.source.now
    c.args.destinations.now.names c.args.costs.now c.set.new.self c.in-Some-place_of.place c.in-Some.destination.now
    c.in-Some-number_in.cost sorted c.place_of.ensures.rise c.requires
    (sym c.destination_of.ensures ∙ ap (option_map (λ destination. destination.now)) c.in-Some.is)
    (sym c.number_in.ensures ∙ c.in-Some-number_in.is) c.in-Some-place_of.ensures.place (c.set.ensures.set held) had
