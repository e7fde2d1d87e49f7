use Rattle.std.proofs.lemmas.Result.{err_from_is_err_and}
use Rattle.alto_names.specs.Name.{is_net_byte}
use Rattle.code_bytes.specs.Pieces.{name}
use Rattle.code_bytes.specs.Stuck.{Pair}
use Rattle.code_bytes.proofs.GrammarLemmas.{pair_first, pair_grammar, pair_next}
use Rattle.batch_code.specs.Grammar.{NetNames, PropNames, Entities}
use Rattle.batch_code.specs.Spelling.{entity_bytes}
use Rattle.batch_code.proofs.KeyLemmas.{entities_grammar, is_entity, is_text, metric_grammar, net_grammar}
use Rattle.batch_code.proofs.key.read_prop.Goals as goal

pub returns-in_err-net-clause-stops : goal.returns-in_err-net-clause-stops
returns-in_err-net-clause-stops c =
    let p = err_from_is_err_and c.from_residual.result c.from_residual.ensures.1 in
    rw (p.1, p.2) (pair_first NetNames (Pair Entities PropNames) c.args.bytes.now c.in_err-net.field-0.0
    (pair_grammar Entities PropNames entities_grammar metric_grammar) c.in_err-net.ensures.stops)

pub returns-in_err-entity-clause-stops : goal.returns-in_err-entity-clause-stops
returns-in_err-entity-clause-stops c =
    let p = err_from_is_err_and c.from_residual-in_err-entity.result c.from_residual-in_err-entity.ensures.1 in
    rw (p.1, p.2) (pair_next NetNames (Pair Entities PropNames) c.args.bytes.now (name c.in_ok-net.net)
    c.in_ok-net.rest.now c.in_err-entity.field-0.0
    net_grammar (is_text is_net_byte 24 c.in_ok-net.net c.in_ok-net.ensures.ok.0)
    c.in_ok-net.ensures.ok.1 (pair_first Entities PropNames c.in_ok-net.rest.now c.in_err-entity.field-0.0
    metric_grammar c.in_err-entity.ensures.stops))

pub returns-in_err-property-clause-stops : goal.returns-in_err-property-clause-stops
returns-in_err-property-clause-stops c =
    let p = err_from_is_err_and c.from_residual-in_err-property.result c.from_residual-in_err-property.ensures.1 in
    rw (p.1, p.2) (pair_next NetNames (Pair Entities PropNames) c.args.bytes.now (name c.in_ok-net.net)
    c.in_ok-net.rest.now c.in_err-property.field-0.0
    net_grammar (is_text is_net_byte 24 c.in_ok-net.net c.in_ok-net.ensures.ok.0)
    c.in_ok-net.ensures.ok.1 (pair_next Entities PropNames c.in_ok-net.rest.now (entity_bytes c.in_ok-entity.entity)
    c.in_ok-entity.rest.now c.in_err-property.field-0.0 entities_grammar
    (is_entity c.in_ok-entity.entity c.in_ok-entity.ensures.ok.0) c.in_ok-entity.ensures.ok.1
    c.in_err-property.ensures.stops))
