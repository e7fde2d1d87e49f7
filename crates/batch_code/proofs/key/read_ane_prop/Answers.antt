use Rattle.std.proofs.Common.{◌++◌}
use Rattle.std.proofs.lemmas.Result.{err_from_is_err_and}
use Rattle.alto_names.specs.Name.{is_net_byte, is_pid_byte}
use Rattle.code_bytes.specs.Pieces.{name}
use Rattle.code_bytes.specs.Stuck.{Pair}
use Rattle.code_bytes.proofs.GrammarLemmas.{pair_first, pair_grammar, pair_next}
use Rattle.batch_code.specs.Grammar.{NetNames, PropNames, AneNames}
use Rattle.batch_code.proofs.KeyLemmas.{ane_grammar, are_texts, is_text, metric_grammar, net_grammar}
use Rattle.batch_code.proofs.key.read_ane_prop.Goals as goal

pub returns-in_err-net-clause-stops : goal.returns-in_err-net-clause-stops
returns-in_err-net-clause-stops c =
    let p = err_from_is_err_and c.from_residual.result c.from_residual.ensures.1 in
    rw (p.1, p.2) (pair_first (Pair NetNames AneNames) PropNames c.args.bytes.now c.in_err-net.field-0.0 metric_grammar
    c.in_err-net.ensures.stops)

pub returns-in_err-property-clause-stops : goal.returns-in_err-property-clause-stops
returns-in_err-property-clause-stops c =
    let p = err_from_is_err_and c.from_residual-in_err-property.result c.from_residual-in_err-property.ensures.1 in
    rw (p.1, p.2) (pair_next (Pair NetNames AneNames) PropNames c.args.bytes.now (name c.in_ok-net.net
    ++ name c.in_ok-net.ane) c.in_ok-net.rest.now c.in_err-property.field-0.0
    (pair_grammar NetNames AneNames net_grammar ane_grammar)
    (are_texts NetNames AneNames _ _ (is_text is_net_byte 24 c.in_ok-net.net c.in_ok-net.ensures.ok.0)
    (is_text is_pid_byte 32 c.in_ok-net.ane c.in_ok-net.ensures.ok.1))
    c.in_ok-net.ensures.ok.2 c.in_err-property.ensures.stops)
