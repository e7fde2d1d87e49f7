use Rattle.std.proofs.Common.{◌++◌}
use Rattle.std.proofs.lemmas.Result.{err_from_is_err_and}
use Rattle.alto_names.specs.Name.{is_net_byte, is_pid_byte}
use Rattle.code_bytes.specs.Pieces.{Prefixes, name}
use Rattle.code_bytes.specs.Stuck.{Pair}
use Rattle.code_bytes.proofs.GrammarLemmas.{pair_first, pair_grammar, pair_next, prefixes_grammar}
use Rattle.batch_code.specs.Grammar.{NetNames, PidNames}
use Rattle.batch_code.proofs.KeyLemmas.{are_texts, is_text, net_grammar, pid_grammar}
use Rattle.batch_code.proofs.key.read_block.Goals as goal

pub returns-in_err-net-clause-stops : goal.returns-in_err-net-clause-stops
returns-in_err-net-clause-stops c =
    let p = err_from_is_err_and c.from_residual.result c.from_residual.ensures.1 in
    rw (p.1, p.2) (pair_first (Pair NetNames PidNames) Prefixes c.args.bytes.now c.in_err-net.field-0.0 prefixes_grammar
    c.in_err-net.ensures.stops)

pub returns-in_err-block-clause-stops : goal.returns-in_err-block-clause-stops
returns-in_err-block-clause-stops c =
    let p = err_from_is_err_and c.from_residual-in_err-block.result c.from_residual-in_err-block.ensures.1 in
    rw (p.1, p.2) (pair_next (Pair NetNames PidNames) Prefixes c.args.bytes.now (name c.in_ok-net.net
    ++ name c.in_ok-net.pid) c.in_ok-net.rest.now c.in_err-block.field-0.0
    (pair_grammar NetNames PidNames net_grammar pid_grammar)
    (are_texts NetNames PidNames _ _ (is_text is_net_byte 24 c.in_ok-net.net c.in_ok-net.ensures.ok.0)
    (is_text is_pid_byte 64 c.in_ok-net.pid c.in_ok-net.ensures.ok.1))
    c.in_ok-net.ensures.ok.2 c.in_err-block.ensures.stops)
