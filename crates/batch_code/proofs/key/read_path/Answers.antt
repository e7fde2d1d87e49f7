use Rattle.std.proofs.lemmas.Result.{err_from_is_err_and}
use Rattle.alto_names.specs.Name.{is_net_byte}
use Rattle.code_bytes.specs.Pieces.{name}
use Rattle.code_bytes.specs.Stuck.{Pair}
use Rattle.code_bytes.proofs.GrammarLemmas.{pair_first, pair_grammar, pair_next}
use Rattle.batch_code.specs.Grammar.{NetNames, PidNames}
use Rattle.batch_code.proofs.KeyLemmas.{is_text, net_grammar, pid_grammar}
use Rattle.batch_code.proofs.key.read_path.Goals as goal

pub returns-in_err-net-clause-stops : goal.returns-in_err-net-clause-stops
returns-in_err-net-clause-stops c =
    let p = err_from_is_err_and c.from_residual.result c.from_residual.ensures.1 in
    rw (p.1, p.2) (pair_first NetNames (Pair PidNames PidNames) c.args.bytes.now c.in_err-net.field-0.0
    (pair_grammar PidNames PidNames pid_grammar pid_grammar) c.in_err-net.ensures.stops)

pub returns-in_err-source-clause-stops : goal.returns-in_err-source-clause-stops
returns-in_err-source-clause-stops c =
    let p = err_from_is_err_and c.from_residual-in_err-source.result c.from_residual-in_err-source.ensures.1 in
    rw (p.1, p.2) (pair_next NetNames (Pair PidNames PidNames) c.args.bytes.now (name c.in_ok-net.net)
    c.in_ok-net.rest.now c.in_err-source.field-0.0
    net_grammar (is_text is_net_byte 24 c.in_ok-net.net c.in_ok-net.ensures.ok.0)
    c.in_ok-net.ensures.ok.1 c.in_err-source.ensures.stops)
