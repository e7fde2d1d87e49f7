use Rattle.std.proofs.lemmas.Result.{err_from_is_err_and}
use Rattle.code_bytes.specs.Pieces.{name}
use Rattle.code_bytes.proofs.GrammarLemmas.{names_grammar, pair_first, pair_next}
use Rattle.batch_code.proofs.KeyLemmas.{is_text}
use Rattle.batch_code.proofs.key.read_names.Goals as goal

pub returns-in_err-first-clause-stops : goal.returns-in_err-first-clause-stops
returns-in_err-first-clause-stops g c =
    let p = err_from_is_err_and c.from_residual.result c.from_residual.ensures.1 in
    let second = names_grammar g.B.Kind.alphabet g.B.Kind.LONGEST g.B.Kind.LEAST g.met.B.Kind.has_least
    g.met.B.Kind.has_room in
    rw (p.1, p.2) (pair_first _ _ c.args.bytes.now c.in_err-first.field-0.0 second c.in_err-first.ensures.stops)

pub returns-in_err-second-clause-stops : goal.returns-in_err-second-clause-stops
returns-in_err-second-clause-stops g c =
    let p = err_from_is_err_and c.from_residual-in_err-second.result c.from_residual-in_err-second.ensures.1 in
    let first = names_grammar g.A.Kind.alphabet g.A.Kind.LONGEST g.A.Kind.LEAST g.met.A.Kind.has_least
    g.met.A.Kind.has_room in
    rw (p.1, p.2) (pair_next _ _ c.args.bytes.now (name c.in_ok-first.first) c.in_ok-first.rest.now
    c.in_err-second.field-0.0 first
    (is_text _ _ c.in_ok-first.first c.in_ok-first.ensures.ok.0) c.in_ok-first.ensures.ok.1
    c.in_err-second.ensures.stops)
