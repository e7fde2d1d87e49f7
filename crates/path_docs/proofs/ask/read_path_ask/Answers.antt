use Rattle.std.proofs.Common.{refl}
use Rattle.std.proofs.lemmas.Result.{err_from_is_err_and}
use Rattle.path_docs.specs.Ask.{path_ask}
use Rattle.path_docs.proofs.ask.read_path_ask.Goals as goal

pub returns-clause-ok : goal.returns-clause-ok
unfolding path_ask
returns-clause-ok c =
    rw (
      c.in_ok-read_type.ensures.ok,
      c.in_ok-without.ensures.ok,
      c.in_ok-without-2.ensures.ok,
      c.in_ok-srcs.ensures.ok,
      c.in_ok-items.ensures.ok,
      c.in_ok-only_bandwidth.ensures.ok,
      c.has_item.ensures,
    )
    refl

pub returns-in_err-only_bandwidth-clause-err : goal.returns-in_err-only_bandwidth-clause-err
unfolding path_ask
returns-in_err-only_bandwidth-clause-err c =
    let p = err_from_is_err_and c.from_residual-in_err-only_bandwidth.result
    c.from_residual-in_err-only_bandwidth.ensures.1 in
    rw (p.1, p.2)
    (λ not_memory.
    rw (
      c.in_ok-read_type.ensures.ok,
      c.in_ok-without.ensures.ok,
      c.in_ok-without-2.ensures.ok,
      c.in_ok-srcs.ensures.ok,
      c.in_ok-items.ensures.ok,
      c.in_err-only_bandwidth.ensures.err not_memory,
    )
    refl)
