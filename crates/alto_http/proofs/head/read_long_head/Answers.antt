use Rattle.std.proofs.Common.{refl, inl, inr, arith}
use Rattle.alto_http.proofs.HeadLines.{no_request}
use Rattle.alto_http.proofs.head.read_long_head.Goals as goal

pub returns-in-None-clause-err : goal.returns-in-None-clause-err
returns-in-None-clause-err c _ =
    inr (inl (c.requires, no_request _ _ (omega arith) c.requires c.in-None.ensures.none, refl))
