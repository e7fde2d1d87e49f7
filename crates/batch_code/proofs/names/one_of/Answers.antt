use Rattle.std.proofs.Common.{sym, ◌∙◌}
use Rattle.alto_rows.proofs.OrderLemmas.{name_cmp_exact}
use Rattle.batch_code.proofs.names.one_of.Goals as goal

-- the name that is there is the one that is asked for
pub returns-in-Some : goal.returns-in-Some
returns-in-Some g c =
    c.in_ok-one.ensures.cases ∙ sym (name_cmp_exact c.args.name c.in-Some.known.now c.in-Some.ensures.same_key)
