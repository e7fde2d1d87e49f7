use Rattle.std.proofs.Common.{rules}
use Rattle.std.proofs.lemmas.Result.{on_ok_weaker}
use Rattle.net_docs.proofs.WritingLemmas.{both_families}
use Rattle.net_docs.proofs.writing.write_families.Goals as goal

pub returns : goal.returns
returns c =
    on_ok_weaker c.end_object.result
    (λ closed. both_families c.args.prefixes.now c.args.out.now c.begin_object.new.self c.write_family.new.out
    c.write_family-2.new.out c.end_object.new.self
    (search rules) (search rules) c.in_ok-write_family.ensures c.in_ok-write_family-2.ensures closed (search rules))
    c.end_object.ensures.ok
