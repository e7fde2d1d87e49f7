-- The set gains the resource of the key.
use Rattle.std.proofs.lemmas.Result.{on_ok_weaker}
use Rattle.alto_rules.proofs.IndexLemmas.{part_added}
use Rattle.alto_rules.proofs.index.add_part.Goals as goal

pub returns-in-Some : goal.returns-in-Some
returns-in-Some c =
    on_ok_weaker c.add_resource.result
    (λ more of. rw (← c.in_ok-part.ensures, c.in-Some.is)
    (part_added c.args.parts.now c.add_resource.new.all c.in-Some.part of more))
    c.add_resource.ensures
