use Rattle.std.proofs.Common.{rules}
use Rattle.std.proofs.lemmas.Result.{on_ok_weaker}
use Rattle.prop_docs.proofs.WritingLemmas.{object_of_props}
use Rattle.prop_docs.proofs.writing.write_properties.Goals as goal

pub returns : goal.returns
returns c =
    on_ok_weaker c.end_object.result
    (λ closed. object_of_props c.args.properties.now c.args.out.now c.begin_object.new.self
    c.write_each_property.new.out c.end_object.new.self c.requires (search rules)
    (search rules) c.in_ok-write_each_property.ensures closed (search rules))
    c.end_object.ensures.ok
