use Rattle.std.proofs.Common.{rules}
use Rattle.std.proofs.lemmas.Result.{on_ok_weaker}
use Rattle.alto_maps.specs.Shape.{document}
use Rattle.alto_maps.proofs.WritingLemmas.{whole_object}
use Rattle.alto_maps.proofs.writing.write_whole.Goals as goal

pub returns : goal.returns
unfolding document
returns g c = on_ok_weaker c.end_object.result (λ closed. whole_object _ c.args.out.now c.begin_object.new.self
    c.write_members.new.out c.end_object.new.self (search rules) (search rules) c.in_ok-write_members.ensures
    closed (search rules)) c.end_object.ensures.ok
