use Rattle.std.proofs.lemmas.Result.{on_ok_weaker}
use Rattle.cost_docs.proofs.KeptLemmas.{member_put}
use Rattle.cost_docs.proofs.PidLemmas.{pid_plain}
use Rattle.doc_pieces.proofs.PlainLemmas.{plain_text}
use Rattle.cost_docs.proofs.kept.push_cost.Goals as goal

pub returns : goal.returns
returns c =
    let destination = c.args.destination.now in
    let plain = plain_text destination (pid_plain destination c.as_bytes.ensures.read_again) in
    on_ok_weaker c.push_number.result
    (λ is. member_put c.args.out.now c.push.new.self c.push-2.new.self c.push-3.new.self c.push_number.new.self
    destination c.args.cost c.args.later plain (rw (← c.opening.ensures) c.in_ok-push.ensures)
    (rw (← c.as_bytes.ensures.bytes) c.in_ok-push-2.ensures) c.in_ok-push-3.ensures is) c.push_number.ensures
