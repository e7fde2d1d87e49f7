use Rattle.std.proofs.Common.{rules, ◌≡◌, ap, ◌∙◌, [], ◌∷◌, ◌++◌, get_or}
use Rattle.pid_prefix.proofs.PidsLemmas.{packs_more, pid_or}
use Rattle.pid_prefix.proofs.pids.Pids.packed.Goals as goal

pub loop-pid-preserved : goal.loop-pid-preserved
loop-pid-preserved c =
    let pids = c.args.pids.now in
    let i = c.loop-pid.pid-index in
    let copy : c.in_ok-clone.field-0 ≡ c.unwrap_or.result.now = search rules in
    let item : c.pid-item.result ≡ get_or pids i c.pid-item.result = c.pid-item.is in
    packs_more pids i c.pid-item.result c.loop-pid.are_pids.items c.push.new.self.items c.is_some.result
    c.loop-pid.names.items c.push-in-loop-pid.new.self.items c.unwrap_or.result.now c.loop-pid-test.true
    (pid_or c.pid-item.result c.as_ref.result _ c.unwrap_or.result c.is_some.result c.as_ref.ensures.value
    c.unwrap_or.ensures c.is_some.ensures ∙ item) c.in_ok-push.ensures.items
    (c.in_ok-push-2.ensures.items ∙ ap (λ name. c.loop-pid.names.items ++ name ∷ []) copy) c.loop-pid.invariant
