use Rattle.std.proofs.Common.{◌++◌, ◌∙◌, ap, append_assoc, map}
use Rattle.std.specs.Arc.{arc_value}
use Rattle.std.specs.List.{flat_map}
use Rattle.shared_list.proofs.rest.Rest.share_all.Goals as goal

pub loop-run-init : goal.loop-run-init
loop-run-init g c =
    let items = map arc_value c.self.inside.items.now in
    let runs = flat_map arc_value c.self.inside.runs.now in
    ap (λ shared. shared ++ runs) c.in_ok-share.ensures
    ∙ (append_assoc c.args.shared.now items runs ∙ ap (λ all. c.args.shared.now ++ all) c.self.view_is)
