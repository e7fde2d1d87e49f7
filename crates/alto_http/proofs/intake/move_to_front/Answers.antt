use Rattle.std.proofs.Common.{◌-◌, ◌∙◌, ap, take}
use Rattle.alto_http.proofs.Ranges.{moved_front}
use Rattle.alto_http.proofs.intake.move_to_front.Goals as goal

pub returns : goal.returns
returns c =
    ap (take (c.args.end - c.args.start)) c.copy_within.ensures.after
    ∙ moved_front _ _ _ c.requires.ordered c.requires.within
