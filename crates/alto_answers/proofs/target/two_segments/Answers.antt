-- A path without a percent sign has no escape, so its segments are read as they stand.
use Rattle.std.proofs.Common.{◌∙◌, ◌+◌, sym}
use Rattle.alto_answers.proofs.TargetLemmas.{decoded_same, segments_plain}
use Rattle.alto_answers.proofs.target.two_segments.Goals as goal

pub returns-then-not-has_escape-clause-first : goal.returns-then-not-has_escape-clause-first
returns-then-not-has_escape-clause-first c =
    let plain = segments_plain c.args.path.now (sym c.if-not-has_escape.ensures) c.args.place in
    c.two_raw_segments.ensures.first ∙ sym (decoded_same _ plain)

pub returns-then-not-has_escape-clause-second : goal.returns-then-not-has_escape-clause-second
returns-then-not-has_escape-clause-second c =
    let plain = segments_plain c.args.path.now (sym c.if-not-has_escape.ensures) (c.args.place + 1) in
    c.two_raw_segments.ensures.second ∙ sym (decoded_same _ plain)
