use Rattle.alto_http.proofs.Heads.{no_end_to_feed, no_end_without_feed}
use Rattle.alto_http.proofs.Ranges.{range_to_end}
use Rattle.alto_http.proofs.scan.next_line_feed.Goals as goal

pub returns-in-Some-clause-found : goal.returns-in-Some-clause-found
returns-in-Some-clause-found c =
    no_end_to_feed c.args.bytes.now _ c.args.from c.in-Some.passed (range_to_end c.args.bytes.now c.args.from)
    c.requires.within c.requires.passed c.in-Some.ensures.0

pub returns-in-None-clause-none : goal.returns-in-None-clause-none
returns-in-None-clause-none c =
    no_end_without_feed c.args.bytes.now _ c.args.from (range_to_end c.args.bytes.now c.args.from)
    c.requires.within c.requires.passed c.in-None.ensures
