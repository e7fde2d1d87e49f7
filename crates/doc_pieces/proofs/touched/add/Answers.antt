use Rattle.std.proofs.Common.{rules, sym, ◌∙◌}
use Rattle.doc_pieces.proofs.PlaceLemmas.{last_among, touched_kept, touched_more, touched_same}
use Rattle.doc_pieces.proofs.touched.add.Goals as goal

pub returns-in_default : goal.returns-in_default
returns-in_default c = λ places so_far. so_far ∙ touched_same places c.args.place.now (search rules)

pub returns-then-eq : goal.returns-then-eq
returns-then-eq c =
    let same = sym c.eq.ensures ∙ c.if-eq.true in
    λ places so_far. touched_kept places c.args.place.now _ _ so_far (search rules)
    (last_among c.args.names.now.keys c.last.result c.in-Some.group same c.last.ensures.member)

pub returns : goal.returns
returns c =
    let group = c.in-Some.group.now in
    λ places so_far. touched_more places c.args.place.now group _ _ so_far (search rules) (search rules)
