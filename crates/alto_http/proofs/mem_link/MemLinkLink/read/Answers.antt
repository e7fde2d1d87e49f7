use Rattle.std.proofs.Common.{◌≡◌, take, drop, ap, ◌∙◌}
use Rattle.alto_http.proofs.Ranges.{given_front, range_to_end}
use Rattle.alto_http.proofs.mem_link.MemLinkLink.read.Goals as goal

pub returns-clause-given : goal.returns-clause-given
returns-clause-given c =
    let input = c.self.inside.input.items in
    let given = c.self.inside.given in
    let count = c.give-count.result in
    let left : c.args.self.now.left ≡ drop given input = cc in
    let front : take count c.give-count.new.into ≡ take count (drop given input) =
    c.give-count.ensures.given ∙ ap (take count) (range_to_end c.deref-3.result.now given)
    ∙ ap (λ bytes. take count (drop given bytes)) c.deref-3.ensures.value in
    left ∙ given_front input _ given count front
