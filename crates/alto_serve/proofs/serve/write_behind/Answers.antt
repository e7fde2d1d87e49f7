-- What was gathered is out before the part is put out.
use Rattle.std.proofs.Common.{◌≡◌, ◌∙◌, ap}
use Rattle.alto_http.specs.Link.{extended}
use Rattle.alto_serve.proofs.WritingLemmas.{both_out, on_err, second_breaks}
use Rattle.alto_serve.proofs.serve.write_behind.Goals as goal

pub returns-in_err-write_all-in-Err-together-clause-err :
    goal.returns-in_err-write_all-in-Err-together-clause-err
returns-in_err-write_all-in-Err-together-clause-err g c =
    let first = c.args.gathered.items in
    let before = g.L.Link.out c.args.link.now in
    let gathered = c.deref.ensures.value ∙ c.in-Err.ensures.err in
    let gone : g.L.Link.out c.write_all.new.link ≡ extended before first =
    c.in_ok-write_all.ensures.ok ∙ ap (extended before) gathered in
    on_err c.from_residual-in_err-write_all-in-Err-together.result
    (second_breaks before (g.L.Link.out c.write_all.new.link) _ first c.args.part.now gone
    c.in_err-write_all-in-Err-together.ensures.err)

pub returns-in_ok-write_all-in-Err-together-clause-ok :
    goal.returns-in_ok-write_all-in-Err-together-clause-ok
returns-in_ok-write_all-in-Err-together-clause-ok g c =
    let first = c.args.gathered.items in
    let before = g.L.Link.out c.args.link.now in
    let gathered = c.deref.ensures.value ∙ c.in-Err.ensures.err in
    let gone : g.L.Link.out c.write_all.new.link ≡ extended before first =
    c.in_ok-write_all.ensures.ok ∙ ap (extended before) gathered in
    both_out before (g.L.Link.out c.write_all.new.link) _ first c.args.part.now c.in-Err-together.none.items gone
    c.in_ok-write_all-in-Err-together.ensures.ok (c.in-Err-together.ensures.err ∙ c.clear.ensures.items)
