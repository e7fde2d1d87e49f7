use Rattle.std.proofs.Common.{◌<◌, ◌≡◌, refl, ◌∙◌, arith}
use Rattle.alto_serve.proofs.EventLemmas.{grown_itself, grown_on}
use Rattle.alto_serve.specs.declared.end.End.TheVariants as end
use Rattle.alto_serve.proofs.ConnectionLemmas.{served_more, served_most, served_never, served_none, served_to_end}
use Rattle.alto_serve.proofs.WalkLemmas.{served_walks}
use Rattle.alto_serve.proofs.serve.serve_conn.Goals as goal

pub returns-in_default-clause-served : goal.returns-in_default-clause-served
returns-in_default-clause-served g c =
    served_walks end.Memory _ _ _ (served_never _ _ (g.L.Link.left c.args.link.now) _)

pub returns-in_default-new-clause-served : goal.returns-in_default-new-clause-served
returns-in_default-new-clause-served g c =
    served_walks end.Memory _ _ _ (served_never _ _ (g.L.Link.left c.args.link.now) _)

pub returns-in-Some-clause-served : goal.returns-in-Some-clause-served
returns-in-Some-clause-served g c =
    let few : c.loop-count._count < 1000000 = omega arith in
    served_walks _ _ _ _ (served_to_end _ _ _ _ _ _ few c.loop-count.invariant.served
    (rw c.in-Ok.ensures at c.in-Some.ensures.ended))

pub returns-in-Some-clause-book : goal.returns-in-Some-clause-book
returns-in-Some-clause-book g c = grown_on _ _ _ c.loop-count.invariant.book c.in-Some.ensures.book

pub returns-clause-served : goal.returns-clause-served
returns-clause-served g c =
    let full : c.loop-count._count ≡ 1000000 = omega arith in
    served_walks end.Limit _ _ _ (served_most _ _ _ _ _ _ _ full c.loop-count.invariant.served)

pub loop-count-preserved : goal.loop-count-preserved
loop-count-preserved g c =
    let next = c.in_default-serve_next.ensures in
    let before = c.loop-count.invariant in
    record {
      served = served_more _ _ _ _ _ before.served (rw c.in-Ok.ensures at (next.on refl));
      reads = next.reads ∙ before.reads;
      writes = next.writes ∙ before.writes;
      book = grown_on _ _ _ before.book next.book;
      backed = λ was. next.backed (before.backed was);
      clean = λ is. before.clean (next.clean is);
    }

pub loop-count-init : goal.loop-count-init
loop-count-init g c = record {
  served = served_none _ _ (g.L.Link.left c.args.link.now) _ _ c.in-Ok-new.ensures;
  reads = refl;
  writes = refl;
  book = grown_itself _;
  backed = λ was. was;
  clean = λ is. is;
}
