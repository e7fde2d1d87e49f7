use Rattle.std.proofs.Common.{[], ap, subst, ◌∙◌}
use Rattle.std.specs.Arc.{arc_value}
use Rattle.logbook.specs.Pages.{Book as Name}
use Rattle.alto_book.specs.Book.{Book}
use Rattle.alto_book.specs.Legal.{IsLegal}
use Rattle.alto_versions.specs.Front.{StandsFor}
use Rattle.alto_hub.specs.History.{Reached}
use Rattle.alto_hub.specs.Rules.{head_of}
use Rattle.alto_hub.specs.Versions.{log_of}
use Rattle.alto_hub.proofs.LockLemmas.{locked_first, shown_first}
use Rattle.alto_hub.proofs.TurnLemmas.{first_kept}
use Rattle.alto_hub.proofs.hub.Hub.open.Goals as goal

pub new-requires-3-clause-rule : goal.new-requires-3-clause-rule
new-requires-3-clause-rule g c =
    let none : Name → Reached = λ name. record { name = name; log = [] } in
    let first = c.in_ok-first.ensures in (
      shown_first g.J.Naming.name g.J.Naming.opening _ _
          (first.1 ∙ (c.into_parts-head.ensures.mark ∙ ap none c.requires.name))
          (subst IsLegal c.requires.opening c.front.ensures.legal)
          (rw first.0 (subst (λ (b : Book). StandsFor (arc_value c.front.result.now) b) c.requires.opening
          c.front.ensures.stands)),
      first_kept (log_of c.in_ok-first.first),
    )

pub invariant_of-locked : goal.invariant_of-locked
invariant_of-locked g c =
    let none : Name → Reached = λ name. record { name = name; log = [] } in (
      locked_first g.J.Naming.name g.J.Naming.opening _ _ _ _
          c.requires.opening
          (subst IsLegal c.requires.opening c.front.ensures.legal)
          (c.into_parts-head.ensures.head ∙ ap head_of c.requires.name)
          (c.into_parts-head.ensures.mark ∙ ap none c.requires.name)
          (ap log_of c.in_ok-new.ensures.0 ∙ ap (λ r. r.log) c.in_ok-first.ensures.1),
      c.requires.backed,
    )
