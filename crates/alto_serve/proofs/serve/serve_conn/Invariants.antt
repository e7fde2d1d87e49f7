use Rattle.std.proofs.Common.{◌≡◌}
use Rattle.alto_answers.specs.Answers.{client_of}
use Rattle.alto_http.specs.Link.{followed_by}
use Rattle.alto_serve.specs.Connections.{state}
use Rattle.alto_serve.specs.Events.{IsGrown}
use Rattle.alto_serve.specs.Steps.{Becomes, HasServed}
use Rattle.alto_serve.specs.Turns.{setting_of}
use Rattle.alto_serve.proofs.serve.serve_conn.Given as goal

-- as many requests had their turns as the loop has gone round; no fault was counted; the book has only grown, and what
-- is kept stands for it where it did, and was clean where it is
abbrev pub invariant-loop-count : goal.invariant-loop-count
invariant-loop-count g l =
    let setting = setting_of (client_of l.fn.side l.fn.peer) (g.C.Clock.tells l.fn.clock) g.F.Looks.alone
    l.fn.most_waits in
    record {
      served : Becomes setting (HasServed setting l._count)
          (state (g.F.Looks.known l.fn.office) (g.L.Link.left l.fn.link) (g.L.Link.out l.fn.link))
          (state (g.F.Looks.known l.office) (followed_by l.intake (g.L.Link.left l.link)) (g.L.Link.out l.link));
      reads : g.L.Link.failed_reads l.link ≡ g.L.Link.failed_reads l.fn.link;
      writes : g.L.Link.failed_writes l.link ≡ g.L.Link.failed_writes l.fn.link;
      book : IsGrown (g.F.Looks.known l.office).seen (g.F.Looks.known l.fn.office).seen;
      backed : g.F.Looks.is_backed l.fn.office → g.F.Looks.is_backed l.office;
      clean : g.F.Looks.is_clean l.office → g.F.Looks.is_clean l.fn.office;
    }
