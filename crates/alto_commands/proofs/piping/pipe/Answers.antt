use Rattle.std.proofs.Common.{◌∙◌, ap}
use Rattle.alto_keeper.specs.Stored.{faults_closed}
use Rattle.alto_commands.specs.Stores.{open_report}
use Rattle.alto_commands.proofs.PipeLemmas.{pipes_none, pipes_so}
use Rattle.alto_commands.proofs.ReportLemmas.{no_read_fault}
use Rattle.alto_commands.proofs.StoreLemmas.{finds, no_read_unopened}
use Rattle.alto_commands.proofs.piping.pipe.Goals as goal

pub returns-in-Err-clause-piped : goal.returns-in-Err-clause-piped
returns-in-Err-clause-piped g c =
    pipes_none _ _ _ _ _ _ _ _ _ _ _ _ c.in-Err.fault c.in-Err.ensures.refused
    c.say_unopened.ensures.told c.in-Err.ensures.stays
    (c.in-Err.ensures.counted ∙ c.say_unopened.ensures.faults _) c.say_unopened.ensures.left

pub returns-in-Err-clause-reads : goal.returns-in-Err-clause-reads
returns-in-Err-clause-reads g c =
    c.say_unopened.ensures.reads
    ∙ no_read_fault (open_report c.in-Err.fault) _ _ _ (no_read_unopened c.in-Err.fault) c.say_unopened.ensures.told _

pub returns-clause-piped : goal.returns-clause-piped
returns-clause-piped g c =
    let served = c.serve-end.ensures.served in
    pipes_so _ _ _ _ _ _ _ _ _ _ _ _
    (record {
      book = c.in-Ok.desk.ledger.book;
      ended = c.serve-end.result.0;
      known = served.known;
      status = c.status_of.ensures;
      found = finds _ _ _ (λ clean stored was.
          let both = c.close.ensures.clean clean in
          (c.in-Ok.ensures.opened both.0 (c.serve-end.ensures.clean both.1) stored was).1);
      served = served.served;
      kept = λ clean stored was.
          let both = c.close.ensures.clean clean in
          let opened = c.in-Ok.ensures.opened both.0 (c.serve-end.ensures.clean both.1) stored was in
          let backs = served.kept both.1 (stored, opened.0, opened.1) in (
            backs.0,
            c.close.ensures.kept clean stored
                (c.in-Ok.ensures.stays both.0 stored was) backs.0 backs.1,
            backs.2,
          );
      counted = (
        g.V.Keeper.Keeper.faults c.serve-end.result.1,
        c.close.ensures.counted ∙ ap
            (faults_closed (g.V.Keeper.Keeper.faults c.serve-end.result.1)) c.in-Ok.ensures.same,
      );
    })
