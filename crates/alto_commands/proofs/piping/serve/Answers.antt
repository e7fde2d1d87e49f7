use Rattle.std.proofs.Common.{[], refl}
use Rattle.alto_commands.proofs.PipeLemmas.{new_office, served_from}
use Rattle.alto_commands.proofs.piping.serve.Goals as goal

pub returns-clause-served : goal.returns-clause-served
returns-clause-served g c =
    let new = c.new-office.ensures in
    let office = c.serve_conn-end.new.office in
    record {
      known = record {
        seen = office.desk.ledger.book;
        looks = office.looks;
        waits = office.waits;
        faults = office.tally.count;
        looked_at = [];
      };
      served =
          served_from c.args.desk.ledger.book _ _ _ _ _ _ _ _ _
          (new_office _ _ _ _ _ (rw new.desk refl) new.looks new.waits new.tally) c.serve_conn-end.ensures.served;
      kept = λ clean backed.
          let back = c.serve_conn-end.ensures.backed (λ _. rw new.desk backed) in
          rw (c.into_keeper.ensures, c.into_desk.ensures)
          (back (rw (c.into_keeper.ensures, c.into_desk.ensures) at clean));
    }
