use Rattle.std.proofs.Common.{Ok, Err}
use Rattle.std.proofs.lemmas.Result.{err_from_is_err_and}
use Rattle.alto_commands.proofs.ImportLemmas.{decided_so, takes_accepted, takes_refused, takes_unmade}
use Rattle.alto_commands.proofs.importing.take_in.Goals as goal

pub returns-in_err-command-clause-taken : goal.returns-in_err-command-clause-taken
returns-in_err-command-clause-taken g c =
    let p = err_from_is_err_and c.from_residual.result c.from_residual.ensures.1 in
    rw (p.1, p.2) (takes_unmade _ _ _ _ c.in_err-command.field-0.0 _ _ c.in_err-command.ensures.unmade)

pub returns-in_err-receipt-clause-taken : goal.returns-in_err-receipt-clause-taken
returns-in_err-receipt-clause-taken g c =
    let p = err_from_is_err_and c.from_residual-in_err-receipt.result c.from_residual-in_err-receipt.ensures.1 in
    let edit = c.in_err-receipt.ensures in
    rw (p.1, p.2)
    (takes_refused _ _ _ _ _ c.in_err-receipt.field-0.0 _ _
    (record {
      import = c.in_ok-command.command;
      moment = c.now.result;
      made = c.in_ok-command.ensures.made;
      timely = c.now.ensures;
      decided = decided_so (Err c.in_err-receipt.field-0.0) _ _ _ _ edit.ok edit.accepted edit.err edit.unchanged;
    }))

pub returns-clause-taken : goal.returns-clause-taken
returns-clause-taken g c =
    let edit = c.in_ok-receipt.ensures in
    takes_accepted _ _ _ _ _ c.in_ok-receipt.receipt _ _
    (record {
      import = c.in_ok-command.command;
      moment = c.now.result;
      made = c.in_ok-command.ensures.made;
      timely = c.now.ensures;
      decided = decided_so (Ok c.in_ok-receipt.receipt) _ _ _ _ edit.ok edit.accepted edit.err edit.unchanged;
    })
