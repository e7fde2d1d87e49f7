use Rattle.std.proofs.Common.{◌∙◌, ap}
use Rattle.std.proofs.lemmas.Result.{on_err_weaker}
use Rattle.alto_desk.specs.Records.{Backs}
use Rattle.alto_keeper.specs.Stored.{StoredData, faults_closed}
use Rattle.alto_commands.specs.Import.{faults_after}
use Rattle.alto_commands.specs.Stores.{Finds, open_report}
use Rattle.alto_commands.proofs.ImportLemmas.{closed_faults, imports_none, imports_so}
use Rattle.alto_commands.proofs.ReportLemmas.{no_read_fault}
use Rattle.alto_commands.proofs.StoreLemmas.{finds, no_read_unopened, stays_for_book}
use Rattle.alto_commands.proofs.importing.import.Goals as goal

pub returns-in-Err-clause-imported : goal.returns-in-Err-clause-imported
returns-in-Err-clause-imported g c =
    imports_none _ _ _ _ _ _ _ _ _ _ _ c.in-Err.fault c.in-Err.ensures.refused
    c.say_unopened.ensures.told c.in-Err.ensures.stays
    c.say_unopened.ensures.left

pub returns-in-Err-clause-faults : goal.returns-in-Err-clause-faults
returns-in-Err-clause-faults g c = c.in-Err.ensures.counted ∙ c.say_unopened.ensures.faults _

pub returns-in-Err-clause-reads : goal.returns-in-Err-clause-reads
returns-in-Err-clause-reads g c =
    c.say_unopened.ensures.reads
    ∙ no_read_fault (open_report c.in-Err.fault) _ _ _ (no_read_unopened c.in-Err.fault) c.say_unopened.ensures.told _

pub returns-clause-imported : goal.returns-clause-imported
returns-clause-imported g c =
    let took = c.take_in-answer.ensures in
    let book = c.in-Ok.desk.ledger.book in
    let later = c.take_in-answer.new.desk.ledger.book in
    let clean : Type 0 = g.V.Vault.is_clean c.close.new.self in
    let held : StoredData → Type 0 = g.V.Vault.holds c.args.vault.now c.args.store.now in
    let held' : StoredData → Type 0 = g.V.Vault.holds c.close.new.self c.args.store.now in
    let found : Finds clean held book = finds clean held book (λ is stored was.
    let both = c.close.ensures.clean is in
    (c.in-Ok.ensures.opened both.0 (took.clean (rw c.into_keeper.ensures at both.1)) stored was).1) in
    let kept : clean → (stored : StoredData) → held stored → Backs held' later = λ is stored was.
    let both = c.close.ensures.clean is in
    let opened = c.in-Ok.ensures.opened both.0 (took.clean (rw c.into_keeper.ensures at both.1)) stored was in
    let backs = took.kept (rw c.into_keeper.ensures at both.1) (stored, opened.0, opened.1) in
    let stays = c.close.ensures.kept is stored (c.in-Ok.ensures.stays both.0 stored was) in
    (backs.0, stays backs.0 (rw c.into_keeper.ensures backs.1), backs.2) in
    imports_so _ _ _ _ _ _ _ _ _ _ _
    (record {
      book = book;
      answer = c.take_in-answer.result;
      later = later;
      found = found;
      taken = rw c.say_answer.ensures.left took.taken;
      told = rw (← took.out) c.say_answer.ensures.told;
      kept = kept;
      refused =
          on_err_weaker c.take_in-answer.result
          (λ same. stays_for_book clean held held' book later same found kept) took.refused;
    })

pub returns-clause-faults : goal.returns-clause-faults
returns-clause-faults g c =
    let counted = g.V.Keeper.Keeper.faults c.into_keeper.result in
    let took = c.take_in-answer.ensures in
    c.close.ensures.counted
    ∙ (ap (faults_closed counted) c.in-Ok.ensures.same
    ∙ closed_faults c.take_in-answer.result c.say_answer.result counted _
    (rw c.into_keeper.ensures (took.faults ∙ ap (faults_after c.take_in-answer.result) c.in-Ok.ensures.fresh))
    c.say_answer.ensures.faults)

pub returns-clause-reads : goal.returns-clause-reads
returns-clause-reads g c =
    c.say_answer.ensures.reads ∙ (c.take_in-answer.ensures.reads ∙ c.say_answer.ensures.counted _)
