use Rattle.std.proofs.Common.{◌∙◌, ap}
use Rattle.std.proofs.lemmas.Result.{on_err_weaker}
use Rattle.alto_desk.specs.Counts.{after_trim}
use Rattle.alto_desk.specs.Records.{Backs}
use Rattle.alto_keeper.specs.Stored.{StoredData, faults_closed}
use Rattle.alto_commands.specs.Stores.{Finds}
use Rattle.alto_commands.proofs.StoreLemmas.{finds, stays_for_book}
use Rattle.alto_commands.proofs.TrimLemmas.{moves_so, trim_closed, trims_none, trims_so}
use Rattle.alto_commands.proofs.trimming.trim.Goals as goal

pub returns-in-Err-clause-trimmed : goal.returns-in-Err-clause-trimmed
returns-in-Err-clause-trimmed g c =
    trims_none _ _ _ _ _ _ _ c.in-Err.fault c.in-Err.ensures.refused c.say_unopened.ensures.told c.in-Err.ensures.stays

pub returns-in-Err-clause-faults : goal.returns-in-Err-clause-faults
returns-in-Err-clause-faults g c = c.in-Err.ensures.counted ∙ c.say_unopened.ensures.faults _

pub returns-clause-trimmed : goal.returns-clause-trimmed
returns-clause-trimmed g c =
    let did = c.trim-answer.ensures in
    let book = c.in-Ok.desk.ledger.book in
    let later = c.trim-answer.new.self.ledger.book in
    let clean : Type 0 = g.V.Vault.is_clean c.close.new.self in
    let held : StoredData → Type 0 = g.V.Vault.holds c.args.vault.now c.args.store.now in
    let held' : StoredData → Type 0 = g.V.Vault.holds c.close.new.self c.args.store.now in
    let found : Finds clean held book = finds clean held book (λ is stored was.
    let both = c.close.ensures.clean is in
    (c.in-Ok.ensures.opened both.0 (did.clean (rw c.into_keeper.ensures at both.1)) stored was).1) in
    let kept : clean → (stored : StoredData) → held stored → Backs held' later = λ is stored was.
    let both = c.close.ensures.clean is in
    let opened = c.in-Ok.ensures.opened both.0 (did.clean (rw c.into_keeper.ensures at both.1)) stored was in
    let backs = did.kept (rw c.into_keeper.ensures at both.1) (stored, opened.0, opened.1) in
    let stays = c.close.ensures.kept is stored (c.in-Ok.ensures.stays both.0 stored was) in
    (backs.0, stays backs.0 (rw c.into_keeper.ensures backs.1), backs.2) in
    trims_so _ _ _ _ _ _ _
    (record {
      book = book;
      answer = c.trim-answer.result;
      later = later;
      found = found;
      moves = moves_so c.trim-answer.result c.args.keep book later did.number did.trimmed did.unchanged;
      told = c.say_trimmed.ensures.told;
      kept = kept;
      refused =
          on_err_weaker c.trim-answer.result
          (λ same. stays_for_book clean held held' book later same found kept) did.unchanged;
    })

pub returns-clause-faults : goal.returns-clause-faults
returns-clause-faults g c =
    let counted = g.V.Keeper.Keeper.faults c.into_keeper.result in
    let did = c.trim-answer.ensures in
    c.close.ensures.counted
    ∙ (ap (faults_closed counted) c.in-Ok.ensures.same
    ∙ trim_closed c.trim-answer.result c.say_trimmed.result counted _
    (rw c.into_keeper.ensures (did.faults ∙ ap (after_trim c.trim-answer.result) c.in-Ok.ensures.fresh))
    c.say_trimmed.ensures.faults)
