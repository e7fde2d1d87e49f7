use Rattle.std.proofs.Common.{◌∙◌, ap}
use Rattle.alto_keeper.specs.Stored.{faults_closed}
use Rattle.alto_files.proofs.file_vault.FileVaultVault.close.Goals as goal

pub returns-clause-counted : goal.returns-clause-counted
returns-clause-counted c =
    c.count_closed.ensures ∙ ap (λ counted. faults_closed counted c.args.self.now.faults) c.faults.ensures
