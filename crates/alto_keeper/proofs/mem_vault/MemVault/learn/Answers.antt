-- The path is there with nothing.
use Rattle.std.proofs.Common.{subst, sym, ◌∙◌, ap, ℕ, List, IsTrue}
use Rattle.alto_keeper.specs.MemVault.{MemVaultData, held_at, knows}
use Rattle.alto_keeper.specs.Stored.{StoredData}
use Rattle.alto_keeper.proofs.VaultLemmas.{Puts, learned, remembered}
use Rattle.alto_keeper.proofs.mem_vault.MemVault.learn.Goals as goal

pub returns-clause-remembered : goal.returns-clause-remembered
returns-clause-remembered c = λ other known.
    remembered c.args.path.now c.self.inside.held c.insert.new.self c.empty.result
    (subst (λ (path : List ℕ). Puts path c.self.inside.held c.insert.new.self c.empty.result) c.in_ok-key.ensures.ok
    c.in_ok-insert.ensures.updates) other
    (subst (λ (vault : MemVaultData). IsTrue (knows vault other)) (sym c.self.view_is) known)

pub returns-clause-stays : goal.returns-clause-stays
returns-clause-stays c = λ other.
    learned c.args.path.now c.self.inside.held c.insert.new.self (sym c.contains_key.ensures ∙ c.if-contains_key.false)
    (subst (λ (stored : StoredData). Puts c.args.path.now c.self.inside.held c.insert.new.self stored) c.empty.ensures
    (subst (λ (path : List ℕ). Puts path c.self.inside.held c.insert.new.self c.empty.result) c.in_ok-key.ensures.ok
    c.in_ok-insert.ensures.updates)) other
    ∙ ap (λ (vault : MemVaultData). held_at vault other) c.self.view_is
