-- The records stand under the path, and the other paths as before.
use Rattle.std.proofs.Common.{subst, sym, ◌∙◌, ap, IsTrue, rules}
use Rattle.alto_keeper.specs.MemVault.{MemVaultData, held_at, knows}
use Rattle.alto_keeper.proofs.VaultLemmas.{apart, remembered}
use Rattle.alto_keeper.proofs.mem_vault.MemVault.put.Goals as goal

pub returns-clause-others : goal.returns-clause-others
returns-clause-others c = λ other differs.
    apart c.args.path.now c.self.inside.held (c.get_mut.follows.lender c.args.stored) c.args.stored
    ((c.get_mut.follows.holds c.args.stored).3 (search rules)) other differs
    ∙ ap (λ (vault : MemVaultData). held_at vault other) c.self.view_is

pub returns-clause-remembered : goal.returns-clause-remembered
returns-clause-remembered c = λ other known.
    remembered c.args.path.now c.self.inside.held (c.get_mut.follows.lender c.args.stored) c.args.stored
    ((c.get_mut.follows.holds c.args.stored).3 (search rules)) other
    (subst (λ (vault : MemVaultData). IsTrue (knows vault other)) (sym c.self.view_is) known)
