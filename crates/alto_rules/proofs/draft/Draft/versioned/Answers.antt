-- Version rows give no prefix.
use Rattle.std.proofs.Common.{◌≡◌, refl, sym, subst, rules}
use Rattle.std.specs.Prelude.{true, List}
use Rattle.std.specs.List.{AllByRecursion}
use Rattle.alto_rows.specs.declared.write.Write.{Write}
use Rattle.alto_rules.specs.Draft.{gives_none}
use Rattle.alto_edits.specs.Versions.{sequence_writes}
use Rattle.alto_rules.proofs.DraftedLemmas.{versions_give_none}
use Rattle.alto_rules.proofs.draft.Draft.versioned.Goals as goal

pub loop-version-init : goal.loop-version-init
loop-version-init g c =
    let all : c.into_iter-version-iterator.result.rest.items ≡ sequence_writes c.args.self.rows c.args.self.writes =
    search rules in (
      subst (λ (writes : List Write). AllByRecursion (λ write. gives_none write.key ≡ true) writes) (sym all)
          (versions_give_none c.args.self.rows _),
      refl,
    )
