-- The PID among the network's prefixes.
use Rattle.std.proofs.Common.{ap, ◌∙◌, subst, sym}
use Rattle.std.specs.Prelude.{ℕ, List, Option}
use Rattle.alto_addr.specs.declared.prefix.Prefix.{Prefix}
use Rattle.alto_rules.specs.Draft.{HasOwner}
use Rattle.alto_rules.specs.Owners.{owner_among}
use Rattle.alto_rules.proofs.ToldLemmas.{among_owner}
use Rattle.alto_rules.proofs.owners.owner_before.Goals as goal

pub returns : goal.returns
returns g c =
    subst (λ (owner : Option (List ℕ)). HasOwner (g.R.RowStore.rows c.args.rows.now) c.args.net.now
    c.args.prefix.now owner)
    (sym (c.owner_among.ensures ∙ ap (λ (told : List (Prefix × List ℕ)). owner_among told c.args.prefix.now)
    c.in_ok-prefixes_of.ensures))
    (among_owner (g.R.RowStore.rows c.args.rows.now) c.args.net.now c.args.prefix.now c.requires)
