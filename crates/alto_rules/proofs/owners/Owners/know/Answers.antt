-- The owners of a network are filled once.
use Rattle.std.proofs.Common.{sym, ◌∙◌, subst}
use Rattle.std.proofs.lemmas.Result.{on_ok_weaker}
use Rattle.std.specs.Prelude.{List, map, ℕ}
use Rattle.alto_addr.specs.declared.prefix.Prefix.{Prefix}
use Rattle.alto_rules.specs.Owners.{HasFilled, placed}
use Rattle.alto_rules.proofs.ToldLemmas.{owners_known}
use Rattle.alto_rules.proofs.owners.Owners.know.Goals as goal

pub returns : goal.returns
returns g c =
    on_ok_weaker c.add_net.result
    (λ net later old. owners_known (g.R.RowStore.rows c.args.rows.now) later c.args.net.now c.args.self.now.of
    c.add_told.new.of c.args.self.now.known c.add_net.new.known c.requires
    (sym c.contains.ensures ∙ c.if-contains.false)
    (subst (λ (told : List (Prefix × List ℕ)). HasFilled (map (placed c.args.net.now) told) c.args.self.now.of
    c.add_told.new.of) c.in_ok-prefixes_of.ensures c.in_ok-add_told.ensures)
    net old)
    c.add_net.ensures
