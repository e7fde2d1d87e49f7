-- The source that is found is the one that the look-up finds.
use Rattle.std.proofs.Common.{◌≡◌, ◌∙◌, ap, ap₂, refl, subst, Bor}
use Rattle.std.specs.Prelude.{Option, Some, None, option_map}
use Rattle.cost_tables.specs.Lists.{HaveNumbers, Listed}
use Rattle.cost_tables.specs.Renewed.{name_of}
use Rattle.cost_tables.specs.Tables.{Name}
use Rattle.cost_tables.proofs.ListLemmas.{have_numbers}
use Rattle.cost_tables.proofs.RenewedLemmas.{item_of-sources}
use Rattle.cost_tables.proofs.table.Table.from.Goals as goal
use Rattle.shared_list.specs.Order.{item_of}

-- the costs and the list of what is found
costs_found : (found : Option (Bor (Name × Listed)))
    → option_map (λ from. from.now.1) found ≡ option_map (λ from. from.1) (option_map (λ item. item.now) found)
costs_found None = refl
costs_found (Some from) = refl

pub returns : goal.returns
returns c = record {
  from =
      costs_found c.find.result
      ∙ (ap (option_map (λ (from : Name × Listed). from.1))
      (c.find.ensures ∙ ap₂ (item_of name_of) c.self.view_is c.as_bytes.ensures.value)
      ∙ item_of-sources c.args.source.now c.args.self.now);
  lists = subst HaveNumbers c.self.view_is (have_numbers c.self.inside.next c.self.inside.sources c.self.invariant);
}
