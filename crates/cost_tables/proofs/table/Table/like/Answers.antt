-- Each of the three is among what was there and what is put.
use Rattle.std.proofs.Common.{◌≡◌, ◌∙◌, ap, ap₂, subst, sym, Bor}
use Rattle.std.specs.Prelude.{◌-◌, Option, Some, None, IfSome, length, option_map}
use Rattle.cost_tables.specs.Lists.{HasNumber, Listed}
use Rattle.cost_tables.specs.Renewed.{name_of, put}
use Rattle.cost_tables.specs.Tables.{Name}
use Rattle.cost_tables.proofs.ListLemmas.{all_found, all_left, all_put_at}
use Rattle.cost_tables.proofs.RenewedLemmas.{item_of-sources}
use Rattle.cost_tables.proofs.table.Table.like.Goals as goal
use Rattle.shared_list.specs.Order.{item_of}
use Rattle.std.specs.BTreeMap.{is_at}
use Rattle.std.specs.Map.{lookup}
use Rattle.alto_rows.specs.Order.{name_cmp}

if_now : (P : Name × Listed → Type 0) (found : Option (Bor (Name × Listed)))
    → IfSome (option_map (λ item. item.now) found) P → IfSome found (λ from. P from.now)
if_now P None holds = tt
if_now P (Some from) holds = holds

pub returns-then-count : goal.returns-then-count
returns-then-count c names_of next each =
    let sources = c.args.self.now in
    let q = c.args.source.now in
    let own = c.in-Some.own.now in
    let found : item_of name_of sources q ≡ Some own =
    sym (c.find.ensures ∙ ap₂ (item_of name_of) c.self.view_is c.as_bytes.ensures.bytes)
    ∙ ap (option_map (λ item. item.now)) c.in-Some.is in
    let there : lookup (is_at (name_cmp q)) sources ≡ Some own.1 =
    sym (item_of-sources q sources) ∙ ap (option_map (λ (from : Name × Listed). from.1)) found in
    all_found (HasNumber names_of next) (is_at (name_cmp q)) sources own.1
    (all_left (λ from. HasNumber names_of next from.1) sources (put c.args.changes.now) each) there

pub returns-in-Some-last : goal.returns-in-Some-last
returns-in-Some-last c names_of next each =
    let P : Name × Listed → Type 0 = λ from. HasNumber names_of next from.1 in
    if_now P c.item.result
    (subst (λ own. IfSome own P) (sym c.item.ensures)
    (all_put_at P c.args.self.now c.args.changes.now (length c.args.changes.now - 1) c.in-Some-last.change.now each
    (sym c.in-Some-last.ensures.value)))
