-- The source that is found has the name, and its costs those of the rows before the writes.
use Rattle.std.proofs.Common.{◌<◌, ◌≡◌, ◌∙◌, ap, ap₂, sym, subst, IfOk, Result, Ok, Err}
use Rattle.std.specs.Prelude.{IfSome, Option, Some, None, option_map}
use Rattle.alto_rows.specs.Order.{name_cmp}
use Rattle.alto_rows.specs.Rows.{Rows, after}
use Rattle.cost_tables.specs.Lists.{HasNumber, Listed, Numbered}
use Rattle.cost_tables.specs.Renewed.{name_of}
use Rattle.cost_tables.specs.Tables.{HasCostsOf, Name}
use Rattle.cost_tables.proofs.ListLemmas.{all_found}
use Rattle.cost_tables.proofs.RenewedLemmas.{item_looked_up, item_named}
use Rattle.cost_tables.proofs.table.Table.overwritten.Goals as goal
use Rattle.shared_list.specs.Order.{item_of}
use Rattle.std.specs.BTreeMap.{is_at}
use Rattle.std.specs.Map.{lookup}

-- what follows of a source that is told
if_told : {E : Type 0} (P Q : Name × Listed → Type 0) → ((x : Name × Listed) → P x → Q x)
    → (r : Result (Option (Name × Listed)) E)
    → IfOk r (λ found. IfSome found P) → IfOk r (λ found. IfSome found Q)
if_told P Q give (Ok (Some x)) holds = give x holds
if_told P Q give (Ok None) holds = tt
if_told P Q give (Err e) holds = tt

-- the source that was found
own_item : (c : goal.After-overwritten) → item_of name_of c.args.self.now c.args.source.now ≡ Some c.in-Some.own.now
own_item c =
    sym (c.find.ensures ∙ ap₂ (item_of name_of) c.self.view_is c.as_bytes.ensures.bytes)
    ∙ ap (option_map (λ item. item.now)) c.in-Some.is

pub returns-in-Some-clause-source : goal.returns-in-Some-clause-source
returns-in-Some-clause-source c =
    let named : c.in-Some.own.now.0 ≡ c.args.source.now =
    item_named c.args.source.now c.args.self.now c.in-Some.own.now (own_item c) in
    if_told _ _ (λ from is. is ∙ named) c.overwritten.result c.overwritten.ensures.source

pub returns-in-Some-clause-list : goal.returns-in-Some-clause-list
returns-in-Some-clause-list c =
    let q = c.args.source.now in
    let own = c.in-Some.own.now in
    let there : lookup (is_at (name_cmp q)) c.args.self.now ≡ Some own.1 =
    item_looked_up q c.args.self.now own (own_item c) in
    if_told _ _
    (λ from is names_of next each.
    let has : HasNumber names_of next own.1 =
    all_found (HasNumber names_of next) (is_at (name_cmp q)) c.args.self.now own.1 each there in
    subst (λ (list : Numbered). (list.names ≡ names_of list.number) × (list.number < next)) (sym is) has)
    c.overwritten.result c.overwritten.ensures.list

pub returns-in-Some-clause-costs : goal.returns-in-Some-clause-costs
returns-in-Some-clause-costs c =
    let net = c.args.net.now in
    let metric = c.args.metric.now in
    let q = c.args.source.now in
    let own = c.in-Some.own.now in
    let writes = c.args.writes.now in
    let named : own.0 ≡ q = item_named q c.args.self.now own (own_item c) in
    let there : lookup (is_at (name_cmp q)) c.args.self.now ≡ Some own.1 =
    item_looked_up q c.args.self.now own (own_item c) in
    if_told _ _
    (λ from told rows before came.
    let had : HasCostsOf before net metric q own.1.costs =
    subst (λ found. IfSome found (λ from. HasCostsOf before net metric q from.costs)) there (came.had q) in
    let later : HasCostsOf (after before writes) net metric own.0 from.1.costs =
    told before came.sorted (subst (λ name. HasCostsOf before net metric name own.1.costs) (sym named) had) in
    subst (λ (rows : Rows). HasCostsOf rows net metric q from.1.costs) (sym came.led)
    (subst (λ name. HasCostsOf (after before writes) net metric name from.1.costs) named later))
    c.overwritten.result c.overwritten.ensures.costs
