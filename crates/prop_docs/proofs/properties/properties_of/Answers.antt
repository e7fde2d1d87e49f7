use Rattle.std.proofs.Common.{List, ap, sym, subst, ◌∙◌}
use Rattle.std.proofs.lemmas.Result.{IfOk-weaker}
use Rattle.std.specs.List.Sorted.{IsStrictlySortedBy}
use Rattle.alto_rows.specs.Order.{name_cmp}
use Rattle.prop_docs.specs.Properties.{NamedValue, is_found, names_of}
use Rattle.prop_docs.proofs.FitLemmas.{good_fit}
use Rattle.prop_docs.proofs.GroupLemmas.{props_found, props_none, props_rise}
use Rattle.prop_docs.proofs.properties.properties_of.Goals as goal

pub returns-in-Some-clause-all : goal.returns-in-Some-clause-all
returns-in-Some-clause-all g c =
    let rows = g.R.RowStore.rows c.args.rows.now in
    IfOk-weaker c.properties_owned.result _ _
    (λ properties is.
    is
    ∙ props_found c.args.net.now c.args.text.now c.in-Some.entity rows (good_fit rows c.requires)
    (λ other fits. c.in_ok-entity.ensures other fits ∙ ap (λ found. is_found found other) c.in-Some.is))
    c.properties_owned.ensures

pub returns-in-Some-clause-rise : goal.returns-in-Some-clause-rise
returns-in-Some-clause-rise g c =
    IfOk-weaker c.properties_owned.result _ _
    (λ properties is.
    subst (λ (props : List NamedValue). IsStrictlySortedBy name_cmp (names_of props)) (sym is)
    (props_rise c.args.net.now c.in-Some.entity (g.R.RowStore.rows c.args.rows.now) c.requires.sorted))
    c.properties_owned.ensures

pub returns-in-None-clause-all : goal.returns-in-None-clause-all
returns-in-None-clause-all g c =
    let rows = g.R.RowStore.rows c.args.rows.now in
    c.new.ensures.items
    ∙ sym
    (props_none c.args.net.now c.args.text.now rows (good_fit rows c.requires)
    (λ other fits. c.in_ok-entity.ensures other fits ∙ ap (λ found. is_found found other) c.in-None.is))

pub returns-in-None-clause-rise : goal.returns-in-None-clause-rise
unfolding IsStrictlySortedBy
returns-in-None-clause-rise g c = rw c.new.ensures.items tt
