-- Items that aren't before the name are followed by items behind it.
use Rattle.std.proofs.Common.{◌≡◌, ◌++◌, ◌∷◌, [], ap, map, sym, ◌∙◌, append-nil, append_assoc, subst}
use Rattle.std.specs.Arc.{arc_value}
use Rattle.std.specs.declared.cmp.Ordering.TheVariants.{Less, Equal, Greater}
use Rattle.shared_list.specs.Order.{InOrder, before, behind, name_cmp}
use Rattle.shared_list.proofs.OrderLemmas.{AreBefore, from_equal, from_greater, passed-before, passed-behind}
use Rattle.shared_list.proofs.OrderLemmas.{rest_in_order}
use Rattle.shared_list.proofs.rest.share_items_before.Goals as goal

pub returns-in-Equal-clause-shared : goal.returns-in-Equal-clause-shared
returns-in-Equal-clause-shared g c =
    let name = g.T.Named.name in
    let q = c.args.name.now in
    let first = arc_value c.in-Some.item.now in
    let rest = map arc_value c.in-Some.behind.now in
    let whole : map arc_value c.loop-item.left.now ≡ first ∷ rest =
    ap (map arc_value) c.in-Some.ensures.cases.0 in
    let order : InOrder name (first ∷ rest) = subst (InOrder name) whole c.loop-item.invariant.order in
    let is : name_cmp (name first) q ≡ Equal =
    rw (c.name.ensures, c.deref.ensures) at (sym c.cmp.ensures ∙ c.in-Equal.is) in
    let stop = from_equal name q first rest order is in
    sym (append-nil c.loop-item.shared)
    ∙ (ap (λ more. c.loop-item.shared ++ more) (sym (ap (before name q) whole ∙ stop.0)) ∙ c.loop-item.invariant.shared)

pub returns-in-Equal-clause-left : goal.returns-in-Equal-clause-left
returns-in-Equal-clause-left g c =
    let name = g.T.Named.name in
    let q = c.args.name.now in
    let first = arc_value c.in-Some.item.now in
    let rest = map arc_value c.in-Some.behind.now in
    let whole : map arc_value c.loop-item.left.now ≡ first ∷ rest =
    ap (map arc_value) c.in-Some.ensures.cases.0 in
    let order : InOrder name (first ∷ rest) = subst (InOrder name) whole c.loop-item.invariant.order in
    let is : name_cmp (name first) q ≡ Equal =
    rw (c.name.ensures, c.deref.ensures) at (sym c.cmp.ensures ∙ c.in-Equal.is) in
    let stop = from_equal name q first rest order is in
    sym (ap (behind name q) whole ∙ stop.1) ∙ c.loop-item.invariant.left

pub returns-in-Greater-clause-shared : goal.returns-in-Greater-clause-shared
returns-in-Greater-clause-shared g c =
    let name = g.T.Named.name in
    let q = c.args.name.now in
    let first = arc_value c.in-Some.item.now in
    let rest = map arc_value c.in-Some.behind.now in
    let whole : map arc_value c.loop-item.left.now ≡ first ∷ rest =
    ap (map arc_value) c.in-Some.ensures.cases.0 in
    let order : InOrder name (first ∷ rest) = subst (InOrder name) whole c.loop-item.invariant.order in
    let is : name_cmp (name first) q ≡ Greater =
    rw (c.name.ensures, c.deref.ensures) at (sym c.cmp.ensures ∙ c.in-Greater.is) in
    let stop = from_greater name q first rest order is in
    sym (append-nil c.loop-item.shared)
    ∙ (ap (λ more. c.loop-item.shared ++ more) (sym (ap (before name q) whole ∙ stop.0)) ∙ c.loop-item.invariant.shared)

pub returns-in-Greater-clause-left : goal.returns-in-Greater-clause-left
returns-in-Greater-clause-left g c =
    let name = g.T.Named.name in
    let q = c.args.name.now in
    let first = arc_value c.in-Some.item.now in
    let rest = map arc_value c.in-Some.behind.now in
    let whole : map arc_value c.loop-item.left.now ≡ first ∷ rest =
    ap (map arc_value) c.in-Some.ensures.cases.0 in
    let order : InOrder name (first ∷ rest) = subst (InOrder name) whole c.loop-item.invariant.order in
    let is : name_cmp (name first) q ≡ Greater =
    rw (c.name.ensures, c.deref.ensures) at (sym c.cmp.ensures ∙ c.in-Greater.is) in
    let stop = from_greater name q first rest order is in
    whole ∙ (sym (ap (behind name q) whole ∙ stop.1) ∙ c.loop-item.invariant.left)

pub loop-item-preserved : goal.loop-item-preserved
loop-item-preserved g c =
    let name = g.T.Named.name in
    let q = c.args.name.now in
    let first = arc_value c.in-Some.item.now in
    let rest = map arc_value c.in-Some.behind.now in
    let whole : map arc_value c.loop-item.left.now ≡ first ∷ rest =
    ap (map arc_value) c.in-Some.ensures.cases.0 in
    let order : InOrder name (first ∷ rest) = subst (InOrder name) whole c.loop-item.invariant.order in
    let is : name_cmp (name first) q ≡ Less =
    rw (c.name.ensures, c.deref.ensures) at (sym c.cmp.ensures ∙ c.in-Less.is) in
    let passed : AreBefore name q (first ∷ []) = (is, tt) in
    let shared : c.push.new.self ≡ c.loop-item.shared ++ first ∷ [] =
    rw c.in_ok-try_clone-in-Less.ensures at c.in_ok-push-in-Less.ensures in
    record {
      shared =
          ap (λ items. items ++ before name q rest) shared
          ∙ (append_assoc c.loop-item.shared (first ∷ []) (before name q rest)
          ∙ (ap (λ items. c.loop-item.shared ++ items)
          (sym (ap (before name q) whole ∙ passed-before name q (first ∷ []) rest passed))
          ∙ c.loop-item.invariant.shared));
      left = sym (ap (behind name q) whole ∙ passed-behind name q (first ∷ []) rest passed)
          ∙ c.loop-item.invariant.left;
      order = rest_in_order name first rest order;
    }
