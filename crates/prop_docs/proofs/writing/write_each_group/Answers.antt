use Rattle.std.proofs.Common.{◌≡◌, refl, [], ap, sym, ◌∙◌, ◌++◌, rules}
use Rattle.json.specs.Tree.{members_tokens}
use Rattle.serde_json.specs.Written.{members_outline}
use Rattle.prop_docs.specs.PropertyMap.{entities_of}
use Rattle.prop_docs.proofs.WritingLemmas.{groups_in_order, groups_stand}
use Rattle.prop_docs.proofs.writing.write_each_group.Goals as goal

pub loop-text-init : goal.loop-text-init
loop-text-init g c =
    let net = c.args.net.now in
    let rows = g.R.RowStore.rows c.args.rows.now in
    let gives : c.into_iter-text-iterator.result ≡ c.in_ok-text-items.text-items.keys =
    c.into_iter-text-iterator.ensures.into_iter_gives.0 in
    let all : c.into_iter-text-iterator.result ≡ entities_of rows net = gives ∙ c.in_ok-text-items.ensures in
    record {
      before = refl;
      tokens = ap (λ texts. c.args.out.now.tokens ++ members_tokens (members_outline (groups_in_order rows net texts)))
          all;
    }

pub returns : goal.returns
returns g c =
    let net = c.args.net.now in
    let rows = g.R.RowStore.rows c.args.rows.now in
    let none : c.loop-text.text-iterator ≡ [] = search rules in
    let all = c.loop-text.invariant in
    record {
      tokens = rw none at all.tokens ∙ ap (λ ms. c.args.out.now.tokens ++ members_tokens (members_outline ms))
          (sym (groups_stand rows net));
      before = all.before;
    }
