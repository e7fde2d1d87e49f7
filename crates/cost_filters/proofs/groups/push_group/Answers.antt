-- What was found makes the member of the source, where it is anything.
use Rattle.std.proofs.Common.{◌≡◌, ◌∙◌, ◌∷◌, ◌++◌, [], ap, subst, sym, append_assoc}
use Rattle.std.specs.Prelude.{true, false, Option, Some, None, cond, is_some}
use Rattle.std.specs.List.{list_any}
use Rattle.serde_json.specs.Data.{Data, object}
use Rattle.serde_json.specs.Written.{compact_text, members_text}
use Rattle.json_tree.specs.Tree.{members_in_order}
use Rattle.cost_filters.specs.Text.{PutsIfAny, found_object, shown_members}
use Rattle.cost_filters.proofs.TextLemmas.{member_put, none_put}
use Rattle.cost_filters.proofs.groups.push_group.Goals as goal

pub returns : goal.returns
returns c names are =
    let src = c.args.name.now in
    let old = c.args.out.now in
    let new = c.push_members.new.out in
    let found = c.args.pairs.now in
    let members = members_in_order (shown_members c.args.multi names found) in
    let any : list_any (λ pair. is_some pair) found ≡ true = sym c.if-not-has_pair.ensures in
    let value : Some (object members) ≡ found_object c.args.multi names found =
    ap (λ b. cond b (Some (object members)) None) (sym any) in
    let whole : new ≡ c.push_name.new.out ++ compact_text (object members) =
    c.in_ok-push_members.ensures names are
    ∙ (ap (λ bytes. bytes ++ members_text false members) c.in_ok-push.ensures
    ∙ append_assoc c.push_name.new.out (123 ∷ []) (members_text false members)) in
    subst (λ (d : Option Data). PutsIfAny src d c.args.later old true new) value
    (member_put src (object members) c.args.later old c.push_comma.new.out c.push_name.new.out new
    c.in_ok-push_comma.ensures c.in_ok-push_name.ensures whole)

pub returns-then-not-has_pair : goal.returns-then-not-has_pair
returns-then-not-has_pair c names are =
    let src = c.args.name.now in
    let old = c.args.out.now in
    let found = c.args.pairs.now in
    let members = members_in_order (shown_members c.args.multi names found) in
    let none : list_any (λ pair. is_some pair) found ≡ false = sym c.if-not-has_pair.ensures in
    let value : None ≡ found_object c.args.multi names found =
    ap (λ b. cond b (Some (object members)) None) (sym none) in
    subst (λ (d : Option Data). PutsIfAny src d c.args.later old c.args.later old) value
    (none_put src c.args.later old)
