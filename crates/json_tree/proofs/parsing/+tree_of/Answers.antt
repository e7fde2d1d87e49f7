use Rattle.std.proofs.Common.{◌≡◌, [], ◌∷◌, ◌++◌, true, sym, ap, ◌∙◌, subst, append_assoc}
use Rattle.std.specs.List.Sorted.{IsStrictlySortedBy}
use Rattle.std.specs.Map.{keys_of}
use Rattle.std.specs.String.{string_cmp}
use Rattle.serde_json.specs.View.{view}
use Rattle.serde_json.proofs.Views.{Entry, put_last}
use Rattle.json_tree.specs.Document.{with_member}
use Rattle.json_tree.specs.Whole.{is_whole}
use Rattle.json_tree.proofs.Objects.{entries_insert}
use Rattle.json_tree.proofs.parsing.+tree_of.Goals as goal

pub members_of-loop-name-preserved : goal.members_of-loop-name-preserved
unfolding with_member
members_of-loop-name-preserved t c =
    let l = c.loop-name in
    let done = l.invariant.moved.0 in
    let e : Entry = (c.in-Some.name, c.in-Some.value) in
    let left = c.next.new.self in
    let step : l.name-iterator ≡ e ∷ left = c.in-Some.ensures.steps in
    let all : c.args.members.entries ≡ done ++ e ∷ left = l.invariant.moved.1 ∙ ap (λ es. done ++ es) step in
    let last = put_last done e left (subst (λ es. IsStrictlySortedBy string_cmp (keys_of es)) all
    c.into_iter-name-iterator.ensures.into_iter_gives.5) in
    let here : is_whole (view e.1) ≡ true = c.in_ok-tree.ensures.ok.0 in
    let put_in = entries_insert l.map.entries c.insert.new.self.entries c.new.result c.in_ok-tree.tree
    c.in_ok-insert.ensures.entries in
    record {
      moved = (
        done ++ e ∷ [],
        all ∙ sym (append_assoc done (e ∷ []) left),
        put_in ∙ rw (c.new.ensures, c.in_ok-tree.ensures.ok.1, l.invariant.moved.2) last,
      );
      whole = rw here at (rw step at l.invariant.whole);
    }
