use Rattle.std.proofs.Common.{◌≡◌, [], ◌∷◌, ◌++◌, sym, ap, ◌∙◌, subst, append_assoc, nat_cmp, rules}
use Rattle.std.specs.Cmp.Lexicographic.{slice_cmp}
use Rattle.std.specs.List.Sorted.{IsStrictlySortedBy}
use Rattle.std.specs.Map.{keys_of}
use Rattle.json_tree.specs.Document.{with_member}
use Rattle.json_tree.proofs.Objects.{Entry, put_last, entries_insert}
use Rattle.json_tree.proofs.copying.+copy.Goals as goal

pub copy_members-loop-name-preserved : goal.copy_members-loop-name-preserved
unfolding with_member
copy_members-loop-name-preserved t c =
    let l = c.loop-name in
    let done = l.invariant.0 in
    let e : Entry = (c.in-Some.name.now, c.in-Some.tree.now) in
    let left = c.next.new.self in
    let all : c.args.members.now.entries ≡ done ++ e ∷ left =
    l.invariant.1 ∙ ap (λ es. done ++ es) c.in-Some.ensures.steps in
    let last = put_last done e left (subst (λ es. IsStrictlySortedBy (slice_cmp nat_cmp) (keys_of es)) all
    c.iter-name-items.ensures.ordered) in
    let named : c.in_ok-name.name ≡ e.0 = search rules in
    let put_in = entries_insert l.copies.entries c.insert.new.self.entries c.in_ok-name.name c.in_ok-copy.field-0
    c.in_ok-insert.ensures.entries in (
      done ++ e ∷ [],
      all ∙ sym (append_assoc done (e ∷ []) left),
      put_in ∙ rw (named, c.in_ok-copy.ensures, l.invariant.2) last,
    )
