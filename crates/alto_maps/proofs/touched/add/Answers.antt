use Rattle.std.proofs.Common.{◌∙◌, ap, ap₂, nat_cmp, rules}
use Rattle.std.specs.BTreeMap.{insert_entry}
use Rattle.std.specs.Cmp.Lexicographic.{slice_cmp}
use Rattle.alto_maps.specs.Touched.{with_option}
use Rattle.alto_maps.proofs.TouchedLemmas.{touched_more, touched_same}
use Rattle.alto_maps.proofs.touched.add.Goals as goal

pub returns-in_ok-insert-in-Some : goal.returns-in_ok-insert-in-Some
returns-in_ok-insert-in-Some c = λ places so_far.
    touched_more places c.args.place.now c.args.groups.now.entries _ c.insert.new.self.entries c.in-Some.group.now
    c.in_ok-members-in-Some.members
    so_far (search rules) (c.in_ok-members-in-Some.ensures ∙ ap₂ with_option c.take_members-members.ensures.members
    c.member_of.ensures)
    c.take_members-members.ensures.others
    (c.in_ok-insert-in-Some.ensures.entries
    ∙ ap (λ g. insert_entry (slice_cmp nat_cmp) c.take_members-members.new.groups.entries g
    c.in_ok-members-in-Some.members) c.in_ok-clone-in-Some.ensures)

pub returns-in-None : goal.returns-in-None
returns-in-None c = λ places so_far. so_far ∙ touched_same places c.args.place.now (search rules)
