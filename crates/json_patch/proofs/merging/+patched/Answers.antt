use Rattle.std.proofs.Common.{◌≡◌, true, false, sym, ap, ◌∙◌}
use Rattle.json_tree.specs.Tree.{data_of, entries_data}
use Rattle.json_tree.proofs.Objects.{entries_insert}
use Rattle.json_tree.proofs.OrderLemmas.{AreInOrder-entries_data}
use Rattle.json_patch.specs.Merge.{is_null, patched, value_or_null}
use Rattle.json_patch.proofs.MemberLemmas.{taken_others, with_member-without}
use Rattle.json_patch.proofs.merging.+patched.Goals as goal

pub patch_member-returns-then-is_null-clause-members : goal.patch_member-returns-then-is_null-clause-members
patch_member-returns-then-is_null-clause-members t c =
    let null : is_null (data_of c.args.change.now) ≡ true = sym c.is_null.ensures ∙ c.if-is_null.true in
    rw null (taken_others c.args.members.now.entries c.remove.new.self.entries c.args.name.now c.requires
    c.remove.ensures.entries)

pub patch_member-returns-then-is_null-clause-ordered : goal.patch_member-returns-then-is_null-clause-ordered
patch_member-returns-then-is_null-clause-ordered t c =
    AreInOrder-entries_data c.remove.new.self.entries c.remove.ensures.ordered

pub patch_member-returns-clause-members : goal.patch_member-returns-clause-members
patch_member-returns-clause-members t c =
    let before = entries_data c.args.members.now.entries in
    let name = c.args.name.now in
    let kept : is_null (data_of c.args.change.now) ≡ false = sym c.is_null.ensures ∙ c.if-is_null.false in
    let value : data_of c.in_ok-patched.field-0 ≡ patched (data_of c.args.change.now) (value_or_null name before) =
    c.in_ok-patched.ensures ∙ ap (patched (data_of c.args.change.now)) c.in_ok-name.ensures.value in
    rw kept (
    entries_insert c.take.new.members.entries c.insert.new.self.entries c.in_ok-name.name c.in_ok-patched.field-0
    c.in_ok-insert.ensures.entries
    ∙ rw (c.in_ok-name.ensures.name, value, c.take.ensures.others) (with_member-without name _ before c.requires))

pub patch_member-returns-clause-ordered : goal.patch_member-returns-clause-ordered
patch_member-returns-clause-ordered t c = AreInOrder-entries_data c.insert.new.self.entries c.insert.ensures.ordered
