use Rattle.std.proofs.Common.{Some, None, sym}
use Rattle.json_tree.proofs.Lookups.{one_name}
use Rattle.json_patch.proofs.MemberLemmas.{taken_others, taken_value}
use Rattle.json_patch.proofs.merging.take.Goals as goal

pub returns-in_err-clone-in-None-clause-others : goal.returns-in_err-clone-in-None-clause-others
returns-in_err-clone-in-None-clause-others c = taken_others c.args.members.now.entries c.remove_entry.new.self.entries
    c.args.name.now c.requires c.remove_entry.ensures.entries

pub returns-in-Some-clause-name : goal.returns-in-Some-clause-name
returns-in-Some-clause-name c = sym (one_name c.args.name.now c.in-Some.taken.0 c.in-Some.ensures.same_key)

pub returns-in-Some-clause-value : goal.returns-in-Some-clause-value
returns-in-Some-clause-value c = taken_value c.args.members.now.entries c.args.name.now (Some c.in-Some.taken.1)
    c.in-Some.ensures.value

pub returns-in-Some-clause-others : goal.returns-in-Some-clause-others
returns-in-Some-clause-others c = taken_others c.args.members.now.entries c.remove_entry.new.self.entries
    c.args.name.now c.requires c.remove_entry.ensures.entries

pub returns-in_ok-clone-in-None-clause-value : goal.returns-in_ok-clone-in-None-clause-value
returns-in_ok-clone-in-None-clause-value c =
    taken_value c.args.members.now.entries c.args.name.now None c.in-None.ensures.value

pub returns-in_ok-clone-in-None-clause-others : goal.returns-in_ok-clone-in-None-clause-others
returns-in_ok-clone-in-None-clause-others c = taken_others c.args.members.now.entries c.remove_entry.new.self.entries
    c.args.name.now c.requires c.remove_entry.ensures.entries
