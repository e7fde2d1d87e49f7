use Rattle.std.proofs.Common.{◌≡◌, Ok, Some, option_map, sym, ap, ◌∙◌}
use Rattle.std.proofs.lemmas.Result.{err_from_is_err_and}
use Rattle.serde_json.specs.Find.{get_member}
use Rattle.json_tree.specs.Tree.{data_of, entries_data}
use Rattle.json_tree.proofs.Trees.{data_of_object}
use Rattle.json_patch.specs.Operations.{operation_of}
use Rattle.json_patch.proofs.MemberLemmas.{data_of-lookup, taken_others}
use Rattle.json_patch.proofs.OperationLemmas.{member_changed, member_refused}
use Rattle.json_patch.proofs.operations.applying.+changed_at.Goals as goal

pub changed_in-returns-in_err-new-clause-err : goal.changed_in-returns-in_err-new-clause-err
changed_in-returns-in_err-new-clause-err t c =
    let name = c.args.name.now in
    let ms = entries_data c.args.members.entries in
    let found : option_map data_of c.remove-old.result ≡ get_member name ms =
    ap (option_map data_of) c.remove-old.ensures.value ∙ data_of-lookup name c.args.members.entries in
    let p = err_from_is_err_and c.from_residual.result c.from_residual.ensures.1 in
    rw (p.1, p.2) (λ other. member_refused c.args.k name c.args.path.now (operation_of c.args.op.now).action
    (option_map data_of c.remove-old.result) ms _ found (c.in_err-new.ensures.err other))

pub changed_in-returns-clause-ok : goal.changed_in-returns-clause-ok
changed_in-returns-clause-ok t c =
    let name = c.args.name.now in
    let ms = entries_data c.args.members.entries in
    let found : option_map data_of c.remove-old.result ≡ get_member name ms =
    ap (option_map data_of) c.remove-old.ensures.value ∙ data_of-lookup name c.args.members.entries in
    member_changed name c.args.path.now (operation_of c.args.op.now).action (option_map data_of c.remove-old.result)
    c.in_ok-new.new ms
    (entries_data c.remove-old.new.self.entries) (entries_data c.put.new.members.entries) c.requires found
    (taken_others c.args.members.entries c.remove-old.new.self.entries name c.requires c.remove-old.ensures.entries)
    c.in_ok-new.ensures.ok c.in_ok-put.ensures
    ∙ ap (λ d. Ok (Some d)) (sym (data_of_object c.put.new.members))
