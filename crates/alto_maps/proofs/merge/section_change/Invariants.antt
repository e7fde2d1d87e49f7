use Rattle.std.proofs.Common.{◌≡◌, take, map}
use Rattle.json_tree.specs.Document.{members_of}
use Rattle.json_tree.specs.Members.{members_data}
use Rattle.alto_maps.specs.MergeForm.{change_of}
use Rattle.alto_maps.proofs.merge.section_change.Given as goal

abbrev pub invariant-loop-touched : goal.invariant-loop-touched
invariant-loop-touched g l =
    members_data l.changes ≡ members_of (map (λ t. (t.0, change_of (g.M.MapSource.face l.after) t.0 t.1))
    (take l.touched-index l.groups))
