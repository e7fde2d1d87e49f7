use Rattle.std.proofs.Common.{◌≡◌, take, map, unwrap_or}
use Rattle.serde_json.specs.Data.{null}
use Rattle.json_tree.specs.Document.{members_of}
use Rattle.json_tree.specs.Members.{members_data}
use Rattle.alto_maps.specs.Shape.{member_in}
use Rattle.alto_maps.proofs.merge.members_change.Given as goal

abbrev pub invariant-loop-member : goal.invariant-loop-member
invariant-loop-member g l =
    members_data l.changes ≡ members_of
    (map (λ m. (m, unwrap_or (member_in (g.M.MapSource.face l.after) l.group m) null))
    (take l.member-index l.members))
