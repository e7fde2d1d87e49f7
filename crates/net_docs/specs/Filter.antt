-- A network map cut to what is asked (RFC 7285, section 11.3.1.5).
use Rattle.std.specs.Prelude.{List, Bool, true, filter, map}
use Rattle.std.specs.List.{list_any}
use Rattle.serde_json.specs.Data.{Data}
use Rattle.json_tree.specs.Document.{object_of}
use Rattle.alto_rows.specs.Order.{same_name}
use Rattle.alto_rows.specs.Rows.{Rows}
use Rattle.alto_maps.specs.Shape.{Name, Face, document}
use Rattle.net_docs.specs.Ask.{NetAskData, family_name}
use Rattle.net_docs.specs.NetworkMap.{net_face, net_shape}
use Rattle.net_docs.specs.declared.ask.Family.{Family}
use Rattle.net_docs.specs.declared.ask.Pick.{Pick}
use Rattle.net_docs.specs.declared.ask.Pick.TheVariants as pick

-- a PID is asked for
abbrev pub is_picked : Pick → Name → Bool
is_picked pick.All pid = true
is_picked (pick.Only pids) pid = list_any (same_name pid) pids

-- the family of this name is asked for
abbrev pub is_asked : List Family → Name → Bool
is_asked families kind = list_any (λ one. same_name kind (family_name one)) families

-- what the filtered map shows: of the map's groups those that are asked for, and of each the families that are
abbrev pub filtered_face : NetAskData → Face → Face
filtered_face ask face =
    record face {
      groups = filter (is_picked ask.pids) face.groups;
      members = λ pid. filter (is_asked ask.families) (face.members pid);
    }

-- the group of a PID, with the families that are asked for
abbrev pub asked_group : Rows → Name → List Family → Name → Data
asked_group rows net families pid =
    object_of
    (map (λ kind. (kind, (net_face net rows).value pid kind))
    (filter (is_asked families) ((net_face net rows).members pid)))

-- the filtered network map
abbrev pub filtered_network : Rows → Name → NetAskData → Data
filtered_network rows net ask = document net_shape (filtered_face ask (net_face net rows))
