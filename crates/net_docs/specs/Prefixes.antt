-- The prefixes of a PID as its group lists them: by family (RFC 7285, section 10.4.2), each as its text.
use Rattle.std.specs.Prelude.{List, [], ◌∷◌, ◌&&◌, Option, Some, None, filter, map, not, if◌then◌else◌}
use Rattle.std.specs.List.{filter_map}
use Rattle.std.specs.Ordering.{is_lt}
use Rattle.serde_json.specs.Data.{Data, string, Members}
use Rattle.json_tree.specs.Document.{array_of, object_of, with_member}
use Rattle.alto_addr.specs.declared.prefix.Prefix.{Prefix}
use Rattle.alto_addr.specs.Text.{prefix_text}
use Rattle.alto_rows.specs.declared.key.Key.{Key}
use Rattle.alto_rows.specs.declared.key.Key.TheVariants as key
use Rattle.alto_rows.specs.declared.value.Value.{Value}
use Rattle.alto_rows.specs.Order.{name_cmp, same_name}
use Rattle.alto_rows.specs.Rows.{Rows, has_row}
use Rattle.alto_maps.specs.Shape.{Name}
use Rattle.net_docs.specs.NetworkMap.{family, families, is_empty}

-- the PID that a row declares
abbrev pub pid_in : Key × Value → Option Name
pid_in (key.Pid net pid, v) = Some pid
pid_in _ = None

-- the prefix that a row gives a PID
abbrev pub prefix_in : Key × Value → Option Prefix
prefix_in (key.Prefix net pid prefix, v) = Some prefix
prefix_in _ = None

-- the prefix that a row gives this PID of a network
abbrev pub prefix_owned : Name → Name → Key × Value → Option Prefix
prefix_owned net pid (key.Prefix of owner prefix, v) =
    if same_name net of && same_name pid owner then Some prefix else None
prefix_owned net pid _ = None

-- the prefixes of a PID, by address and length
abbrev pub prefixes_owned : Rows → Name → Name → List Prefix
prefixes_owned rows net pid = filter_map (prefix_owned net pid) rows

-- the text of a prefix of this family
abbrev pub text_in_family : Name → Prefix → Option Data
text_in_family kind prefix =
    if same_name kind (family prefix.addr) then Some (string (prefix_text prefix.addr prefix.len)) else None

-- the texts of those of the prefixes that are of this family
abbrev pub texts_in_family : Name → List Prefix → List Data
texts_in_family kind prefixes = filter_map (text_in_family kind) prefixes

-- the group of a PID that has these prefixes: the families that it has prefixes of, each with their texts
abbrev pub group_of : List Prefix → Data
group_of prefixes =
    object_of
    (map (λ kind. (kind, array_of (texts_in_family kind prefixes)))
    (filter (λ kind. not (is_empty (texts_in_family kind prefixes))) families))

-- members with the texts of this family, where there are any
abbrev pub with_texts : Name → List Prefix → Members → Members
with_texts kind prefixes members =
    if is_empty (texts_in_family kind prefixes) then members
    else with_member kind (array_of (texts_in_family kind prefixes)) members

-- texts as one value, where there are any
abbrev pub listed : List Data → Option Data
listed [] = None
listed (text ∷ texts) = Some (array_of (text ∷ texts))

-- the PID of this name, where the network has it
abbrev pub pid_standing : Rows → Name → Name → Option Name
pid_standing rows net name = if has_row rows (key.Pid net name) then Some name else None

-- prefixes, each with the PID that it belongs to
abbrev pub Owned : Type 0
Owned = List (Prefix × Name)

-- the rest of them from the first that isn't of an earlier PID
abbrev pub from_pid : Name → Owned → Owned
from_pid pid [] = []
from_pid pid (first ∷ rest) = if is_lt (name_cmp first.1 pid) then from_pid pid rest else first ∷ rest

-- those of a PID that stand first
abbrev pub leading_of : Name → Owned → List Prefix
leading_of pid [] = []
leading_of pid (first ∷ rest) = if same_name pid first.1 then first.0 ∷ leading_of pid rest else []
