-- What a client may ask of a network map (RFC 7285, section 11.3.1.3): some PIDs, and some families of addresses.
use Rattle.std.specs.Prelude.{List, [], ◌∷◌, Bool, filter, is_ok, Result, Ok, Err, if◌then◌else◌, codes}
use Rattle.serde_json.specs.Data.{Data, Items, no_items, item}
use Rattle.serde_json.specs.Find.{as_str}
use Rattle.alto_names.specs.Name.{named, is_pid_byte}
use Rattle.alto_asks.specs.Asks.{◌>>=◌, optional_items, required_items, text_in, texts_of, wrong_text}
use Rattle.alto_asks.specs.declared.fault.AskFault.{AskFault}
use Rattle.alto_rows.specs.Order.{same_name}
use Rattle.alto_maps.specs.Shape.{Name}
use Rattle.net_docs.specs.declared.ask.Family.{Family}
use Rattle.net_docs.specs.declared.ask.Family.TheVariants as family
use Rattle.net_docs.specs.declared.ask.Pick.{Pick}
use Rattle.net_docs.specs.declared.ask.Pick.TheVariants as pick

-- what is asked for: which PIDs, and of each its prefixes of which families
pub record NetAskData : Type 0 where
  pub pids : Pick
  pub families : List Family

-- the field that lists PIDs
abbrev pub pids_field : Name
pids_field = codes "pids"

-- the field that lists families
abbrev pub types_field : Name
types_field = codes "address-types"

-- a text is the name of a PID
abbrev pub is_pid_name : Name → Bool
is_pid_name text = is_ok (named is_pid_byte 64 text)

-- the PIDs that a list asks for: all, where it is empty, else those of its texts that are names of PIDs
abbrev pub pick_of : List Name → Pick
pick_of [] = pick.All
pick_of (text ∷ texts) = pick.Only (filter is_pid_name (text ∷ texts))

-- the name of a family (section 10.4.2)
abbrev pub family_name : Family → Name
family_name family.V4 = codes "ipv4"
family_name family.V6 = codes "ipv6"

-- the family that a text names
abbrev pub family_named : Name → Result Family AskFault
family_named text =
    if same_name text (codes "ipv4") then Ok family.V4
    else if same_name text (codes "ipv6") then Ok family.V6
    else Err (wrong_text types_field text)

-- the families that items name, or the fault of the first that names none
abbrev pub families_of : Items → Result (List Family) AskFault
families_of no_items = Ok []
families_of (item value items) =
    text_in types_field (as_str value)
    >>= λ text. family_named text
    >>= λ family. families_of items
    >>= λ families. Ok (family ∷ families)

-- the families that are asked for: both, where none is named
abbrev pub or_both : List Family → List Family
or_both [] = family.V4 ∷ family.V6 ∷ []
or_both (one ∷ more) = one ∷ more

-- what the body of a request asks for, or its first fault
unfoldable pub net_ask : Data → Result NetAskData AskFault
net_ask ask =
    required_items pids_field ask
    >>= λ items. texts_of pids_field items
    >>= λ texts. optional_items types_field ask
    >>= λ types. families_of types
    >>= λ families. Ok (record { pids = pick_of texts; families = or_both families })
