-- What a client may ask of the paths of a network (RFC 9275, section 7.2.3): pairs of PIDs, and a property of the ANEs
-- on their paths.
use Rattle.std.specs.Prelude.{Bool, true, false, Option, Some, None, Result, Ok, Err, codes}
use Rattle.serde_json.specs.Data.{Data, Items, no_items, item}
use Rattle.serde_json.specs.Find.{get, as_str}
use Rattle.alto_asks.specs.Asks.{◌>>=◌, missing, optional_items, text_in, texts_of}
use Rattle.alto_asks.specs.declared.fault.AskFault.{AskFault}
use Rattle.alto_maps.specs.Shape.{Name}
use Rattle.net_docs.specs.Ask.{pick_of, pids_field}
use Rattle.net_docs.specs.declared.ask.Pick.{Pick}
use Rattle.net_docs.specs.declared.ask.Pick.TheVariants as pick
use Rattle.path_docs.specs.declared.ask.Ends.{Ends}
use Rattle.path_docs.specs.declared.ask.PathAsk.{PathAsk}
use Rattle.path_docs.specs.Fields.{items_at, nested, object_in, only, text_at, without}

-- the field of the cost type
abbrev pub type_field : Name
type_field = codes "cost-type"

-- the field of the properties of ANEs
abbrev pub properties_field : Name
properties_field = codes "ane-property-names"

-- the cost mode of path vectors (section 6.5.2)
abbrev pub array_mode : Name
array_mode = codes "array"

-- their cost metric (section 6.5.1)
abbrev pub path_metric : Name
path_metric = codes "ane-path"

-- the property that can be asked for: the bandwidth, in bits per second, that can be reserved on an ANE (section 6.4.1)
abbrev pub bandwidth_name : Name
bandwidth_name = codes "max-reservable-bandwidth"

-- the member of a cost type that is this text
abbrev pub type_member : Name → Name → Data → Result Name AskFault
type_member name allowed type = text_at type_field name type >>= λ text. only allowed (nested type_field name) text

-- the cost type, if it is that of path vectors
abbrev pub path_type : Option Data → Result Data AskFault
path_type (Some value) =
    object_in type_field value
    >>= λ type. type_member (codes "cost-mode") array_mode type
    >>= λ mode. type_member (codes "cost-metric") path_metric type
    >>= λ metric. Ok type
path_type None = Err (missing type_field)

-- the PIDs that a list in an object asks for
abbrev pub picked : Name → Data → Result Pick AskFault
picked name value =
    items_at pids_field name value
    >>= λ items. texts_of (nested pids_field name) items
    >>= λ texts. Ok (pick_of texts)

-- the sources and the destinations that an object asks for; without one, all
abbrev pub ends_in : Option Data → Result Ends AskFault
ends_in None = Ok (record { srcs = pick.All; dsts = pick.All })
ends_in (Some value) =
    object_in pids_field value
    >>= λ pids. picked (codes "srcs") pids
    >>= λ srcs. picked (codes "dsts") pids
    >>= λ dsts. Ok (record { srcs = srcs; dsts = dsts })

-- each item asks for the property, or the fault of the first that doesn't
abbrev pub only_bandwidth : Items → Result Items AskFault
only_bandwidth no_items = Ok no_items
only_bandwidth (item value items) =
    text_in properties_field (as_str value)
    >>= λ text. only bandwidth_name properties_field text
    >>= λ name. only_bandwidth items

-- there is an item
abbrev pub has_item : Items → Bool
has_item no_items = false
has_item (item value items) = true

-- what the body of a request asks for, or its first fault; constraints can't be had
unfoldable pub path_ask : Data → Result PathAsk AskFault
path_ask ask =
    path_type (get type_field ask)
    >>= λ type. without (codes "constraints") ask
    >>= λ none. without (codes "or-constraints") ask
    >>= λ none. ends_in (get pids_field ask)
    >>= λ ends. optional_items properties_field ask
    >>= λ items. only_bandwidth items
    >>= λ none. Ok (record { srcs = ends.srcs; dsts = ends.dsts; bandwidth = has_item items })
