-- Pairs with their paths as they are found: by a walk over the rows of each source that is asked for, or by searches.
use Rattle.std.specs.Prelude.{List, [], ◌∷◌, Bool, true, false, ◌&&◌, Option, Some, None, map, option_map}
use Rattle.std.specs.Prelude.{if◌then◌else◌}
use Rattle.std.specs.Prelude.{fold}
use Rattle.std.specs.BTreeSet.{insert_key}
use Rattle.std.specs.Cmp.Lexicographic.{slice_cmp}
use Rattle.std.specs.List.{filter_map, flat_map}
use Rattle.std.specs.Ordering.{nat_cmp}
use Rattle.serde_json.specs.Data.{Data}
use Rattle.json_tree.specs.Document.{object_of}
use Rattle.alto_rows.specs.declared.key.Key.{Key}
use Rattle.alto_rows.specs.declared.key.Key.TheVariants as key
use Rattle.alto_rows.specs.declared.value.Value.{Value}
use Rattle.alto_rows.specs.Order.{same_name}
use Rattle.alto_rows.specs.Rows.{Rows}
use Rattle.alto_maps.specs.Shape.{Name}
use Rattle.net_docs.specs.NetworkMap.{pids_of}
use Rattle.net_docs.specs.declared.ask.Pick.{Pick}
use Rattle.net_docs.specs.declared.ask.Pick.TheVariants as pick
use Rattle.path_docs.specs.declared.ask.PathAsk.{PathAsk}
use Rattle.path_docs.specs.PathCosts.{anes_at, names_data, path_of}

-- a destination, and the ANEs on the path to it
abbrev pub Pair : Type 0
Pair = Name × List Name

-- a source, and the pairs that it makes
abbrev pub Source : Type 0
Source = Name × List Pair

-- the destination of a path from this source that a row gives
abbrev pub destination_in : Name → Name → Key × Value → Option Name
destination_in net from (key.Path of src dst, v) = if same_name net of && same_name from src then Some dst else None
destination_in net from _ = None

-- the destinations of the rows of a source
abbrev pub destinations_of : Rows → Name → Name → List Name
destinations_of rows net src = filter_map (destination_in net src) rows

-- the pair of a row
abbrev pub pair_in : Key × Value → Option Pair
pair_in (key.Path net src dst, v) = option_map (λ anes. (dst, anes)) (anes_at (Some v))
pair_in _ = None

-- the pairs that a source makes with these destinations
abbrev pub pairs_among : Rows → Name → Name → List Name → List Pair
pairs_among rows net src dsts = filter_map (λ dst. option_map (λ anes. (dst, anes)) (path_of rows net src dst)) dsts

-- the PIDs that may be shown to a source
abbrev pub dsts_tried : Rows → Name → Pick → Name → List Name
dsts_tried rows net pick.All src = destinations_of rows net src
dsts_tried rows net (pick.Only names) src = names

-- the PIDs that may be sources
abbrev pub srcs_tried : Rows → Name → Pick → List Name
srcs_tried rows net pick.All = pids_of rows net
srcs_tried rows net (pick.Only names) = names

-- a source with its pairs
abbrev pub source_found : Rows → Name → Pick → Name → Source
source_found rows net dsts src = (src, pairs_among rows net src (dsts_tried rows net dsts src))

-- the sources that are asked for
abbrev pub sources_found : Rows → Name → PathAsk → List Source
sources_found rows net ask = map (source_found rows net ask.dsts) (srcs_tried rows net ask.srcs)

-- there is a pair
abbrev pub has_pair : List Pair → Bool
has_pair [] = false
has_pair (pair ∷ pairs) = true

-- a pair as a member
abbrev pub pair_member : Pair → Name × Data
pair_member pair = (pair.0, names_data pair.1)

-- a source with its pairs as a member, where it has one
abbrev pub source_member : Source → Option (Name × Data)
source_member source =
    if has_pair source.1 then Some (source.0, object_of (map pair_member source.1)) else None

-- the ANEs of pairs
abbrev pub pairs_anes : List Pair → List Name
pairs_anes pairs = flat_map (λ pair. pair.1) pairs

-- those of sources
abbrev pub sources_anes : List Source → List Name
sources_anes sources = flat_map (λ source. pairs_anes source.1) sources

-- a set with more names
abbrev pub with_names : List Name → List Name → List Name
with_names set names = fold (λ before name. insert_key (slice_cmp nat_cmp) before name) set names
