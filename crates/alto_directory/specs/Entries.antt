-- The entries of a directory: what the server has of each network, and the service of updates.
use Rattle.std.specs.Prelude.{List, [], ◌∷◌, ◌++◌, true, Some, None, map, codes}
use Rattle.std.specs.List.{flat_map}
use Rattle.serde_json.specs.Data.{Data, boolean, number, string, unsigned}
use Rattle.json_tree.specs.Document.{object_of}
use Rattle.alto_rows.specs.declared.resource.Resource.TheVariants as resource
use Rattle.alto_rows.specs.Ids.{resource_id}
use Rattle.alto_maps.specs.Places.{set_of}
use Rattle.alto_maps.specs.Shape.{Name}
use Rattle.alto_directory.specs.CostTypes.{numerical_name, ordinal_name, path_vector_name}
use Rattle.alto_directory.specs.Entry.{EntryData, texts}
use Rattle.alto_directory.specs.MediaTypes.{change_types}
use Rattle.alto_directory.specs.Network.{NetworkData, PropertyNames}
use Rattle.alto_directory.specs.declared.media_type.MediaType.TheVariants as media

-- ---- network maps

-- the network map (RFC 7285, section 11.2.1)
abbrev pub network_map : Name → EntryData
network_map net = record {
  id = resource_id (resource.Net net);
  uri = codes "/maps/" ++ resource_id (resource.Net net);
  media_type = media.NetworkMap;
  accepts = None;
  capabilities = None;
  uses = None;
}

-- the filtered network map (RFC 7285, section 11.3.1)
abbrev pub filtered_network_map : Name → EntryData
filtered_network_map net = record {
  id = net ++ codes ":filter";
  uri = codes "/filter/net/" ++ net;
  media_type = media.NetworkMap;
  accepts = Some media.NetworkMapFilter;
  capabilities = None;
  uses = Some (net ∷ []);
}

-- ---- costs

-- a metric's cost map tells numerical costs (RFC 7285, section 11.2.3.4)
abbrev pub cost_map_capabilities : Name → Data
cost_map_capabilities metric = object_of ((codes "cost-type-names", texts (numerical_name metric ∷ [])) ∷ [])

-- the cost map of a metric (RFC 7285, section 11.2.3)
abbrev pub cost_map : Name → Name → EntryData
cost_map net metric = record {
  id = resource_id (resource.Cost net metric);
  uri = codes "/maps/" ++ resource_id (resource.Cost net metric);
  media_type = media.CostMap;
  accepts = None;
  capabilities = Some (cost_map_capabilities metric);
  uses = Some (net ∷ []);
}

-- the names of the cost types that a client may ask for: numerical and ordinal costs of each metric
abbrev pub asked_types : List Name → List Name
asked_types metrics = set_of (map numerical_name metrics ++ map ordinal_name metrics)

-- the names of those that constraints may test: numerical costs
abbrev pub tested_types : List Name → List Name
tested_types metrics = set_of (map numerical_name metrics)

-- what queries of costs can do: constraints (RFC 7285, section 11.3.2.4), up to 8 cost types in one answer and the
-- cost types that constraints may test (RFC 8189, section 4.1.1)
abbrev pub cost_query_capabilities : List Name → Data
cost_query_capabilities metrics = object_of (
    (codes "cost-constraints", boolean true)
    ∷ (codes "cost-type-names", texts (asked_types metrics))
    ∷ (codes "max-cost-types", number (unsigned 8))
    ∷ (codes "testable-cost-type-names", texts (tested_types metrics))
    ∷ [])

-- the filtered cost map (RFC 7285, section 11.3.2)
abbrev pub filtered_cost_map : Name → List Name → EntryData
filtered_cost_map net metrics = record {
  id = net ++ codes ":costs";
  uri = codes "/filter/cost/" ++ net;
  media_type = media.CostMap;
  accepts = Some media.CostMapFilter;
  capabilities = Some (cost_query_capabilities metrics);
  uses = Some (net ∷ []);
}

-- the costs between endpoints (RFC 7285, section 11.5)
abbrev pub endpoint_costs : Name → List Name → EntryData
endpoint_costs net metrics = record {
  id = net ++ codes ":ends";
  uri = codes "/endpointcost/" ++ net;
  media_type = media.EndpointCost;
  accepts = Some media.EndpointCostParams;
  capabilities = Some (cost_query_capabilities metrics);
  uses = None;
}

-- the queries of costs
abbrev pub query_entries : Name → List Name → List EntryData
query_entries net metrics = filtered_cost_map net metrics ∷ endpoint_costs net metrics ∷ []

-- the same, where the network has a metric
abbrev pub cost_queries : Name → List Name → List EntryData
cost_queries net [] = []
cost_queries net (metric ∷ metrics) = query_entries net (metric ∷ metrics)

-- ---- properties

-- the domain of a network's PIDs (RFC 9240, section 5.1.2), and the property of addresses that is their PID (RFC 7285,
-- section 7.1.1)
abbrev pub pid_text : Name → Name
pid_text net = net ++ codes ".pid"

-- the names of the properties of a domain, where there are any
abbrev pub mapping : Name → List Name → List (Name × Data)
mapping domain [] = []
mapping domain (name ∷ names) = (domain, texts (name ∷ names)) ∷ []

-- which properties the entities of each domain have (RFC 9240, section 7.4)
abbrev pub mappings : Name → PropertyNames → Data
mappings net names = object_of (
    mapping (codes "ipv4") names.ipv4 ++ (mapping (codes "ipv6") names.ipv6 ++ mapping (pid_text net) names.pid))

-- the same as a capability
abbrev pub mapping_capabilities : Name → PropertyNames → Data
mapping_capabilities net names = object_of ((codes "mappings", mappings net names) ∷ [])

-- the property map (RFC 9240, section 7)
abbrev pub property_map : Name → PropertyNames → EntryData
property_map net names = record {
  id = resource_id (resource.Prop net);
  uri = codes "/maps/" ++ resource_id (resource.Prop net);
  media_type = media.PropertyMap;
  accepts = None;
  capabilities = Some (mapping_capabilities net names);
  uses = Some (net ∷ []);
}

-- names of properties and that of the PID
abbrev pub with_pid : Name → List Name → List Name
with_pid net names = set_of (names ++ pid_text net ∷ [])

-- the names of the properties that a client may ask for: addresses also have their PID
abbrev pub asked_properties : Name → PropertyNames → PropertyNames
asked_properties net names = record {
  ipv4 = with_pid net names.ipv4;
  ipv6 = with_pid net names.ipv6;
  pid = names.pid;
}

-- the filtered property map (RFC 9240, section 8)
abbrev pub filtered_property_map : Name → PropertyNames → EntryData
filtered_property_map net names = record {
  id = net ++ codes ":props";
  uri = codes "/filter/prop/" ++ net;
  media_type = media.PropertyMap;
  accepts = Some media.PropertyMapParams;
  capabilities = Some (mapping_capabilities net (asked_properties net names));
  uses = Some (net ∷ []);
}

-- ---- path vectors

-- what path vectors tell (RFC 9275, section 7.2.4)
abbrev pub path_vector_capabilities : Data
path_vector_capabilities = object_of (
    (codes "ane-property-names", texts (codes "max-reservable-bandwidth" ∷ []))
    ∷ (codes "cost-type-names", texts (path_vector_name ∷ []))
    ∷ [])

-- path vectors (RFC 9275, section 7.2)
abbrev pub path_vectors : Name → EntryData
path_vectors net = record {
  id = net ++ codes ":path";
  uri = codes "/pathvector/" ++ net;
  media_type = media.PathVector;
  accepts = Some media.CostMapFilter;
  capabilities = Some path_vector_capabilities;
  uses = Some (net ∷ []);
}

-- ---- updates

-- the id of a metric's cost map
abbrev pub cost_id : Name → Name → Name
cost_id net metric = resource_id (resource.Cost net metric)

-- the ids of the resources of a network that clients read by name
abbrev pub resource_ids : NetworkData → List Name
resource_ids net =
    resource_id (resource.Net net.name)
    ∷ resource_id (resource.Prop net.name)
    ∷ map (cost_id net.name) net.metrics

-- those of networks, in byte order
abbrev pub all_ids : List NetworkData → List Name
all_ids nets = set_of (flat_map resource_ids nets)

-- in which forms changes of a resource come, by its id
abbrev pub forms_of : Name → Name × Data
forms_of id = (id, string change_types)

-- the same of each resource
abbrev pub change_forms : List Name → Data
change_forms ids = object_of (map forms_of ids)

-- the same as a capability (RFC 9569, section 5.2)
abbrev pub updates_capabilities : List Name → Data
updates_capabilities ids = object_of ((codes "incremental-change-media-types", change_forms ids) ∷ [])

-- the service of updates (RFC 9569, section 5) for these resources
abbrev pub updates : List Name → EntryData
updates ids = record {
  id = codes "alto:tips";
  uri = codes "/tips";
  media_type = media.Tips;
  accepts = Some media.TipsParams;
  capabilities = Some (updates_capabilities ids);
  uses = Some ids;
}

-- ---- all of them

-- the network's maps
abbrev pub map_entries : Name → List EntryData
map_entries net = network_map net ∷ filtered_network_map net ∷ path_vectors net ∷ []

-- its property maps
abbrev pub property_entries : Name → PropertyNames → List EntryData
property_entries net names = property_map net names ∷ filtered_property_map net names ∷ []

-- the entries of a network
abbrev pub network_entries : NetworkData → List EntryData
network_entries net =
    map_entries net.name
    ++ (property_entries net.name net.properties
    ++ (map (cost_map net.name) net.metrics ++ cost_queries net.name net.metrics))

-- the service of updates, where there is a network
abbrev pub updates_entry : List NetworkData → List EntryData
updates_entry [] = []
updates_entry (net ∷ nets) = updates (all_ids (net ∷ nets)) ∷ []

-- the entries of networks
abbrev pub entries_of : List NetworkData → List EntryData
entries_of nets = updates_entry nets ++ flat_map network_entries nets
