-- Media types of documents and of patches (RFC 7285, section 11; RFC 9240, section 7.1; RFC 7396, section 4).
use Rattle.std.specs.Prelude.{ℕ, List, codes}
use Rattle.alto_rows.specs.declared.resource.Resource.{Resource}
use Rattle.alto_rows.specs.declared.resource.Resource.TheVariants as resource

-- the media type of a network map
abbrev pub network_map_type : List ℕ
network_map_type = codes "application/alto-networkmap+json"

-- the media type of a cost map
abbrev pub cost_map_type : List ℕ
cost_map_type = codes "application/alto-costmap+json"

-- the media type of a property map
abbrev pub property_map_type : List ℕ
property_map_type = codes "application/alto-propmap+json"

-- the media type of costs between addresses
abbrev pub endpoint_cost_type : List ℕ
endpoint_cost_type = codes "application/alto-endpointcost+json"

-- the media type of a path vector, which has two parts (RFC 9275, section 7.2.6)
abbrev pub path_vector_type : List ℕ
path_vector_type = codes "multipart/related;boundary=alto-part;type=\"application/alto-costmap+json\""

-- the media type of the directory (RFC 7285, section 9.2.1)
abbrev pub directory_type : List ℕ
directory_type = codes "application/alto-directory+json"

-- the media type of a resource's document
abbrev pub media_type_of : Resource → List ℕ
media_type_of (resource.Net net) = network_map_type
media_type_of (resource.Cost net metric) = cost_map_type
media_type_of (resource.Prop net) = property_map_type

-- the media type of a merge patch
abbrev pub merge_patch_type : List ℕ
merge_patch_type = codes "application/merge-patch+json"

-- the media type of a JSON Patch (RFC 6902, section 6)
abbrev pub json_patch_type : List ℕ
json_patch_type = codes "application/json-patch+json"
