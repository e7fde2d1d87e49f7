-- Media types (RFC 7285, section 14.1; RFC 9240, section 12.1; RFC 9275, section 7.2.1; RFC 9569, section 5.1).
use Rattle.std.specs.Prelude.{codes}
use Rattle.alto_maps.specs.Shape.{Name}
use Rattle.alto_directory.specs.declared.media_type.MediaType.{MediaType}
use Rattle.alto_directory.specs.declared.media_type.MediaType.TheVariants as media

-- the text of a media type
abbrev pub type_text : MediaType → Name
type_text media.NetworkMap = codes "application/alto-networkmap+json"
type_text media.NetworkMapFilter = codes "application/alto-networkmapfilter+json"
type_text media.CostMap = codes "application/alto-costmap+json"
type_text media.CostMapFilter = codes "application/alto-costmapfilter+json"
type_text media.EndpointCost = codes "application/alto-endpointcost+json"
type_text media.EndpointCostParams = codes "application/alto-endpointcostparams+json"
type_text media.PropertyMap = codes "application/alto-propmap+json"
type_text media.PropertyMapParams = codes "application/alto-propmapparams+json"
type_text media.PathVector = codes "multipart/related;type=application/alto-costmap+json"
type_text media.Tips = codes "application/alto-tips+json"
type_text media.TipsParams = codes "application/alto-tipsparams+json"

-- the media types of incremental changes: merge patches (RFC 7396) and JSON Patch (RFC 6902)
abbrev pub change_types : Name
change_types = codes "application/merge-patch+json,application/json-patch+json"
