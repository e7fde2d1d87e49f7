-- What a directory tells of a network: its metrics, and the names of the properties that its entities have.
use Rattle.std.specs.Prelude.{Bool, true, false, List, Option, Some, None, map, if◌then◌else◌}
use Rattle.std.specs.List.{filter_map}
use Rattle.alto_addr.specs.declared.addr.Addr.{Addr}
use Rattle.alto_addr.specs.declared.addr.Addr.TheVariants as addr
use Rattle.alto_rows.specs.declared.entity.Entity.{Entity}
use Rattle.alto_rows.specs.declared.entity.Entity.TheVariants as entity
use Rattle.alto_rows.specs.declared.key.Key.{Key}
use Rattle.alto_rows.specs.declared.key.Key.TheVariants as key
use Rattle.alto_rows.specs.declared.span.Span.TheVariants as span
use Rattle.alto_rows.specs.declared.value.Value.{Value}
use Rattle.alto_rows.specs.Rows.{Rows}
use Rattle.alto_rows.specs.Span.{rows_in}
use Rattle.alto_rows.specs.Versions.{nets_of}
use Rattle.alto_maps.specs.Shape.{Name}
use Rattle.alto_maps.specs.Places.{set_of}
use Rattle.alto_directory.specs.declared.domain.Domain.{Domain}
use Rattle.alto_directory.specs.declared.domain.Domain.TheVariants as domain

-- the metric that a row declares
abbrev pub metric_declared : Key × Value → Option Name
metric_declared (key.Metric net metric, v) = Some metric
metric_declared _ = None

-- the metrics of a network, in the order of their names
abbrev pub metrics_of : Rows → Name → List Name
metrics_of rows net = filter_map metric_declared (rows_in rows (span.Metrics net))

-- the domain of the addresses of a family (RFC 9240, section 6.1)
abbrev pub family_domain : Addr → Domain
family_domain (addr.V4 number) = domain.Ipv4
family_domain (addr.V6 number) = domain.Ipv6

-- the domain of an entity (RFC 9240, section 6)
abbrev pub domain_of : Entity → Domain
domain_of (entity.Block block) = family_domain block.addr
domain_of (entity.Pid pid) = domain.Pid

-- two domains are one
abbrev pub same_domain : Domain → Domain → Bool
same_domain domain.Ipv4 domain.Ipv4 = true
same_domain domain.Ipv6 domain.Ipv6 = true
same_domain domain.Pid domain.Pid = true
same_domain _ _ = false

-- a property: the domain of its entity, and its name
abbrev pub Property : Type 0
Property = Domain × Name

-- the property that a row gives an entity
abbrev pub property_in : Key × Value → Option Property
property_in (key.Prop net entity name, v) = Some (domain_of entity, name)
property_in _ = None

-- the name of a property, if it is one of this domain
abbrev pub name_in : Domain → Property → Option Name
name_in of property = if same_domain of property.0 then Some property.1 else None

-- the distinct names of the properties of a domain, in byte order
abbrev pub names_in : Domain → List Property → List Name
names_in of properties = set_of (filter_map (name_in of) properties)

-- names of properties by domain
pub record PropertyNames : Type 0 where
  pub ipv4 : List Name
  pub ipv6 : List Name
  pub pid : List Name

-- the names of properties
abbrev pub names_of : List Property → PropertyNames
names_of properties = record {
  ipv4 = names_in domain.Ipv4 properties;
  ipv6 = names_in domain.Ipv6 properties;
  pid = names_in domain.Pid properties;
}

-- the names of the properties that entities of a network have
abbrev pub property_names : Rows → Name → PropertyNames
property_names rows net = names_of (filter_map property_in (rows_in rows (span.Props net)))

-- a network as a directory shows it
pub record NetworkData : Type 0 where
  pub name : Name
  pub metrics : List Name
  pub properties : PropertyNames

-- a network of these rows
abbrev pub network_of : Rows → Name → NetworkData
network_of rows net = record {
  name = net;
  metrics = metrics_of rows net;
  properties = property_names rows net;
}

-- the declared networks, in the order of their names
abbrev pub networks_of : Rows → List NetworkData
networks_of rows = map (network_of rows) (nets_of rows)
