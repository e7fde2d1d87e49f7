-- Names of properties gathered one after another.
use Rattle.std.specs.Prelude.{List, fold}
use Rattle.std.specs.BTreeSet.{insert_key}
use Rattle.std.specs.Cmp.Lexicographic.{slice_cmp}
use Rattle.std.specs.Ordering.{nat_cmp}
use Rattle.alto_maps.specs.Shape.{Name}
use Rattle.alto_directory.specs.Network.{Property, PropertyNames}
use Rattle.alto_directory.specs.declared.domain.Domain.TheVariants as domain

-- a set with one name more
abbrev pub with_name : List Name → Name → List Name
with_name set name = insert_key (slice_cmp nat_cmp) set name

-- the names with that of one property more
abbrev pub with_property : PropertyNames → Property → PropertyNames
with_property names (domain.Ipv4, name) =
    record { ipv4 = with_name names.ipv4 name; ipv6 = names.ipv6; pid = names.pid }
with_property names (domain.Ipv6, name) =
    record { ipv4 = names.ipv4; ipv6 = with_name names.ipv6 name; pid = names.pid }
with_property names (domain.Pid, name) =
    record { ipv4 = names.ipv4; ipv6 = names.ipv6; pid = with_name names.pid name }

-- the names with those of properties
abbrev pub with_properties : PropertyNames → List Property → PropertyNames
with_properties names properties = fold with_property names properties
