-- Names of properties, gathered by domain one after another.
use Rattle.std.proofs.Common.{◌≡◌, refl}
use Rattle.std.specs.Prelude.{List, [], ◌∷◌}
use Rattle.std.specs.List.{filter_map}
use Rattle.alto_maps.specs.Places.{set_of}
use Rattle.alto_maps.specs.Shape.{Name}
use Rattle.alto_directory.specs.Names.{with_name, with_properties}
use Rattle.alto_directory.specs.Network.{Property, name_in, names_of}
use Rattle.alto_directory.specs.declared.domain.Domain.{Domain}
use Rattle.alto_directory.specs.declared.domain.Domain.TheVariants as domain
use Rattle.alto_directory.proofs.SetLemmas.{with_names}

-- the names of those of a domain
abbrev only : Domain → List Property → List Name
only of properties = filter_map (name_in of) properties

-- properties add to each domain the names of its own
by_domain : (ipv4 ipv6 pid : List Name) (properties : List Property)
    → with_properties (record { ipv4 = ipv4; ipv6 = ipv6; pid = pid }) properties
    ≡ record {
      ipv4 = with_names ipv4 (only domain.Ipv4 properties);
      ipv6 = with_names ipv6 (only domain.Ipv6 properties);
      pid = with_names pid (only domain.Pid properties);
    }
by_domain ipv4 ipv6 pid [] = refl
by_domain ipv4 ipv6 pid ((domain.Ipv4, name) ∷ properties) = by_domain (with_name ipv4 name) ipv6 pid properties
by_domain ipv4 ipv6 pid ((domain.Ipv6, name) ∷ properties) = by_domain ipv4 (with_name ipv6 name) pid properties
by_domain ipv4 ipv6 pid ((domain.Pid, name) ∷ properties) = by_domain ipv4 ipv6 (with_name pid name) properties

-- all properties give all names
pub all_names : (properties : List Property) → with_properties (names_of []) properties ≡ names_of properties
unfolding set_of
all_names properties = by_domain [] [] [] properties
