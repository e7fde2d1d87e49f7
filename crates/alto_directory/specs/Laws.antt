-- What directories say, written out: the statements of the laws.
use Rattle.std.specs.Prelude.{◌≡◌, [], ◌++◌, codes}
use Rattle.serde_json.specs.Written.{compact_text}
use Rattle.alto_rows.specs.Rows.{Rows}
use Rattle.alto_rows.specs.Versions.{nets_of}
use Rattle.alto_directory.specs.Directory.{directory}
use Rattle.alto_directory.specs.Entries.{filtered_property_map}
use Rattle.alto_directory.specs.Entry.{entry_data}

-- with no network there is no entry and no cost type
abbrev pub NothingWithoutNetworks : Type 0
NothingWithoutNetworks = (rows : Rows) → nets_of rows ≡ []
    → compact_text (directory rows) ≡ codes "{\"meta\":{\"cost-types\":{}},\"resources\":{}}"

-- the filtered property map of a network without properties still has the PIDs of addresses
abbrev pub AddressesHavePids : Type 0
AddressesHavePids =
    compact_text (entry_data (filtered_property_map (codes "metro") (record { ipv4 = []; ipv6 = []; pid = [] })))
    ≡ codes "{\"accepts\":\"application/alto-propmapparams+json\",\"capabilities\":{\"mappings\":"
    ++ codes "{\"ipv4\":[\"metro.pid\"],\"ipv6\":[\"metro.pid\"]}},\"media-type\":\"application/alto-propmap+json\","
    ++ codes "\"uri\":\"/filter/prop/metro\",\"uses\":[\"metro\"]}"
