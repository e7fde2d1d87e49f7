-- An entry of a directory (RFC 7285, section 9.2.2) and its JSON.
use Rattle.std.specs.Prelude.{List, ◌∷◌, ◌++◌, Option, option_map, map, codes}
use Rattle.serde_json.specs.Data.{Data, string}
use Rattle.json_tree.specs.Document.{array_of, object_of}
use Rattle.json_tree.specs.Tree.{data_of}
use Rattle.alto_maps.specs.MergeForm.{part}
use Rattle.alto_maps.specs.Shape.{Name}
use Rattle.alto_directory.specs.MediaTypes.{type_text}
use Rattle.alto_directory.specs.declared.entry.Entry.{Entry}
use Rattle.alto_directory.specs.declared.media_type.MediaType.{MediaType}

-- an entry: the id of a resource, where it is, what it answers and what it takes, what it can do, and the ids of those
-- that it depends on
pub record EntryData : Type 0 where
  pub id : Name
  pub uri : Name
  pub media_type : MediaType
  pub accepts : Option MediaType
  pub capabilities : Option Data
  pub uses : Option (List Name)

-- an entry that the program made
abbrev pub shown : Entry → EntryData
shown entry = record {
  id = entry.id;
  uri = entry.uri;
  media_type = entry.media_type;
  accepts = entry.accepts;
  capabilities = option_map data_of entry.capabilities;
  uses = option_map (λ names. names.items) entry.uses;
}

-- texts as a list
abbrev pub texts : List Name → Data
texts names = array_of (map string names)

-- a media type as JSON
abbrev pub type_data : MediaType → Data
type_data of = string (type_text of)

-- the value of an entry: what it doesn't have isn't there
abbrev pub entry_data : EntryData → Data
entry_data entry = object_of (
    (codes "uri", string entry.uri)
    ∷ (codes "media-type", type_data entry.media_type)
    ∷ part (codes "accepts") (option_map type_data entry.accepts)
    ++ (part (codes "capabilities") entry.capabilities ++ part (codes "uses") (option_map texts entry.uses)))

-- an entry by its id
abbrev pub by_id : EntryData → Name × Data
by_id entry = (entry.id, entry_data entry)

-- entries by their ids
abbrev pub entries_data : List EntryData → Data
entries_data entries = object_of (map by_id entries)
