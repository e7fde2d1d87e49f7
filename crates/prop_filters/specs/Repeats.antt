-- Lists of entities that differ by repeats alone.
use Rattle.std.specs.Prelude.{◌≡◌, List, Option}
use Rattle.std.specs.List.{filter_map}
use Rattle.serde_json.specs.Data.{Data}
use Rattle.json_tree.specs.Document.{members_of}
use Rattle.alto_rows.specs.declared.entity.Entity.{Entity}
use Rattle.alto_maps.specs.Shape.{Name}

-- whatever members entities give, these lists give the same
abbrev pub GiveTheSame : List Entity → List Entity → Type 0
GiveTheSame some others = (group : Entity → Option (Name × Data))
    → members_of (filter_map group some) ≡ members_of (filter_map group others)
