-- Maps that differ at some places alone.
use Rattle.std.specs.Prelude.{◌≡◌, List, Bool, true, false, Some, Ok, codes}
use Rattle.std.specs.List.{list_any}
use Rattle.serde_json.specs.Data.{Data, null, boolean, number, string, array, object}
use Rattle.json_patch.specs.Operations.{replace, changed_at}
use Rattle.alto_maps.specs.Shape.{Name, same_name, Shape, Face, stands, member_in}
use Rattle.alto_maps.specs.Places.{touches_meta, touches_group, touches_member}
use Rattle.alto_maps.specs.declared.place.Place.{Place}

-- neither null nor an object, so that a merge puts it in place of another value
abbrev pub is_plain : Data → Bool
is_plain null = false
is_plain (boolean b) = true
is_plain (number n) = true
is_plain (string s) = true
is_plain (array ds) = true
is_plain (object ms) = false

-- what none of these places touches is the same in both, and where the version stands in the meta nothing else differs
pub record DifferAt (shape : Shape) (places : List Place) (before after : Face) : Type 0 where
  pub apart : same_name shape.section (codes "meta") ≡ false
  pub meta : list_any touches_meta places ≡ false → before.meta ≡ after.meta
  pub version : changed_at shape.path (replace after.version) (Some before.meta) ≡ Ok (Some after.meta)
  pub groups : (g : Name) → list_any (touches_group g) places ≡ false → stands before g ≡ stands after g
  pub members : (g m : Name) → list_any (touches_member g m) places ≡ false → member_in before g m ≡ member_in after g m
  pub plain_version : is_plain after.version ≡ true
  pub plain : (g m : Name) (d : Data) → member_in after g m ≡ Some d → is_plain d ≡ true
