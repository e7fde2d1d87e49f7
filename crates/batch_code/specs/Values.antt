-- The values that keys have, by the shape of these.
use Rattle.std.specs.Prelude.{◌<◌, ◌≤◌, ◌-◌, ◌^◌, length, All, Option, Some, None, IsUtf8, ⊤}
use Rattle.alto_names.specs.Name.{IsAneName}
use Rattle.alto_rows.specs.declared.key.Key.{Key}
use Rattle.alto_rows.specs.declared.key.Key.TheVariants as key
use Rattle.alto_rows.specs.declared.value.Value.{Value}
use Rattle.alto_rows.specs.declared.value.Value.TheVariants as value
use Rattle.batch_code.specs.declared.kinds.Shape.{Shape}
use Rattle.batch_code.specs.declared.kinds.Shape.TheVariants as shape

-- the shape of a key's values
abbrev pub shape_at : Key → Shape
shape_at (key.Cost net metric source destination) = shape.Amount
shape_at (key.AneProp net ane property) = shape.Amount
shape_at (key.Prop net entity property) = shape.Property
shape_at (key.Path net source destination) = shape.Names
shape_at (key.Seq of) = shape.Version
shape_at _ = shape.Unit

-- keys with values of a shape may have this value, or be deleted
abbrev pub IsValueOf : Shape → Option Value → Type 0
IsValueOf shape.Version None = ⊥
IsValueOf _ None = ⊤
IsValueOf shape.Unit (Some value.Unit) = ⊤
IsValueOf shape.Amount (Some (value.Num n)) = n ≤ 2 ^ 53 - 1
IsValueOf shape.Property (Some (value.Num n)) = n ≤ 2 ^ 53 - 1
IsValueOf shape.Property (Some (value.Text text)) = IsUtf8 text × (length text ≤ 65535)
IsValueOf shape.Names (Some (value.Names anes)) = All IsAneName anes × (1 ≤ length anes) × (length anes ≤ 64)
IsValueOf shape.Version (Some (value.Num n)) = (1 ≤ n) × (n < 2 ^ 63)
IsValueOf _ _ = ⊥
