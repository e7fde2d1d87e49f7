-- The property of a block: its own or, without one, that of the longest block around it (RFC 9240, section 6.1.3).
use Rattle.std.specs.Prelude.{◌≡◌, ◌≤◌, Bool, ◌&&◌, nat_le, List, Option, Some, None, if◌then◌else◌}
use Rattle.std.specs.List.{filter, filter_map, find, list_all}
use Rattle.std.specs.Option.{option_map}
use Rattle.alto_addr.specs.Bits.{IsInside}
use Rattle.alto_addr.specs.declared.prefix.Prefix.{Prefix}
use Rattle.alto_rows.specs.declared.entity.Entity.TheVariants as entity
use Rattle.alto_rows.specs.declared.key.Key.{Key}
use Rattle.alto_rows.specs.declared.key.Key.TheVariants as key
use Rattle.alto_rows.specs.declared.value.Value.{Value}
use Rattle.alto_rows.specs.Order.{same_name}
use Rattle.alto_rows.specs.Rows.{Rows, value_of}
use Rattle.alto_maps.specs.Shape.{Name}
use Rattle.pid_prefix.specs.Longest.{holds}

-- a block and the value of its property
abbrev pub Valued : Type 0
Valued = Prefix × Value

-- the block to which a row gives this property, and the value
abbrev pub block_in : Name → Name → Key × Value → Option Valued
block_in net name (key.Prop of (entity.Block block) other, v) =
    if same_name net of && same_name name other then Some (block, v) else None
block_in net name _ = None

-- whether each address of the inner block is one of the outer
abbrev pub is_inside : Prefix → Prefix → Bool
is_inside inner outer = nat_le outer.len inner.len && holds outer.addr outer.len inner.addr

-- the blocks that hold a block, itself too, and have this property
abbrev pub around : Rows → Name → Prefix → Name → List Valued
around rows net block name = filter (λ outer. is_inside block outer.0) (filter_map (block_in net name) rows)

-- whether none of the blocks is longer
abbrev pub is_longest : List Valued → Valued → Bool
is_longest blocks block = list_all (λ other. nat_le other.0.len block.0.len) blocks

-- of the blocks that hold a block and have this property, the value of the longest
unfoldable pub inherited : Rows → Name → Prefix → Name → Option Value
inherited rows net block name =
    option_map (λ outer. outer.1) (find (is_longest (around rows net block name)) (around rows net block name))

-- the value of this property in the row of a block
abbrev pub value_at : Rows → Name → Prefix → Name → Option Value
value_at rows net block name = value_of rows (key.Prop net (entity.Block block) name)

-- the outer block holds the block
abbrev pub IsAround : Prefix → Prefix → Type 0
IsAround block outer = IsInside block.addr block.len outer.addr outer.len

-- the value is that of a block around which has the property, where no longer block around has it; nothing where no
-- block around has it
abbrev pub IsOfLongest : Rows → Name → Prefix → Name → Option Value → Type 0
IsOfLongest rows net block name None = (outer : Prefix) → IsAround block outer → value_at rows net outer name ≡ None
IsOfLongest rows net block name (Some v) =
    (outer : Prefix) × IsAround block outer × (value_at rows net outer name ≡ Some v)
    × ((other : Prefix) (w : Value) → IsAround block other → value_at rows net other name ≡ Some w
    → other.len ≤ outer.len)
