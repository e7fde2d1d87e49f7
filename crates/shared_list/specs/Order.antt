-- Items in the order of their names (by bytes), and the item of a name.
use Rattle.std.specs.Option.{option_map_or}
use Rattle.std.specs.Prelude.{ℕ, ◌-◌, Bool, true, List, Option, filter, length, map, slice_get}
use Rattle.std.specs.BTreeMap.{is_at}
use Rattle.std.specs.Cmp.Lexicographic.{slice_cmp}
use Rattle.std.specs.List.Sorted.{IsStrictlySortedBy}
use Rattle.std.specs.Map.{lookup}
use Rattle.std.specs.Ordering.{nat_cmp, is_lt, is_gt}
use Rattle.std.specs.declared.cmp.Ordering.{Ordering}

abbrev pub Name : Type 0
Name = List ℕ

abbrev pub name_cmp : Name → Name → Ordering
name_cmp = slice_cmp nat_cmp

module _ {X : Type 0} (name : X → Name) where
  -- the names rise
  abbrev pub InOrder : List X → Type 0
  InOrder items = IsStrictlySortedBy name_cmp (map name items)

  -- items under their names
  abbrev pub named : List X → List (Name × X)
  named items = map (λ item. (name item, item)) items

  -- the item of a name, if there is one
  abbrev pub item_of : List X → Name → Option X
  item_of items q = lookup (is_at (name_cmp q)) (named items)

  -- the items whose names are less than one
  abbrev pub before : Name → List X → List X
  before q items = filter (λ item. is_lt (name_cmp (name item) q)) items

  -- the items whose names are greater
  abbrev pub behind : Name → List X → List X
  behind q items = filter (λ item. is_gt (name_cmp (name item) q)) items

  -- the last item is before a name, if there is one
  abbrev pub ends_before : Name → List X → Bool
  ends_before q items =
      option_map_or (λ item. is_lt (name_cmp (name item) q)) (slice_get items (length items - 1)) true
