-- Which PID has a prefix of a network after writes.
use Rattle.std.specs.Prelude.{◌≡◌, ℕ, Bool, true, false, ◌&&◌, not, List, Option, Some, None, option_map}
use Rattle.std.specs.BTreeMap.{BTreeMap, Updates, get, is_at}
use Rattle.std.specs.Map.{lookup}
use Rattle.std.specs.BTreeSet.{BTreeSet, contains}
use Rattle.std.specs.Ordering.{ordering_then}
use Rattle.std.specs.declared.cmp.Ordering.{Ordering}
use Rattle.alto_addr.specs.declared.prefix.Prefix.{Prefix}
use Rattle.alto_addr.specs.Order.{prefix_cmp}
use Rattle.alto_rows.specs.declared.key.Key.{Key}
use Rattle.alto_rows.specs.declared.key.Key.TheVariants as key
use Rattle.alto_rows.specs.Order.{name_cmp}
use Rattle.alto_rows.specs.Rows.{Rows, has_row}
use Rattle.alto_rules.specs.declared.place.Place.{Place}
use Rattle.alto_rules.specs.Draft.{is_owner}

-- places by network, then by prefix
unfoldable pub place_cmp : Place → Place → Ordering
place_cmp a b = ordering_then (name_cmp a.net b.net) (prefix_cmp a.prefix b.prefix)

-- a prefix of a network
abbrev pub place_of : List ℕ → Prefix → Place
place_of net prefix = record { net = net; prefix = prefix }

-- whether a PID is the owner that is kept, or, where none is kept, has the prefix in the rows before
abbrev pub owner_from : Option (Option (List ℕ)) → Bool → List ℕ → Bool
owner_from None before pid = before
owner_from (Some owner) before pid = is_owner owner pid

-- the map tells the owners of prefixes, those of known networks all, and any others are as in the rows before
abbrev pub AreOwners : Rows → Rows → BTreeMap Place (Option (List ℕ)) → BTreeSet (List ℕ) → Type 0
AreOwners rows later owners known = (net pid : List ℕ) (prefix : Prefix)
    → has_row later (key.Prefix net pid prefix)
    ≡ owner_from (get place_cmp owners (place_of net prefix))
    (not (contains name_cmp known net) && has_row rows (key.Prefix net pid prefix)) pid

-- the prefix whose owner a write changes, and the owner that it then has: the row of the write's key was there or not,
-- and then is there or not
abbrev pub owner_left : Key → Bool → Bool → Option (Place × Option (List ℕ))
owner_left (key.Prefix net pid prefix) had true = Some (place_of net prefix, Some pid)
owner_left (key.Prefix net pid prefix) true false = Some (place_of net prefix, None)
owner_left _ _ _ = None

-- the owners after such a change
abbrev pub HasChanged : Option (Place × Option (List ℕ)) → BTreeMap Place (Option (List ℕ))
    → BTreeMap Place (Option (List ℕ)) → Type 0
HasChanged None earlier later = later ≡ earlier
HasChanged (Some change) earlier later = Updates place_cmp earlier later change.0 (Some change.1)

-- a prefix of a network with its PID, by its place
abbrev pub placed : List ℕ → Prefix × List ℕ → Place × List ℕ
placed net told = (place_of net told.0, told.1)

-- the owner that is told of a prefix
abbrev pub owner_told : List (Place × List ℕ) → Place → Option (List ℕ)
owner_told told at = lookup (is_at (place_cmp at)) told

-- the PID of a prefix among prefixes with their PIDs
abbrev pub owner_among : List (Prefix × List ℕ) → Prefix → Option (List ℕ)
owner_among told prefix = lookup (is_at (prefix_cmp prefix)) told

-- the owner that is kept, or else the one that is told
abbrev pub kept_or : Option (Option (List ℕ)) → Option (List ℕ) → Option (Option (List ℕ))
kept_or (Some owner) told = Some owner
kept_or None told = option_map (λ owner. Some owner) told

-- the later owners are those that were kept, and of all other prefixes those that are told
abbrev pub HasFilled : List (Place × List ℕ) → BTreeMap Place (Option (List ℕ))
    → BTreeMap Place (Option (List ℕ)) → Type 0
HasFilled told earlier later =
    (at : Place) → get place_cmp later at ≡ kept_or (get place_cmp earlier at) (owner_told told at)
