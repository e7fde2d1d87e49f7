-- The PIDs that a batch gives prefixes to, and that a prefix is in one PID of a network at most.
use Rattle.std.specs.Prelude.{◌≡◌, ℕ, Bool, true, false, not, List, Option, Some, None, is_some, if◌then◌else◌}
use Rattle.std.specs.BTreeMap.{BTreeMap, Updates, get}
use Rattle.std.specs.BTreeSet.{BTreeSet, Updates as SetUpdates, contains}
use Rattle.std.specs.List.{list_any}
use Rattle.std.specs.Ordering.{ordering_then}
use Rattle.std.specs.declared.cmp.Ordering.{Ordering}
use Rattle.alto_addr.specs.declared.prefix.Prefix.{Prefix}
use Rattle.alto_addr.specs.Order.{prefix_cmp}
use Rattle.alto_rows.specs.declared.key.Key.{Key}
use Rattle.alto_rows.specs.declared.key.Key.TheVariants as key
use Rattle.alto_rows.specs.declared.write.Write.{Write}
use Rattle.alto_rows.specs.Order.{name_cmp, same_name}
use Rattle.alto_rows.specs.Rows.{Rows, has_row}
use Rattle.alto_rows.specs.Span.{rows_in}
use Rattle.alto_rows.specs.declared.span.Span.TheVariants as span
use Rattle.batch_check.specs.declared.place.Place.{Place}
use Rattle.batch_check.specs.Named.{is_written_key}

-- a prefix is in one PID of a network at most
abbrev pub HaveOnePid : Rows → Type 0
HaveOnePid rows = (net first second : List ℕ) (prefix : Prefix) → has_row rows (key.Prefix net first prefix) ≡ true
    → has_row rows (key.Prefix net second prefix) ≡ true → first ≡ second

-- places by network, then by prefix
unfoldable pub place_cmp : Place → Place → Ordering
place_cmp a b = ordering_then (name_cmp a.net b.net) (prefix_cmp a.prefix b.prefix)

-- a prefix of a network
abbrev pub place_of : List ℕ → Prefix → Place
place_of net prefix = record { net = net; prefix = prefix }

-- the prefix that a key gives a PID, and this PID
abbrev pub owner_given : Key → Option (Place × List ℕ)
owner_given (key.Prefix net pid prefix) = Some (place_of net prefix, pid)
owner_given _ = None

-- the map has a PID for each prefix that a write gives to one and that has it, and each PID that it has has the prefix
pub record AreGiven (rows : Rows) (writes : List Write) (owners : BTreeMap Place (List ℕ)) : Type 0 where
  pub had : (net pid : List ℕ) (prefix : Prefix) → get place_cmp owners (place_of net prefix) ≡ Some pid
      → has_row rows (key.Prefix net pid prefix) ≡ true
  pub all : (net pid : List ℕ) (prefix : Prefix) → is_written_key writes (key.Prefix net pid prefix) ≡ true
      → has_row rows (key.Prefix net pid prefix) ≡ true → is_some (get place_cmp owners (place_of net prefix)) ≡ true

-- the prefix that a key gives a PID, and this PID, where the key has a row
abbrev pub owner_in : Rows → Key → Option (Place × List ℕ)
owner_in rows at = if has_row rows at then owner_given at else None

-- the later owners are the earlier with one more, if there is one
abbrev pub HasGiven : Option (Place × List ℕ) → BTreeMap Place (List ℕ) → BTreeMap Place (List ℕ) → Type 0
HasGiven None earlier later = later ≡ earlier
HasGiven (Some given) earlier later = Updates place_cmp earlier later given.0 (Some given.1)

-- the set has the networks of the prefixes that writes give to PIDs and that these have
abbrev pub HasNets : Rows → List Write → BTreeSet (List ℕ) → Type 0
HasNets rows writes nets =
    (net pid : List ℕ) (prefix : Prefix) → is_written_key writes (key.Prefix net pid prefix) ≡ true
    → has_row rows (key.Prefix net pid prefix) ≡ true → contains name_cmp nets net ≡ true

-- the later networks are the earlier with that of a prefix, if there is one
abbrev pub HasNetGiven : Option (Place × List ℕ) → BTreeSet (List ℕ) → BTreeSet (List ℕ) → Type 0
HasNetGiven None earlier later = later ≡ earlier
HasNetGiven (Some given) earlier later = SetUpdates name_cmp earlier later given.0.net true

-- an optional owner is another PID
abbrev pub is_other : Option (List ℕ) → List ℕ → Bool
is_other None pid = false
is_other (Some owner) pid = not (same_name owner pid)

-- the prefix that a key gives a PID has another one in the map
abbrev pub is_elsewhere : BTreeMap Place (List ℕ) → Key → Bool
is_elsewhere owners (key.Prefix net pid prefix) = is_other (get place_cmp owners (place_of net prefix)) pid
is_elsewhere owners _ = false

-- a prefix of a network has a row with another PID than in the map
abbrev pub is_shared_in : Rows → BTreeMap Place (List ℕ) → List ℕ → Bool
is_shared_in rows owners net = list_any (λ row. is_elsewhere owners row.0) (rows_in rows (span.Prefixes net))
