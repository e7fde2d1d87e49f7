-- Lists of destinations with their numbers, by which sources with the same destinations are known.
use Rattle.std.specs.Prelude.{◌≡◌, ◌<◌, ◌⊎◌, ℕ, List, [], Option, Some, length, map, slice_get, unwrap_or, zip}
use Rattle.std.specs.List.{AllByRecursion}
use Rattle.cost_tables.specs.Tables.{Costs, Name, Table, cost_to}

-- the names of destinations, and the number of their list
pub record Numbered : Type 0 where
  pub number : ℕ
  pub names : List Name

-- the costs from a source, and the list of its destinations
pub record Listed : Type 0 where
  pub costs : Costs
  pub list : Numbered

abbrev pub Sources : Type 0
Sources = List (Name × Listed)

-- the costs by source
abbrev pub table_of : Sources → Table
table_of sources = map (λ source. (source.0, source.1.costs)) sources

-- those of a table, if there is one
abbrev pub sources_in : Option Sources → Sources
sources_in table = unwrap_or table []

-- lists with one number have the same names
pub record HaveNumbers (sources : Sources) : Type 0 where
  pub names_of : ℕ → List Name
  pub same : AllByRecursion (λ source. source.1.list.names ≡ names_of source.1.list.number) sources

-- a list has the names of its number, which is below the next one
abbrev pub HasNumber : (ℕ → List Name) → ℕ → Listed → Type 0
HasNumber names_of next from = (from.list.names ≡ names_of from.list.number) × (from.list.number < next)

-- and so has each
pub record AreNumbered (next : ℕ) (sources : Sources) : Type 0 where
  pub names_of : ℕ → List Name
  pub each : AllByRecursion (λ source. HasNumber names_of next source.1) sources

-- a list has the names of its number among sources, or that number is a new one
abbrev pub IsNumberedBehind : Sources → ℕ → Listed → Type 0
IsNumberedBehind sources number from = (names_of : ℕ → List Name)
    → AllByRecursion (λ source. HasNumber names_of number source.1) sources
    → HasNumber names_of number from ⊎ (from.list.number ≡ number)

-- a list is that of another source, if there is one, or a new one with this number
abbrev pub IsSharedOrNew : Option Numbered → ℕ → Numbered → Type 0
IsSharedOrNew like number list = (like ≡ Some list) ⊎ (list.number ≡ number)

-- whatever costs stand beside names, the one at the place is that to the destination, if there is one
abbrev pub IsPlace : List Name → Name → ℕ → Type 0
IsPlace names dst place = (costs : List ℕ) → length costs ≡ length names
    → slice_get costs place ≡ cost_to (zip names costs) dst

-- and those at the places are those to the destinations
abbrev pub ArePlaces : List Name → List Name → List ℕ → Type 0
ArePlaces names destinations places = (costs : List ℕ) → length costs ≡ length names
    → map (slice_get costs) places ≡ map (cost_to (zip names costs)) destinations

-- the places are right in each list with this number
abbrev pub ArePlacesIn : Sources → Option ℕ → List Name → List ℕ → Type 0
ArePlacesIn sources number destinations places =
    AllByRecursion (λ source. number ≡ Some source.1.list.number → ArePlaces source.1.list.names destinations places)
    sources

-- where destinations stand in a list, and the number of that list, once there is one
pub record Placed : Type 0 where
  pub number : Option ℕ
  pub places : List ℕ

-- the places are right in each list with the number
abbrev pub ArePlacesFor : Sources → List Name → Placed → Type 0
ArePlacesFor sources destinations placed = ArePlacesIn sources placed.number destinations placed.places
