-- Objects whose members have distinct names that stand in byte order (RFC 8259, section 4).
use Rattle.std.specs.Prelude.{ℕ, List, [], ◌∷◌, ⊤}
use Rattle.std.specs.Cmp.Lexicographic.{slice_cmp}
use Rattle.std.specs.List.Sorted.{IsStrictlySortedBy}
use Rattle.std.specs.Ordering.{nat_cmp}
use Rattle.serde_json.specs.Data.{Data, null, boolean, number, string, array, object, Items, no_items, item, Members}
use Rattle.serde_json.specs.Data.{no_members, member}

-- the names of members, as they stand
abbrev pub names_of : Members → List (List ℕ)
names_of no_members = []
names_of (member k d ms) = k ∷ names_of ms

-- the names are distinct and stand in byte order
abbrev pub AreInOrder : Members → Type 0
AreInOrder ms = IsStrictlySortedBy (slice_cmp nat_cmp) (names_of ms)

-- each object of the value has its members in order
abbrev mutual
  pub StandsInOrder : Data → Type 0
  StandsInOrder null = ⊤
  StandsInOrder (boolean b) = ⊤
  StandsInOrder (number n) = ⊤
  StandsInOrder (string s) = ⊤
  StandsInOrder (array ds) = ItemsStandInOrder ds
  StandsInOrder (object ms) = AreInOrder ms × MembersStandInOrder ms

  pub ItemsStandInOrder : Items → Type 0
  ItemsStandInOrder no_items = ⊤
  ItemsStandInOrder (item d ds) = StandsInOrder d × ItemsStandInOrder ds

  pub MembersStandInOrder : Members → Type 0
  MembersStandInOrder no_members = ⊤
  MembersStandInOrder (member k d ms) = StandsInOrder d × MembersStandInOrder ms
