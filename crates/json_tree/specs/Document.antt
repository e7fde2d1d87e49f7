-- JSON documents (RFC 8259, sections 4 and 5) made of lists of values and of members.
use Rattle.std.specs.Prelude.{ℕ, List, fold}
use Rattle.serde_json.specs.Data.{Data, array, object, Members, no_members, put}
use Rattle.serde_json.specs.View.{items_of}

-- the array of these values
abbrev pub array_of : List Data → Data
array_of ds = array (items_of ds)

-- the members with this value at the name, in the byte order of the names
unfoldable pub with_member : List ℕ → Data → Members → Members
with_member name d ms = put name d ms

-- these members in the byte order of their names; of a repeated name the last one counts
abbrev pub members_of : List (List ℕ × Data) → Members
members_of ms = fold (λ before m. with_member m.0 m.1 before) no_members ms

-- the object with these members
abbrev pub object_of : List (List ℕ × Data) → Data
object_of ms = object (members_of ms)
