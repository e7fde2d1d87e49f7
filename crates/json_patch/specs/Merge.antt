-- JSON Merge Patch (RFC 7396, section 2).
use Rattle.std.specs.Prelude.{ℕ, List, Bool, true, false, if◌then◌else◌, unwrap_or}
use Rattle.std.specs.Cmp.Lexicographic.{slice_cmp}
use Rattle.std.specs.Ordering.{nat_cmp, match_ordering}
use Rattle.serde_json.specs.Data.{Data, null, boolean, number, string, array, object, Members, no_members, member}
use Rattle.serde_json.specs.Find.{get_member}
use Rattle.json_tree.specs.Document.{with_member}

-- the members of an object, and none of anything else
abbrev pub members_in : Data → Members
members_in null = no_members
members_in (boolean b) = no_members
members_in (number n) = no_members
members_in (string s) = no_members
members_in (array ds) = no_members
members_in (object ms) = ms

-- the members of other names
abbrev pub without : List ℕ → Members → Members
without k no_members = no_members
without k (member l d ms) =
    match_ordering (slice_cmp nat_cmp k l) (member l d (without k ms)) (without k ms) (member l d (without k ms))

-- the value at a name, and null where there is none
abbrev pub value_or_null : List ℕ → Members → Data
value_or_null k ms = unwrap_or (get_member k ms) null

abbrev pub is_null : Data → Bool
is_null null = true
is_null (boolean b) = false
is_null (number n) = false
is_null (string s) = false
is_null (array ds) = false
is_null (object ms) = false

abbrev mutual
  -- what a patch makes of a target: another value where the patch is no object
  pub patched : (patch target : Data) → Data
  patched null target = null
  patched (boolean b) target = boolean b
  patched (number n) target = number n
  patched (string s) target = string s
  patched (array ds) target = array ds
  patched (object ps) target = object (members_patched ps (members_in target))

  -- what the members of a patch make of members: a null takes the member of its name away, another value patches it
  pub members_patched : (patch members : Members) → Members
  members_patched no_members ms = ms
  members_patched (member k v ps) ms =
      members_patched ps (if is_null v then without k ms else with_member k (patched v (value_or_null k ms)) ms)

-- the target changed by the patch
unfoldable pub merge_patched : (target patch : Data) → Data
merge_patched target patch = patched patch target
