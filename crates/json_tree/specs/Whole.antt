-- JSON texts (RFC 8259) whose numbers are whole, as a tree holds them.
use Rattle.std.specs.Prelude.{ℕ, ◌&&◌, List, Bool, true, false, if◌then◌else◌, Option, Some, None, Result, Ok, Err}
use Rattle.std.specs.Str.{is_utf8}
use Rattle.serde_json.specs.Data.{Num, unsigned, negative, float, Data, null, boolean, number, string, array, object}
use Rattle.serde_json.specs.Data.{Items, no_items, item, Members, no_members, member}
use Rattle.serde_json.specs.Read.{read}
use Rattle.json_tree.specs.declared.fault.TreeFault.{TreeFault}
use Rattle.json_tree.specs.declared.fault.TreeFault.TheVariants.{Syntax, NotWhole}

-- a whole number from 0 to 2^64 - 1, which is what the reader takes for unsigned
abbrev pub is_whole_number : Num → Bool
is_whole_number (unsigned n) = true
is_whole_number (negative z) = false
is_whole_number (float x) = false

-- each number of the value is a whole number
abbrev mutual
  pub is_whole : Data → Bool
  is_whole null = true
  is_whole (boolean b) = true
  is_whole (number n) = is_whole_number n
  is_whole (string s) = true
  is_whole (array ds) = items_are_whole ds
  is_whole (object ms) = members_are_whole ms

  pub items_are_whole : Items → Bool
  items_are_whole no_items = true
  items_are_whole (item d ds) = is_whole d && items_are_whole ds

  pub members_are_whole : Members → Bool
  members_are_whole no_members = true
  members_are_whole (member k d ms) = is_whole d && members_are_whole ms

-- the value that a JSON text in UTF-8 stands for
unfoldable pub value_of : List ℕ → Option Data
value_of bytes = if is_utf8 bytes then read bytes else None

-- a value that was read, where its numbers are whole
abbrev pub whole_or_fault : Option Data → Result Data TreeFault
whole_or_fault None = Err Syntax
whole_or_fault (Some d) = if is_whole d then Ok d else Err NotWhole

-- the value of whole numbers that a text stands for, or why it stands for none
unfoldable pub whole_value : List ℕ → Result Data TreeFault
whole_value bytes = whole_or_fault (value_of bytes)
