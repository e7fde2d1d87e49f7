-- What holds of texts and pointers and what they stand for: the statements of the laws.
use Rattle.std.specs.Prelude.{◌≡◌, ℕ, List, ◌^◌, ◌<◌, ◌≤◌, Ok, ⊤}
use Rattle.std.specs.Str.{IsUtf8}
use Rattle.serde_json.specs.Data.{Num, unsigned, negative, float, Data, null, boolean, number, string, array, object}
use Rattle.serde_json.specs.Data.{Items, no_items, item, Members, no_members, member, depth}
use Rattle.serde_json.specs.Read.{max_depth, read}
use Rattle.serde_json.specs.Written.{compact_text}
use Rattle.json_tree.specs.Order.{AreInOrder}
use Rattle.json_tree.specs.Pointer.{pointer_text}
use Rattle.json_tree.specs.Whole.{value_of, whole_value}

-- a whole number from 0 to 2^64 - 1
abbrev pub IsTreeNumber : Num → Type 0
IsTreeNumber (unsigned n) = n < 2 ^ 64
IsTreeNumber (negative z) = ⊥
IsTreeNumber (float x) = ⊥

-- what a tree holds: whole numbers of 64 bits, texts in UTF-8, and members in the byte order of their names
abbrev mutual
  pub IsOfTree : Data → Type 0
  IsOfTree null = ⊤
  IsOfTree (boolean b) = ⊤
  IsOfTree (number n) = IsTreeNumber n
  IsOfTree (string s) = IsUtf8 s
  IsOfTree (array ds) = ItemsAreOfTrees ds
  IsOfTree (object ms) = AreInOrder ms × MembersAreOfTrees ms

  pub ItemsAreOfTrees : Items → Type 0
  ItemsAreOfTrees no_items = ⊤
  ItemsAreOfTrees (item d ds) = IsOfTree d × ItemsAreOfTrees ds

  pub MembersAreOfTrees : Members → Type 0
  MembersAreOfTrees no_members = ⊤
  MembersAreOfTrees (member k d ms) = IsUtf8 k × IsOfTree d × MembersAreOfTrees ms

-- the text of what a tree holds reads as that value, to the depth that is read
abbrev pub TextsReadBack : Type 0
TextsReadBack = (d : Data) → IsOfTree d → depth d ≤ max_depth → whole_value (compact_text d) ≡ Ok d

-- the value of a text in UTF-8 is the one that serde_json reads
abbrev pub ValuesAreRead : Type 0
ValuesAreRead = (text : List ℕ) → IsUtf8 text → value_of text ≡ read text

-- a text is the pointer along one list of names at most
abbrev pub PointersAreUnambiguous : Type 0
PointersAreUnambiguous = (names others : List (List ℕ)) → pointer_text names ≡ pointer_text others → names ≡ others
