-- The text of what a tree holds is UTF-8, and reads as that value.
use Rattle.std.proofs.Common.{◌≡◌, ℕ, ◌≤◌, List, [], ◌∷◌, Bool, true, false, Some, Ok, option_map, Less, Greater}
use Rattle.std.proofs.Common.{nat_cmp, refl, sym, ap, ◌∙◌, subst}
use Rattle.std.proofs.lemmas.Cmp.{nat_list_cmp_total}
use Rattle.std.proofs.lemmas.Fmt.{IsAscii-decimal}
use Rattle.std.proofs.lemmas.Str.{IsUtf8-append, IsUtf8-from_ascii, IsUtf8-nil, is_utf8-from_IsUtf8}
use Rattle.std.specs.Cmp.Lexicographic.{slice_cmp}
use Rattle.std.specs.List.{AllByRecursion}
use Rattle.std.specs.List.Sorted.{IsStrictlySortedBy}
use Rattle.std.specs.Ordering.{ordering_reverse}
use Rattle.std.specs.Str.{IsUtf8}
use Rattle.json.specs.Lex.{tokens}
use Rattle.json.specs.Tree.{json_tokens, HasNumbers, ItemsHaveNumbers, MembersHaveNumbers}
use Rattle.json.proofs.Printed.Decimals.{IsNumber-decimal}
use Rattle.json.proofs.Printed.Tokens.{tokens-print}
use Rattle.json.proofs.Printed.Trees.{ArePrintable-json_tokens}
use Rattle.json.proofs.Printed.Utf8.{IsUtf8-are_ascii, IsUtf8-boolean, IsUtf8-quoted}
use Rattle.serde_json.specs.Data.{Num, unsigned, negative, float, Data, null, boolean, number, string, array, object}
use Rattle.serde_json.specs.Data.{Items, no_items, item, Members, no_members, member, put, depth}
use Rattle.serde_json.specs.Read.{read, of_json, of_items, of_members, max_depth}
use Rattle.serde_json.specs.Written.{number_text, outline, items_outline, members_outline, comma_if, compact_text}
use Rattle.serde_json.specs.Written.{items_text, members_text}
use Rattle.serde_json.proofs.Numbers.{number_of-decimal}
use Rattle.serde_json.proofs.Texts.{print-outline}
use Rattle.json_tree.specs.Laws.{IsTreeNumber, IsOfTree, ItemsAreOfTrees, MembersAreOfTrees}
use Rattle.json_tree.specs.Order.{names_of, AreInOrder}
use Rattle.json_tree.specs.Whole.{is_whole, items_are_whole, members_are_whole, value_of, whole_value}
use Rattle.json_tree.proofs.ReadBack.{read_back}

-- the value of a text in UTF-8
pub value_of_text : (text : List ℕ) → IsUtf8 text → value_of text ≡ read text
unfolding value_of
value_of_text text utf8 = rw (is_utf8-from_IsUtf8 text utf8)

-- ---- the text is UTF-8

IsUtf8-number_text : (n : Num) → IsTreeNumber n → IsUtf8 (number_text n)
IsUtf8-number_text (unsigned n) h = IsUtf8-from_ascii _ (IsAscii-decimal n h)
IsUtf8-number_text (negative z) h = absurd h
IsUtf8-number_text (float x) h = absurd h

IsUtf8-comma_if : (later : Bool) → IsUtf8 (comma_if later)
IsUtf8-comma_if true = IsUtf8-are_ascii _ refl
IsUtf8-comma_if false = IsUtf8-nil

mutual
  pub IsUtf8-compact_text : (d : Data) → IsOfTree d → IsUtf8 (compact_text d)
  IsUtf8-compact_text null h = IsUtf8-are_ascii _ refl
  IsUtf8-compact_text (boolean b) h = IsUtf8-boolean b
  IsUtf8-compact_text (number n) h = IsUtf8-number_text n h
  IsUtf8-compact_text (string s) h = IsUtf8-quoted s h
  IsUtf8-compact_text (array ds) h = IsUtf8-append (91 ∷ []) _ (IsUtf8-are_ascii _ refl) (IsUtf8-items_text false ds h)
  IsUtf8-compact_text (object ms) h =
      IsUtf8-append (123 ∷ []) _ (IsUtf8-are_ascii _ refl) (IsUtf8-members_text false ms h.1)

  IsUtf8-items_text : (later : Bool) (ds : Items) → ItemsAreOfTrees ds → IsUtf8 (items_text later ds)
  IsUtf8-items_text later no_items h = IsUtf8-are_ascii _ refl
  IsUtf8-items_text later (item d ds) h =
      IsUtf8-append _ _ (IsUtf8-comma_if later)
      (IsUtf8-append _ _ (IsUtf8-compact_text d h.0) (IsUtf8-items_text true ds h.1))

  IsUtf8-members_text : (later : Bool) (ms : Members) → MembersAreOfTrees ms → IsUtf8 (members_text later ms)
  IsUtf8-members_text later no_members h = IsUtf8-are_ascii _ refl
  IsUtf8-members_text later (member k d ms) h =
      IsUtf8-append _ _ (IsUtf8-comma_if later)
      (IsUtf8-append _ _ (IsUtf8-quoted k h.0)
      (IsUtf8-append (58 ∷ []) _ (IsUtf8-are_ascii _ refl)
      (IsUtf8-append _ _ (IsUtf8-compact_text d h.1) (IsUtf8-members_text true ms h.2))))

-- ---- its numbers are written as numbers, and are whole

mutual
  HasNumbers-outline : (d : Data) → IsOfTree d → HasNumbers (outline d)
  HasNumbers-outline null h = tt
  HasNumbers-outline (boolean b) h = tt
  HasNumbers-outline (number (unsigned n)) h = IsNumber-decimal n h
  HasNumbers-outline (number (negative z)) h = absurd h
  HasNumbers-outline (number (float x)) h = absurd h
  HasNumbers-outline (string s) h = tt
  HasNumbers-outline (array ds) h = ItemsHaveNumbers-outline ds h
  HasNumbers-outline (object ms) h = MembersHaveNumbers-outline ms h.1

  ItemsHaveNumbers-outline : (ds : Items) → ItemsAreOfTrees ds → ItemsHaveNumbers (items_outline ds)
  ItemsHaveNumbers-outline no_items h = tt
  ItemsHaveNumbers-outline (item d ds) h = (HasNumbers-outline d h.0, ItemsHaveNumbers-outline ds h.1)

  MembersHaveNumbers-outline : (ms : Members) → MembersAreOfTrees ms → MembersHaveNumbers (members_outline ms)
  MembersHaveNumbers-outline no_members h = tt
  MembersHaveNumbers-outline (member k d ms) h = (HasNumbers-outline d h.1, MembersHaveNumbers-outline ms h.2)

mutual
  pub whole_of_tree : (d : Data) → IsOfTree d → is_whole d ≡ true
  whole_of_tree null h = refl
  whole_of_tree (boolean b) h = refl
  whole_of_tree (number (unsigned n)) h = refl
  whole_of_tree (number (negative z)) h = absurd h
  whole_of_tree (number (float x)) h = absurd h
  whole_of_tree (string s) h = refl
  whole_of_tree (array ds) h = whole_items ds h
  whole_of_tree (object ms) h = whole_members ms h.1

  whole_items : (ds : Items) → ItemsAreOfTrees ds → items_are_whole ds ≡ true
  whole_items no_items h = refl
  whole_items (item d ds) h = rw (whole_of_tree d h.0) (whole_items ds h.1)

  whole_members : (ms : Members) → MembersAreOfTrees ms → members_are_whole ms ≡ true
  whole_members no_members h = refl
  whole_members (member k d ms) h = rw (whole_of_tree d h.1) (whole_members ms h.2)

-- ---- members in order are put one after another

abbrev joined : Members → Members → Members
joined no_members ms = ms
joined (member k d found) ms = member k d (joined found ms)

joined-none : (found : Members) → joined found no_members ≡ found
joined-none no_members = refl
joined-none (member k d found) = ap (member k d) (joined-none found)

joined-one : (found : Members) (k : List ℕ) (d : Data) (ms : Members)
    → joined (joined found (member k d no_members)) ms ≡ joined found (member k d ms)
joined-one no_members k d ms = refl
joined-one (member l e found) k d ms = ap (member l e) (joined-one found k d ms)

below_middle : (l : List ℕ) (found : Members) (k : List ℕ) (d : Data) (ms : Members)
    → AllByRecursion (λ y. slice_cmp nat_cmp l y ≡ Less) (names_of (joined found (member k d ms)))
    → slice_cmp nat_cmp l k ≡ Less
below_middle l no_members k d ms h = h.0
below_middle l (member m e found) k d ms h = below_middle l found k d ms h.1

put_beyond : (found : Members) (k : List ℕ) (d : Data) (ms : Members) → AreInOrder (joined found (member k d ms))
    → put k d found ≡ joined found (member k d no_members)
unfolding IsStrictlySortedBy
put_beyond no_members k d ms h = refl
put_beyond (member l e found) k d ms h =
    let above : slice_cmp nat_cmp k l ≡ Greater = nat_list_cmp_total.antisymm k l
    ∙ ap ordering_reverse (below_middle l found k d ms h.0) in
    rw above (ap (member l e) (put_beyond found k d ms h.1))

mutual
  of_json-outline : (d : Data) → IsOfTree d → of_json (outline d) ≡ Some d
  of_json-outline null h = refl
  of_json-outline (boolean b) h = refl
  of_json-outline (number (unsigned n)) h = ap (option_map number) (number_of-decimal n h)
  of_json-outline (number (negative z)) h = absurd h
  of_json-outline (number (float x)) h = absurd h
  of_json-outline (string s) h = refl
  of_json-outline (array ds) h = ap (option_map array) (of_items-outline ds h)
  of_json-outline (object ms) h = ap (option_map object) (of_members-outline ms no_members h.1 h.0)

  of_items-outline : (ds : Items) → ItemsAreOfTrees ds → of_items (items_outline ds) ≡ Some ds
  of_items-outline no_items h = refl
  of_items-outline (item d ds) h = rw (of_json-outline d h.0, of_items-outline ds h.1)

  of_members-outline : (ms found : Members) → MembersAreOfTrees ms → AreInOrder (joined found ms)
      → of_members (members_outline ms) found ≡ Some (joined found ms)
  of_members-outline no_members found h ordered = ap Some (sym (joined-none found))
  of_members-outline (member k d ms) found h ordered =
      let next = joined found (member k d no_members) in
      let still : AreInOrder (joined next ms) = subst AreInOrder (sym (joined-one found k d ms)) ordered in
      rw (of_json-outline d h.1, put_beyond found k d ms ordered) (of_members-outline ms next h.2 still
      ∙ ap Some (joined-one found k d ms))

-- ---- the law

read_compact_text : (d : Data) → IsOfTree d → depth d ≤ max_depth → read (compact_text d) ≡ Some d
read_compact_text d h shallow =
    let written : tokens (compact_text d) ≡ json_tokens (outline d) = ap tokens (sym (print-outline d))
    ∙ tokens-print (json_tokens (outline d)) (ArePrintable-json_tokens (outline d) (HasNumbers-outline d h)) in
    read_back d (compact_text d) written (of_json-outline d h) shallow

-- a text in UTF-8 that reads as whole data
pub whole_value-read : (text : List ℕ) (d : Data) → IsUtf8 text → read text ≡ Some d → is_whole d ≡ true
    → whole_value text ≡ Ok d
unfolding whole_value
whole_value-read text d utf8 reads whole = rw (value_of_text text utf8, reads, whole)

pub whole_value-compact_text : (d : Data) → IsOfTree d → depth d ≤ max_depth → whole_value (compact_text d) ≡ Ok d
whole_value-compact_text d h shallow =
    whole_value-read (compact_text d) d (IsUtf8-compact_text d h) (read_compact_text d h shallow) (whole_of_tree d h)
