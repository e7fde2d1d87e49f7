-- Trees that are read token by token.
use Rattle.std.proofs.Common.{◌≡◌, ℕ, zero, suc, ◌-◌, ◌^◌, ◌<◌, ◌≤◌, ◌&&◌, ◌==◌, List, [], ◌∷◌, ◌++◌, length, get_or}
use Rattle.std.proofs.Common.{Bool, true, false, Option, Some, None, option_map, option_and_then, Ordering, Less, Equal}
use Rattle.std.proofs.Common.{Greater, nat_cmp, refl, ap, lt-ltb, arith}
use Rattle.std.specs.Cmp.Lexicographic.{slice_cmp}
use Rattle.std.specs.Ordering.{match_ordering}
use Rattle.fast_float.specs.Text.{IsInteger, digits_of, minus, scan}
use Rattle.json.specs.Token.{Token}
use Rattle.json.specs.Json as json
use Rattle.json.specs.Json.{Parse, parse_map, after_end_array, read_key, items, members}
use Rattle.json.proofs.Grammar.{after_end_array-shorter, read_key-shorter}
use Rattle.serde_json.specs.Data.{Data, array, object, unsigned, Items, no_items, item, Members, no_members, member}
use Rattle.serde_json.specs.Data.{put}
use Rattle.serde_json.specs.Read.{number_of, of_json, of_items, of_members, converted}
use Rattle.json_tree.specs.Tree.{data_of, items_data}
use Rattle.json_tree.specs.Whole.{is_whole, items_are_whole, members_are_whole}
use Rattle.json_tree.specs.declared.tree.Tree.{Tree}

abbrev from_some : {A : Type 0} → A → Option A → A
from_some other None = other
from_some other (Some a) = a

-- the values of trees, and behind them others
abbrev pub trees_before : List Tree → Items → Items
trees_before [] rest = rest
trees_before (tree ∷ trees) rest = item (data_of tree) (trees_before trees rest)

pub trees_before_none : (trees : List Tree) → trees_before trees no_items ≡ items_data trees
trees_before_none [] = refl
trees_before_none (tree ∷ trees) = ap (item (data_of tree)) (trees_before_none trees)

before_one : (trees : List Tree) (tree : Tree) (rest : Items)
    → trees_before trees (item (data_of tree) rest) ≡ trees_before (trees ++ tree ∷ []) rest
before_one [] tree rest = refl
before_one (first ∷ trees) tree rest = ap (item (data_of first)) (before_one trees tree rest)

-- one more tree
pub one_more_tree : (trees : List Tree) (tree : Tree) (read : Option (Items × List Token))
    → parse_map (trees_before trees) (parse_map (item (data_of tree)) read)
    ≡ parse_map (trees_before (trees ++ tree ∷ [])) read
one_more_tree trees tree None = refl
one_more_tree trees tree (Some p) = ap (λ items. Some (items, p.1)) (before_one trees tree p.0)

both : (a b : Bool) → (a && b) ≡ true → (a ≡ true) × (b ≡ true)
both true b h = (refl, h)
both false b h = absurd (cc)

pub items_whole_more : (trees : List Tree) (tree : Tree) → items_are_whole (items_data trees) ≡ true
    → is_whole (data_of tree) ≡ true → items_are_whole (items_data (trees ++ tree ∷ [])) ≡ true
items_whole_more [] tree before whole = rw whole
items_whole_more (first ∷ trees) tree before whole =
    let parts = both (is_whole (data_of first)) (items_are_whole (items_data trees)) before in
    rw parts.0 (items_whole_more trees tree parts.1 whole)

one_of : (o : Ordering) (less same more : Members) → members_are_whole less ≡ true → members_are_whole same ≡ true
    → members_are_whole more ≡ true → members_are_whole (match_ordering o less same more) ≡ true
one_of Less less same more a b c = a
one_of Equal less same more a b c = b
one_of Greater less same more a b c = c

-- a member whose numbers are whole leaves those of the members so
pub put_whole : (name : List ℕ) (d : Data) (ms : Members) → members_are_whole ms ≡ true → is_whole d ≡ true
    → members_are_whole (put name d ms) ≡ true
put_whole name d no_members before whole = rw whole
put_whole name d (member k e ms) before whole =
    let parts = both (is_whole e) (members_are_whole ms) before in
    one_of (slice_cmp nat_cmp name k) _ _ _ (rw (whole, parts.0) parts.1) (rw whole parts.1)
    (rw parts.0 (put_whole name d ms parts.1 whole))

-- the numeral of digits alone, which fits 64 bits, is the number that they write
pub number_of_digits : (text : List ℕ) (n : ℕ) → (get_or text 0 0 == minus) ≡ false
    → IsInteger (scan text) × (digits_of (scan text) < 2 ^ 64) → n ≡ digits_of (scan text)
    → number_of text ≡ Some (unsigned n)
unfolding number_of
number_of_digits text n unsigned_text fits is =
    rw (unsigned_text, lt-ltb _ _ fits.0.0, fits.0.1, fits.0.2, is) (rw (lt-ltb _ _ fits.1))

-- ---- what the grammar reads, as values

found : {B : Type 0} (left rest : List Token) (value : Option B) (b : B)
    → option_map {U = B × List Token} (λ y. (y, left)) value ≡ Some (b, rest) → (left ≡ rest) × (value ≡ Some b)
found left rest None b e = absurd (cc)
found left rest (Some y) b e = let same = ap (from_some (y, left)) e in (ap (λ p. p.1) same, ap (λ p. Some p.0) same)

read_as : {A B : Type 0} (f : A → Option B) (o : Option (A × List Token)) (b : B) (left : List Token)
    → converted f o ≡ Some (b, left) → (a : A) × (o ≡ Some (a, left)) × (f a ≡ Some b)
read_as f None b left e = absurd (cc)
read_as f (Some p) b left e =
    let both = found p.1 left (f p.0) b e in (p.0, ap (λ rest. Some (p.0, rest)) both.0, both.1)

inside : {A B : Type 0} (g : A → B) (left : List Token) (o : Option A)
    → option_map (λ b. (b, left)) (option_map g o) ≡ parse_map g (option_map (λ a. (a, left)) o)
inside g left None = refl
inside g left (Some a) = refl

pub array_read : (o : Option (json.Items × List Token))
    → converted of_json (parse_map json.array o) ≡ parse_map array (converted of_items o)
array_read None = refl
array_read (Some p) = inside array p.1 (of_items p.0)

pub object_read : (o : Option (json.Members × List Token))
    → converted of_json (parse_map json.object o) ≡ parse_map object (converted (λ ms. of_members ms no_members) o)
object_read None = refl
object_read (Some p) = inside object p.1 (of_members p.0 no_members)

with_item : (j : json.Json) (d : Data) → of_json j ≡ Some d → (o : Option (json.Items × List Token))
    → converted of_items (parse_map (json.item j) o) ≡ parse_map (item d) (converted of_items o)
with_item j d e None = refl
with_item j d e (Some p) = rw e (inside (item d) p.1 (of_items p.0))

with_found : (k : List ℕ) (j : json.Json) (d : Data) (before : Members) → of_json j ≡ Some d
    → (o : Option (json.Members × List Token)) → converted (λ ms. of_members ms before) (parse_map (json.member k j) o)
    ≡ converted (λ ms. of_members ms (put k d before)) o
with_found k j d before e None = refl
with_found k j d before e (Some p) = rw e

module _ (read : Parse json.Json) where
  -- a value, and then the rest of the list
  pub item_then : (n : ℕ) (ts left : List Token) (d : Data) → 0 < n → after_end_array ts ≡ None
      → converted of_json (read ts) ≡ Some (d, left)
      → converted of_items (items read n ts) ≡ parse_map (item d) (converted of_items (items read (n - 1) left))
  unfolding items
  item_then zero ts left d some more e = absurd (omega (arith, some))
  item_then (suc n) ts left d some more e =
      let one = read_as of_json (read ts) d left e in
      let rest : suc n - 1 ≡ n = omega arith in
      rw (rest, more, one.1) (with_item one.0 d one.2 (items read n left))

  -- the end of a list
  pub items_end : (n : ℕ) (ts left : List Token) → length ts ≤ n → after_end_array ts ≡ Some left
      → converted of_items (items read n ts) ≡ Some (no_items, left)
  unfolding items
  items_end zero ts left enough e = absurd (omega (arith, after_end_array-shorter ts left e))
  items_end (suc n) ts left enough e = rw e

  -- a member, and then the rest of the object
  pub member_then : (before : Members) (n : ℕ) (k : List ℕ) (ts at left : List Token) (d : Data) → 0 < n
      → read_key ts ≡ Some (Some k, at) → converted of_json (read at) ≡ Some (d, left)
      → converted (λ ms. of_members ms before) (members read n ts)
      ≡ converted (λ ms. of_members ms (put k d before)) (members read (n - 1) left)
  unfolding members
  member_then before zero k ts at left d some key e = absurd (omega (arith, some))
  member_then before (suc n) k ts at left d some key e =
      let one = read_as of_json (read at) d left e in
      let rest : suc n - 1 ≡ n = omega arith in
      rw (rest, key, one.1) (with_found k one.0 d before one.2 (members read n left))

  -- the end of an object
  pub members_end : (before : Members) (n : ℕ) (ts left : List Token) → length ts ≤ n
      → read_key ts ≡ Some (None, left)
      → converted (λ ms. of_members ms before) (members read n ts) ≡ Some (before, left)
  unfolding members
  members_end before zero ts left enough e = absurd (omega (arith, read_key-shorter ts None left e))
  members_end before (suc n) ts left enough e = rw e

-- all of a text
pub read_whole : (o : Option (json.Json × List Token)) (d : Data) → converted of_json o ≡ Some (d, [])
    → option_and_then of_json (option_and_then (λ p. json.if_last p.0 p.1) o) ≡ Some d
read_whole o d e = let one = read_as of_json o d [] e in rw one.1 one.2
