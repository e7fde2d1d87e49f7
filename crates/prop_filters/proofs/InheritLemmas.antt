-- What a block inherits is of the longest block around it that has the property.
use Rattle.std.proofs.Common.{◌≡◌, ℕ, ◌+◌, ◌*◌, ◌/◌, ◌%◌, ◌^◌, ◌-◌, ◌<◌, ◌≤◌, refl, ap, sym, ◌∙◌, arith, subst}
use Rattle.std.proofs.Common.{append_assoc, inl, inr}
use Rattle.std.proofs.lemmas.Bool.{leb-true, le-leb, and_parts, cases_lt}
use Rattle.std.proofs.lemmas.List.Elements.{filter-append, filter_map-append}
use Rattle.std.proofs.lemmas.List.Folds.{list_all-append}
use Rattle.std.proofs.lemmas.Nat.{div-add-mod'}
use Rattle.std.specs.Prelude.{Bool, true, false, cond, List, [], ◌∷◌, ◌++◌, Option, Some, None, nat_le}
use Rattle.std.specs.List.{AllByRecursion, filter, filter_map, find, list_all}
use Rattle.std.specs.Option.{option_map}
use denote.Struct.Props.{props}
use Rattle.alto_addr.specs.declared.addr.Addr.{Addr}
use Rattle.alto_addr.specs.declared.addr.Addr.TheVariants.{V4, V6}
use Rattle.alto_addr.specs.declared.prefix.Prefix.{Prefix}
use Rattle.alto_addr.specs.Bits.{Holds, IsPrefix}
use Rattle.alto_rows.specs.declared.entity.Entity.TheVariants as entity
use Rattle.alto_rows.specs.declared.key.Key.{Key}
use Rattle.alto_rows.specs.declared.key.Key.TheVariants as key
use Rattle.alto_rows.specs.declared.value.Value.{Value}
use Rattle.alto_names.specs.Name.{IsPropName}
use Rattle.alto_rows.specs.Good.{AreGood}
use Rattle.alto_rows.specs.Order.{same_name}
use Rattle.alto_rows.specs.Rows.{Rows, AreSorted, value_of}
use Rattle.alto_rows.proofs.RowsLemmas.{IsRow, row_of_value, value_of_row}
use Rattle.alto_rows.proofs.TouchesLemmas.{one_name, same_name_itself}
use Rattle.alto_maps.specs.Shape.{Name}
use Rattle.pid_prefix.specs.Longest.{holds}
use Rattle.pid_prefix.proofs.LongestLemmas.{holds_decides}
use Rattle.prop_docs.proofs.SourceLemmas.{no_name}
use Rattle.prop_filters.specs.Inherit.{IsAround, IsOfLongest, Valued, around, block_in, inherited, is_inside}
use Rattle.prop_filters.specs.Inherit.{is_longest, value_at}
use Rattle.prop_filters.specs.Laws.{InheritsFromLongest}

-- ---- the blocks around

-- each row is what its key tells
abbrev TellValues : Rows → Rows → Type 0
TellValues all rows = AllByRecursion (λ (row : Key × Value). value_of all row.0 ≡ Some row.1) rows

tell_rest : (all : Rows) → AreSorted all → (front back : Rows) → all ≡ front ++ back → TellValues all back
tell_rest all sorted front [] whole = tt
tell_rest all sorted front (row ∷ back) whole = (
  value_of_row all row.0 row.1 sorted (record { front = front; back = back; whole = whole }),
  tell_rest all sorted (front ++ row ∷ []) back (whole ∙ sym (append_assoc front (row ∷ []) back)),
)

-- a block around has this value of the property
abbrev IsFound : Rows → Name → Prefix → Name → Valued → Type 0
IsFound rows net block name outer = IsAround block outer.0 × (value_at rows net outer.0 name ≡ Some outer.1)

-- the test of being inside is right
inside_is : (inner outer : Prefix) → is_inside inner outer ≡ true → IsAround inner outer
inside_is inner outer e =
    let both = and_parts (nat_le outer.len inner.len) (holds outer.addr outer.len inner.addr) e in
    (leb-true outer.len inner.len both.0, (holds_decides outer.addr outer.len inner.addr).0 both.1)

inside_test : (inner outer : Prefix) → IsAround inner outer → is_inside inner outer ≡ true
inside_test inner outer h = rw (le-leb outer.len inner.len h.0, (holds_decides outer.addr outer.len inner.addr).1 h.1)
    refl

-- each block that is found around has its value
all_found : (all : Rows) (net : Name) (block : Prefix) (name : Name) (rows : Rows) → TellValues all rows
    → AllByRecursion (IsFound all net block name) (around rows net block name)
all_found all net block name [] tell = tt
all_found all net block name ((key.Prop of (entity.Block outer) other, v) ∷ rows) tell =
    by (same_name net of) (same_name name other) (is_inside block outer) refl refl
    refl (all_found all net block name rows tell.1)
  where
    -- its value is at the key that is looked for
    at_key : same_name net of ≡ true → same_name name other ≡ true → value_at all net outer name ≡ Some v
    at_key e f = rw (one_name net of e, one_name name other f) tell.0

    by : (a b c : Bool) → same_name net of ≡ a → same_name name other ≡ b → is_inside block outer ≡ c
        → AllByRecursion (IsFound all net block name) (around rows net block name)
        → AllByRecursion (IsFound all net block name)
        (around ((key.Prop of (entity.Block outer) other, v) ∷ rows) net block name)
    by true true true e f h below = rw (e, f, h) ((inside_is block outer h, at_key e f), below)
    by true true false e f h below = rw (e, f, h) below
    by true false c e f h below = rw (e, f) below
    by false b c e f h below = rw e below
all_found all net block name (_ ∷ rows) tell = all_found all net block name rows tell.1

-- what has a place in a list
record HasPlace (xs : List Valued) (x : Valued) : Type 0 where
  front : List Valued
  back : List Valued
  whole : xs ≡ front ++ x ∷ back

-- a block around with the property is found
among : (rows : Rows) (net : Name) (block : Prefix) (name : Name) (outer : Prefix) (v : Value) → IsAround block outer
    → value_at rows net outer name ≡ Some v
    → HasPlace (around rows net block name) (outer, v)
among rows net block name outer v inside is =
    let row : IsRow rows (key.Prop net (entity.Block outer) name) v =
    row_of_value rows (key.Prop net (entity.Block outer) name) v is in
    let one : Key × Value = (key.Prop net (entity.Block outer) name, v) in
    let head : around (one ∷ row.back) net block name ≡ (outer, v) ∷ around row.back net block name =
    rw (same_name_itself net, same_name_itself name, inside_test block outer inside) refl in
    record {
      front = around row.front net block name;
      back = around row.back net block name;
      whole = ap (λ all. around all net block name) row.whole
          ∙ (ap (filter (λ outer. is_inside block outer.0))
          (filter_map-append (block_in net name) row.front (one ∷ row.back))
          ∙ (filter-append (λ outer. is_inside block outer.0) (filter_map (block_in net name) row.front)
          (filter_map (block_in net name) (one ∷ row.back))
          ∙ ap (λ more. around row.front net block name ++ more) head));
    }

-- ---- what is found of a list

-- it passes, and has what each has
found_of : (P : Valued → Type 0) (p : Valued → Bool) (xs : List Valued) (x : Valued) → AllByRecursion P xs
    → find p xs ≡ Some x → P x × (p x ≡ true)
found_of P p [] x all e = absurd (cc)
found_of P p (next ∷ xs) x all e = by (p next) refl e (found_of P p xs x all.1)
  where
    by : (t : Bool) → p next ≡ t → cond t (Some next) (find p xs) ≡ Some x → (find p xs ≡ Some x → P x × (p x ≡ true))
        → P x × (p x ≡ true)
    by true f e rest = let same : next ≡ x = cc in (subst P same all.0, subst (λ y. p y ≡ true) same f)
    by false f e rest = rest e

-- where nothing is found, nothing passes
none_passes : (p : Valued → Bool) (front : List Valued) (x : Valued) (back : List Valued)
    → find p (front ++ x ∷ back) ≡ None → p x ≡ false
none_passes p [] x back e = by (p x) refl e
  where
    by : (t : Bool) → p x ≡ t → cond t (Some x) (find p back) ≡ None → p x ≡ false
    by true f e = absurd (cc)
    by false f e = f
none_passes p (next ∷ front) x back e = by (p next) e (none_passes p front x back)
  where
    by : (t : Bool) → cond t (Some next) (find p (front ++ x ∷ back)) ≡ None
        → (find p (front ++ x ∷ back) ≡ None → p x ≡ false) → p x ≡ false
    by true e rest = absurd (cc)
    by false e rest = rest e

-- where all pass a test, so does each
tested : (q : Valued → Bool) (front : List Valued) (x : Valued) (back : List Valued)
    → list_all q (front ++ x ∷ back) ≡ true → q x ≡ true
tested q front x back e =
    let both = and_parts (list_all q front) (list_all q (x ∷ back)) (sym (list_all-append q front (x ∷ back)) ∙ e) in
    (and_parts (q x) (list_all q back) both.1).0

test_all : (P : Valued → Type 0) (q : Valued → Bool) (xs : List Valued) → ((x : Valued) → P x → q x ≡ true)
    → AllByRecursion P xs → list_all q xs ≡ true
test_all P q [] each all = refl
test_all P q (x ∷ xs) each all = rw (each x all.0) (test_all P q xs each all.1)

-- ---- one block of a length

-- two numbers that agree in their first bits and have no others are one
one_number : (size a b c : ℕ) → a % size ≡ 0 → b % size ≡ 0 → a / size ≡ c / size → b / size ≡ c / size → a ≡ b
one_number size a b c none_a none_b e f =
    let same : a / size * size ≡ b / size * size = ap (λ n. n * size) (e ∙ sym f) in
    omega (arith, div-add-mod' a size, div-add-mod' b size)

one_address : (a b c : Addr) (len : ℕ) → IsPrefix a len → IsPrefix b len → Holds a len c → Holds b len c → a ≡ b
one_address (V4 a) (V4 b) (V4 c) len p q g h = ap (λ n. V4 n) (one_number (2 ^ (32 - len)) a b c p.1 q.1 g h)
one_address (V6 a) (V6 b) (V6 c) len p q g h = ap (λ n. V6 n) (one_number (2 ^ (128 - len)) a b c p.1 q.1 g h)
one_address (V4 a) b (V6 c) len p q g h = absurd g
one_address (V6 a) b (V4 c) len p q g h = absurd g
one_address (V4 a) (V6 b) (V4 c) len p q g h = absurd h
one_address (V6 a) (V4 b) (V6 c) len p q g h = absurd h

-- a prefix of these parts
abbrev made : (addr : Addr) (len : ℕ) → IsPrefix addr len → Prefix
made addr len is = record { addr = addr; len = len; is_prefix = is }

one_proof : (addr : Addr) (len : ℕ) → IsProp (IsPrefix addr len)
one_proof addr len = hlevel props

-- two blocks of one length around a block are one
pub one_around : (block p q : Prefix) → IsAround block p → IsAround block q → p.len ≡ q.len → p ≡ q
one_around block p q g h lens =
    let held : Holds p.addr q.len block.addr = subst (λ len. Holds p.addr len block.addr) lens g.1 in
    let is : IsPrefix p.addr q.len = subst (λ len. IsPrefix p.addr len) lens p.is_prefix in
    let addrs : p.addr ≡ q.addr = one_address p.addr q.addr block.addr q.len is q.is_prefix held h.1 in
    let same_len : (is : IsPrefix p.addr q.len) → p ≡ made p.addr q.len is =
    subst (λ len. (is : IsPrefix p.addr len)
    → p ≡ made p.addr len is) lens (λ is i. made p.addr p.len (one_proof p.addr p.len p.is_prefix is i)) in
    subst (λ addr. (is : IsPrefix addr q.len) → p ≡ made addr q.len is) addrs same_len q.is_prefix

-- ---- the longest

-- the blocks around that are found
found_around : (rows : Rows) (net : Name) (block : Prefix) (name : Name) → AreSorted rows
    → AllByRecursion (IsFound rows net block name) (around rows net block name)
found_around rows net block name sorted = all_found rows net block name rows (tell_rest rows sorted [] rows refl)

-- without a block around that has the property nothing is inherited
inherits_none : (rows : Rows) (net : Name) (block : Prefix) (name : Name) → AreSorted rows
    → IsOfLongest rows net block name None
    → (best : Option Valued) → find (is_longest (around rows net block name)) (around rows net block name) ≡ best
    → option_map (λ outer. outer.1) best ≡ None
inherits_none rows net block name sorted none None e = refl
inherits_none rows net block name sorted none (Some x) e =
    let found = found_of (IsFound rows net block name) (is_longest (around rows net block name))
    (around rows net block name) x (found_around rows net block name sorted) e in
    let some : None ≡ Some x.1 = sym (none x.0 found.0.0) ∙ found.0.1 in
    absurd (cc)

-- from the longest that has it its value is
inherits_some : (rows : Rows) (net : Name) (block : Prefix) (name : Name) (v : Value) → AreSorted rows
    → IsOfLongest rows net block name (Some v)
    → (best : Option Valued) → find (is_longest (around rows net block name)) (around rows net block name) ≡ best
    → option_map (λ outer. outer.1) best ≡ Some v
inherits_some rows net block name v sorted (outer, inside, is, longest) None e =
    let all = around rows net block name in
    let place : HasPlace all (outer, v) = among rows net block name outer v inside is in
    let passes : is_longest all (outer, v) ≡ true =
    test_all (IsFound rows net block name) (λ other. nat_le other.0.len outer.len)
    all (λ other found. le-leb other.0.len outer.len (longest other.0 other.1 found.0 found.1))
    (found_around rows net block name sorted) in
    let fails : is_longest all (outer, v) ≡ false =
    none_passes (is_longest all) place.front (outer, v) place.back (ap (find (is_longest all)) (sym place.whole) ∙ e) in
    let both : true ≡ false = sym passes ∙ fails in
    absurd (cc)
inherits_some rows net block name v sorted (outer, inside, is, longest) (Some x) e =
    let all = around rows net block name in
    let place : HasPlace all (outer, v) = among rows net block name outer v inside is in
    let found = found_of (IsFound rows net block name) (is_longest all) all
    x (found_around rows net block name sorted) e in
    let low : x.0.len ≤ outer.len = longest x.0 x.1 found.0.0 found.0.1 in
    let high : outer.len ≤ x.0.len =
    leb-true outer.len x.0.len
    (tested (λ other. nat_le other.0.len x.0.len) place.front (outer, v)
    place.back (ap (list_all (λ other. nat_le other.0.len x.0.len)) (sym place.whole) ∙ found.1)) in
    let same : x.0 ≡ outer = one_around block x.0 outer found.0.0 inside (omega arith) in
    sym found.0.1 ∙ (ap (λ p. value_at rows net p name) same ∙ is)

inherits : (rows : Rows) (net : Name) (block : Prefix) (name : Name) (found : Option Value) → AreSorted rows
    → IsOfLongest rows net block name found
    → inherited rows net block name ≡ found
unfolding inherited
inherits rows net block name None sorted none =
    inherits_none rows net block name sorted
    none (find (is_longest (around rows net block name)) (around rows net block name)) refl
inherits rows net block name (Some v) sorted one =
    inherits_some rows net block name v sorted
    one (find (is_longest (around rows net block name)) (around rows net block name)) refl

-- what none is longer than, nothing is longer than that is no longer
none_longer : (xs : List Valued) (low high : Valued) → low.0.len ≤ high.0.len → is_longest xs low ≡ true
    → is_longest xs high ≡ true
none_longer [] low high less e = refl
none_longer (x ∷ xs) low high less e =
    let both = and_parts (nat_le x.0.len low.0.len) (is_longest xs low) e in
    let under : x.0.len ≤ low.0.len = leb-true x.0.len low.0.len both.0 in
    rw (le-leb x.0.len high.0.len (omega arith), none_longer xs low high less both.1) refl

-- some element of a list is its longest
record HasLongest (xs : List Valued) : Type 0 where
  one : Valued
  place : HasPlace xs one
  longest : is_longest xs one ≡ true

some_longest : (x : Valued) (xs : List Valued) → HasLongest (x ∷ xs)
some_longest x [] = record {
  one = x;
  place = record { front = []; back = []; whole = refl };
  longest = rw (le-leb x.0.len x.0.len (omega arith)) refl;
}
some_longest x (next ∷ xs) =
    let rest : HasLongest (next ∷ xs) = some_longest next xs in
    elim (cases_lt rest.one.0.len x.0.len) [
      | inl less ↦ record {
        one = x;
        place = record { front = []; back = next ∷ xs; whole = refl };
        longest = rw (le-leb x.0.len x.0.len (omega arith))
            (none_longer (next ∷ xs) rest.one x (omega arith) rest.longest);
      }
      | inr more ↦ record {
        one = rest.one;
        place = record {
          front = x ∷ rest.place.front;
          back = rest.place.back;
          whole = ap (λ (ys : List Valued). x ∷ ys)
              rest.place.whole;
        };
        longest = rw (le-leb x.0.len rest.one.0.len (omega arith)) rest.longest;
      }
    ]

-- so where none is found the list is empty
no_place : (front : List Valued) (x : Valued) (back : List Valued) → [] ≡ front ++ x ∷ back → ⊥
no_place [] x back e = absurd (cc)
no_place (y ∷ front) x back e = absurd (cc)

none_there : (xs : List Valued) (x : Valued) → HasPlace xs x → find (is_longest xs) xs ≡ None → ⊥
none_there [] x place e = no_place place.front x place.back place.whole
none_there (y ∷ ys) x place e =
    let top : HasLongest (y ∷ ys) = some_longest y ys in
    let fails : is_longest (y ∷ ys) top.one ≡ false =
    none_passes (is_longest (y ∷ ys)) top.place.front top.one top.place.back
    (ap (find (is_longest (y ∷ ys))) (sym top.place.whole) ∙ e) in
    let both : true ≡ false = sym top.longest ∙ fails in
    absurd (cc)

-- what is found is of the longest
answers : (rows : Rows) (net : Name) (block : Prefix) (name : Name) → AreSorted rows → (best : Option Valued)
    → find (is_longest (around rows net block name)) (around rows net block name) ≡ best
    → IsOfLongest rows net block name (option_map (λ outer. outer.1) best)
answers rows net block name sorted None e = λ outer inside. by outer inside (value_at rows net outer name) refl
  where
    by : (outer : Prefix) → IsAround block outer → (found : Option Value) → value_at rows net outer name ≡ found
        → value_at rows net outer name ≡ None
    by outer inside None f = f
    by outer inside (Some v) f = absurd (none_there (around rows net block name) (outer, v)
        (among rows net block name outer v inside f) e)
answers rows net block name sorted (Some x) e =
    let all = around rows net block name in
    let found = found_of (IsFound rows net block name) (is_longest all) all
    x (found_around rows net block name sorted) e in
    (x.0, found.0.0, found.0.1, λ other w inside at. low other w (among rows net block name other w inside at) found.1)
  where
    low : (other : Prefix) (w : Value) → HasPlace (around rows net block name) (other, w)
        → is_longest (around rows net block name) x ≡ true → other.len ≤ x.0.len
    low other w place top =
        leb-true other.len x.0.len
        (tested (λ one. nat_le one.0.len x.0.len) place.front (other, w)
        place.back (ap (list_all (λ one. nat_le one.0.len x.0.len)) (sym place.whole) ∙ top))

of_longest : (rows : Rows) (net : Name) (block : Prefix) (name : Name) → AreSorted rows
    → IsOfLongest rows net block name (inherited rows net block name)
unfolding inherited
of_longest rows net block name sorted =
    answers rows net block name sorted (find (is_longest (around rows net block name)) (around rows net block name))
    refl

-- a value is inherited where it is of the longest, and only there
pub inherits_exactly : InheritsFromLongest
inherits_exactly rows net block name found sorted = (
  λ e. subst (IsOfLongest rows net block name) e (of_longest rows net block name sorted),
  inherits rows net block name found sorted,
)

-- ---- a search from the longest on

-- no block around with fewer bits less than this has the property
abbrev pub NoneLonger : Rows → Name → Prefix → Name → ℕ → Type 0
NoneLonger rows net block name fewer = (outer : Prefix) → IsAround block outer → block.len < fewer + outer.len
    → value_at rows net outer name ≡ None

-- none is longer than the block itself
pub none_at_first : (rows : Rows) (net : Name) (block : Prefix) (name : Name) → NoneLonger rows net block name 0
none_at_first rows net block name outer inside far = absurd (omega (arith, inside.0))

-- one length further on
pub none_more : (rows : Rows) (net : Name) (block : Prefix) (name : Name) (fewer : ℕ) (tried : Prefix)
    → NoneLonger rows net block name fewer
    → fewer ≤ block.len → IsAround block tried → tried.len ≡ block.len - fewer → value_at rows net tried name ≡ None
    → NoneLonger rows net block name (fewer + 1)
none_more rows net block name fewer tried before within inside len none outer around far =
    elim (cases_lt block.len (fewer + outer.len)) [
      | inl near ↦ before outer around near
      | inr not ↦
          let same : outer ≡ tried = one_around block outer tried around inside (omega arith) in
          ap (λ p. value_at rows net p name) same ∙ none
    ]

-- the first that has the property is the longest
pub first_is_longest : (rows : Rows) (net : Name) (block : Prefix) (name : Name) (fewer : ℕ) (tried : Prefix)
    (v : Value) → AreSorted rows → NoneLonger rows net block name fewer
    → fewer ≤ block.len → IsAround block tried → tried.len ≡ block.len - fewer → value_at rows net tried name ≡ Some v
    → inherited rows net block name ≡ Some v
first_is_longest rows net block name fewer tried v sorted before within inside len is =
    inherits rows net block name (Some v) sorted (tried, inside, is, longest)
  where
    longest : (other : Prefix) (w : Value) → IsAround block other → value_at rows net other name ≡ Some w
        → other.len ≤ tried.len
    longest other w around at =
        elim (cases_lt block.len (fewer + other.len)) [
          | inl near ↦ let none : None ≡ Some w = sym (before other around near) ∙ at in absurd (cc)
          | inr not ↦ omega arith
        ]

-- where no block around has it nothing is inherited
pub none_around : (rows : Rows) (net : Name) (block : Prefix) (name : Name) → AreSorted rows
    → IsOfLongest rows net block name None → inherited rows net block name ≡ None
none_around rows net block name sorted none = inherits rows net block name None sorted none

-- a name that no property has isn't inherited
pub not_inherited : (rows : Rows) (net : Name) (block : Prefix) (name : Name) → AreGood rows → ¬ (IsPropName name)
    → inherited rows net block name ≡ None
not_inherited rows net block name good not =
    none_around rows net block name good.sorted (λ outer around. no_name rows net name (entity.Block outer) good not)

-- so it is where none is left to try
pub none_left : (rows : Rows) (net : Name) (block : Prefix) (name : Name) (fewer : ℕ) → AreSorted rows
    → block.len < fewer → NoneLonger rows net block name fewer
    → inherited rows net block name ≡ None
none_left rows net block name fewer sorted all none =
    none_around rows net block name sorted (λ outer around. none outer around (omega arith))
