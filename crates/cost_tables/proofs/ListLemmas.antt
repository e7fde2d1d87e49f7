-- Sources with the lists of their destinations: what they tell as a table, how numbers go on, and where places are
-- right.
use Rattle.std.proofs.Common.{◌≡◌, ◌≢◌, ℕ, zero, suc, ◌<◌, refl, ap, sym, subst, ◌∙◌, arith, append_assoc, inl, inr}
use Rattle.std.proofs.Common.{Bor}
use Rattle.std.proofs.Math.Dec.{eqb}
use Rattle.std.proofs.lemmas.Bool.{eq-eqb}
use Rattle.std.proofs.lemmas.Bool.Decides.{eqb_tells}
use Rattle.std.proofs.lemmas.List.{append-nil}
use Rattle.std.proofs.lemmas.Map.Made.{lookup-map_values}
use Rattle.std.specs.Prelude.{Bool, true, false, cond, ◌⊎◌, List, [], ◌∷◌, ◌++◌, ◌+◌, Option, None, Some, IfSome, map}
use Rattle.std.specs.Prelude.{option_and_then, option_map, slice_get}
use Rattle.std.specs.BTreeMap.{is_at}
use Rattle.std.specs.List.{AllByRecursion}
use Rattle.std.specs.Map.{keys_of, lookup}
use Rattle.std.specs.Option.{option_to_list}
use Rattle.alto_rows.specs.Order.{name_cmp}
use Rattle.cost_tables.specs.Lists.{AreNumbered, ArePlaces, ArePlacesIn, HasNumber, HaveNumbers}
use Rattle.cost_tables.specs.Lists.{IsNumberedBehind, IsSharedOrNew}
use Rattle.cost_tables.specs.Lists.{Listed, Numbered, Sources, table_of}
use Rattle.cost_tables.specs.Renewed.{Changes, name_of, put}
use Rattle.cost_tables.specs.Tables.{Costs, Name, cost_to, cost_told}
use Rattle.shared_list.proofs.ChangedLemmas.{all_changed}
use Rattle.shared_list.specs.Changed.{Change, changed}

-- ---- sources told as a table

pub keys_of-table_of : (sources : Sources) → keys_of (table_of sources) ≡ keys_of sources
keys_of-table_of [] = refl
keys_of-table_of (source ∷ sources) = ap (λ (more : List Name). source.0 ∷ more) (keys_of-table_of sources)

-- the costs of a source
pub lookup-table_of : (test : Name → Bool) (sources : Sources)
    → lookup test (table_of sources) ≡ option_map (λ from. from.costs) (lookup test sources)
lookup-table_of test sources = lookup-map_values (λ (from : Listed). from.costs) test sources

-- ---- what holds of each source

module _ (P : Name × Listed → Type 0) where
  all_append : (xs ys : Sources) → AllByRecursion P xs → AllByRecursion P ys → AllByRecursion P (xs ++ ys)
  all_append [] ys a b = b
  all_append (x ∷ xs) ys a b = (a.0, all_append xs ys a.1 b)

  pub all_left : (xs ys : Sources) → AllByRecursion P (xs ++ ys) → AllByRecursion P xs
  all_left [] ys h = tt
  all_left (x ∷ xs) ys h = (h.0, all_left xs ys h.1)

  all_right : (xs ys : Sources) → AllByRecursion P (xs ++ ys) → AllByRecursion P ys
  all_right [] ys h = h
  all_right (x ∷ xs) ys h = all_right xs ys h.1

  all_at : (xs : Sources) (place : ℕ) (x : Name × Listed) → AllByRecursion P xs → slice_get xs place ≡ Some x → P x
  all_at [] place x h there = cc
  all_at (first ∷ xs) zero x h there = let same : first ≡ x = cc in subst P same h.0
  all_at (first ∷ xs) (suc place) x h there = all_at xs place x h.1 there

all_weaker : (P Q : Name × Listed → Type 0) → ((x : Name × Listed) → P x → Q x) → (xs : Sources) → AllByRecursion P xs
    → AllByRecursion Q xs
all_weaker P Q give [] h = tt
all_weaker P Q give (x ∷ xs) h = (give x h.0, all_weaker P Q give xs h.1)

-- what holds of each source's costs and list holds of those that are found
pub all_found : (Q : Listed → Type 0) (test : Name → Bool) (xs : Sources) (x : Listed)
    → AllByRecursion (λ source. Q source.1) xs → lookup test xs ≡ Some x → Q x
all_found Q test [] x h found = cc
all_found Q test (first ∷ xs) x h found = by (test first.0) refl found (λ later. all_found Q test xs x h.1 later)
  where
    by : (b : Bool) → test first.0 ≡ b → cond b (Some first.1) (lookup test xs) ≡ Some x
        → (lookup test xs ≡ Some x → Q x) → Q x
    by true e here rest = let same : first.1 ≡ x = cc in subst Q same h.0
    by false e later rest = rest later

-- ---- numbers

pub none_numbered : (next : ℕ) → AreNumbered next []
none_numbered next = record { names_of = λ number. []; each = tt }

pub have_numbers : (next : ℕ) (xs : Sources) → AreNumbered next xs → HaveNumbers xs
have_numbers next xs numbered = record {
  names_of = numbered.names_of;
  same = all_weaker (λ source. HasNumber numbered.names_of next source.1)
      (λ source. source.1.list.names ≡ numbered.names_of source.1.list.number) (λ x has. has.0) xs numbered.each;
}

later_number : (names_of : ℕ → List Name) (number : ℕ) (xs : Sources)
    → AllByRecursion (λ source. HasNumber names_of number source.1) xs
    → AllByRecursion (λ source. HasNumber names_of (number + 1) source.1) xs
later_number names_of number xs each =
    all_weaker (λ source. HasNumber names_of number source.1) (λ source. HasNumber names_of (number + 1) source.1)
    (λ x has. (has.0, let less : x.1.list.number < number = has.1 in omega arith)) xs each

-- no source is put, and the number is passed over
pub numbers_next : (number : ℕ) (xs : Sources) → AreNumbered number xs → AreNumbered (number + 1) (xs ++ [])
numbers_next number xs numbered =
    record {
      names_of = numbered.names_of;
      each = all_append (λ source. HasNumber numbered.names_of (number + 1) source.1)
          xs [] (later_number numbered.names_of number xs numbered.each) tt;
    }

-- a source is put, with a list whose number has its names, or a new one under the number
pub numbers_put : (number : ℕ) (xs : Sources) (x : Name × Listed) → IsNumberedBehind xs number x.1
    → AreNumbered number xs → AreNumbered (number + 1) (xs ++ x ∷ [])
numbers_put number xs x behind numbered = by (behind numbered.names_of numbered.each)
  where
    by : HasNumber numbered.names_of number x.1 ⊎ (x.1.list.number ≡ number) → AreNumbered (number + 1) (xs ++ x ∷ [])
    by (inl has) = record {
      names_of = numbered.names_of;
      each = all_append (λ source. HasNumber numbered.names_of (number + 1) source.1) xs (x ∷ [])
          (later_number numbered.names_of number xs numbered.each)
          ((has.0, let less : x.1.list.number < number = has.1 in omega arith), tt);
    }
    by (inr own) = record {
      names_of = names_of;
      each = all_append (λ source. HasNumber names_of (number + 1) source.1) xs (x ∷ [])
          (all_weaker (λ source. HasNumber numbered.names_of number source.1)
          (λ source. HasNumber names_of (number + 1) source.1) old xs numbered.each)
          ((rw (eq-eqb x.1.list.number number own) refl, rw own (omega arith)), tt);
    }
      where
        names_of : ℕ → List Name
        names_of n = cond (eqb n number) x.1.list.names (numbered.names_of n)

        old : (source : Name × Listed) → HasNumber numbered.names_of number source.1
            → HasNumber names_of (number + 1) source.1
        old source has = apart (eqb_tells source.1.list.number number)
          where
            less : source.1.list.number < number
            less = has.1

            apart : ((eqb source.1.list.number number ≡ true) × (source.1.list.number ≡ number))
                ⊎ ((eqb source.1.list.number number ≡ false) × (source.1.list.number ≢ number))
                → HasNumber names_of (number + 1) source.1
            apart (inl p) = let is : source.1.list.number ≡ number = p.1 in absurd (omega arith)
            apart (inr p) = (rw p.0 has.0, omega arith)

-- a list that is shared with one whose number has its names, or is a new one
pub shared_or_new : (number : ℕ) (xs : Sources) (x : Listed) (like : Option (Bor (Name × Listed)))
    → ((names_of : ℕ → List Name) (next : ℕ) → AllByRecursion (λ source. HasNumber names_of next source.1) xs
    → IfSome like (λ from. HasNumber names_of next from.now.1))
    → IsSharedOrNew (option_map (λ from. from.now.1.list) like) number x.list → IsNumberedBehind xs number x
shared_or_new number xs x None holds (inl shared) names_of each = cc
shared_or_new number xs x (Some like) holds (inl shared) names_of each =
    let is : like.now.1.list ≡ x.list = cc in
    let has : HasNumber names_of number like.now.1 = holds names_of number each in
    inl (
      subst (λ (list : Numbered). list.names ≡ names_of list.number) is has.0,
      subst (λ (list : Numbered). list.number < number) is has.1,
    )
shared_or_new number xs x like holds (inr own) names_of each = inr own

-- ---- sources that changes put

put-push : (changes : Changes) (change : Change (Name × Listed))
    → put (changes ++ change ∷ []) ≡ put changes ++ option_to_list change.1
put-push [] change = append-nil (option_to_list change.1)
put-push (first ∷ changes) change =
    ap (λ more. option_to_list first.1 ++ more) (put-push changes change)
    ∙ sym (append_assoc (option_to_list first.1) (put changes) (option_to_list change.1))

-- one change more
pub numbers_more : (number : ℕ) (xs : Sources) (changes : Changes) (change : Change (Name × Listed))
    → IfSome change.1 (λ from. IsNumberedBehind (xs ++ put changes) number from.1)
    → AreNumbered number (xs ++ put changes) → AreNumbered (number + 1) (xs ++ put (changes ++ change ∷ []))
numbers_more number xs changes change behind numbered =
    subst (AreNumbered (number + 1))
    (append_assoc xs (put changes) (option_to_list change.1)
    ∙ ap (λ more. xs ++ more) (sym (put-push changes change))) (by change.1 behind)
  where
    by : (own : Option (Name × Listed)) → IfSome own (λ from. IsNumberedBehind (xs ++ put changes) number from.1)
        → AreNumbered (number + 1) ((xs ++ put changes) ++ option_to_list own)
    by None behind = numbers_next number (xs ++ put changes) numbered
    by (Some from) behind = numbers_put number (xs ++ put changes) from behind numbered

module _ (P : Name × Listed → Type 0) where
  each_put : (changes : Changes) → AllByRecursion P (put changes)
      → AllByRecursion (λ change. IfSome change.1 P) changes
  each_put [] h = tt
  each_put (change ∷ changes) h = (
    by change.1 (all_left P (option_to_list change.1) (put changes) h),
    each_put changes (all_right P (option_to_list change.1) (put changes) h),
  )
    where
      by : (own : Option (Name × Listed)) → AllByRecursion P (option_to_list own) → IfSome own P
      by None h = tt
      by (Some from) h = h.0

  -- what holds of all that were there and of all that are put
  pub all_put_at : (xs : Sources) (changes : Changes) (place : ℕ)
      (change : Change (Name × Listed)) → AllByRecursion P (xs ++ put changes)
      → slice_get changes place ≡ Some change → IfSome change.1 P
  all_put_at xs changes place change h there =
      at changes place (each_put changes (all_right P xs (put changes) h)) there
    where
      at : (rest : Changes) (place : ℕ) → AllByRecursion (λ change. IfSome change.1 P) rest
          → slice_get rest place ≡ Some change → IfSome change.1 P
      at [] place h there = cc
      at (first ∷ rest) zero h there =
          let same : first ≡ change = cc in subst (λ (change : Change (Name × Listed)). IfSome change.1 P) same h.0
      at (first ∷ rest) (suc place) h there = at rest place h.1 there

-- and so the sources after changes are numbered
pub changed_numbered : (next : ℕ) (xs : Sources) (changes : Changes)
    → AreNumbered next (xs ++ put changes) → AreNumbered next (changed name_of xs changes)
changed_numbered next xs changes numbered = record {
  names_of = numbered.names_of;
  each = all_changed name_of (λ source. HasNumber numbered.names_of next source.1) xs changes
      (all_left (λ source. HasNumber numbered.names_of next source.1) xs (put changes) numbered.each)
      (each_put (λ source. HasNumber numbered.names_of next source.1) changes
      (all_right (λ source. HasNumber numbered.names_of next source.1) xs (put changes) numbered.each));
}

-- ---- places

-- where there is no number yet
pub no_places : (sources : Sources) (dsts : List Name) (places : List ℕ) → ArePlacesIn sources None dsts places
no_places [] dsts places = tt
no_places (source ∷ sources) dsts places = ((λ none. cc), no_places sources dsts places)

-- places that are right in the list of a source are right in each with its number
pub places_in : (sources : Sources) (test : Name → Bool) (x : Listed) (dsts : List Name) (places : List ℕ)
    → HaveNumbers sources
    → lookup test sources ≡ Some x → ArePlaces x.list.names dsts places
    → ArePlacesIn sources (Some x.list.number) dsts places
places_in sources test x dsts places numbers found right =
    all_weaker (λ source. source.1.list.names ≡ numbers.names_of source.1.list.number)
    (λ source. Some x.list.number ≡ Some source.1.list.number → ArePlaces source.1.list.names dsts places)
    (λ source same is.
    let one : x.list.number ≡ source.1.list.number = cc in
    let names : x.list.names ≡ source.1.list.names = own ∙ (ap numbers.names_of one ∙ sym same) in
    subst (λ (names : List Name). ArePlaces names dsts places) names right)
    sources numbers.same
  where
    own : x.list.names ≡ numbers.names_of x.list.number
    own =
        all_found (λ listed. listed.list.names ≡ numbers.names_of listed.list.number) test sources x numbers.same found

-- and so is what was right in each
pub places_of : (sources : Sources) (test : Name → Bool) (x : Listed) (number : Option ℕ) (dsts : List Name)
    (places : List ℕ)
    → ArePlacesIn sources number dsts places → lookup test sources ≡ Some x → number ≡ Some x.list.number
    → ArePlaces x.list.names dsts places
places_of sources test x number dsts places right found is =
    all_found (λ listed. number ≡ Some listed.list.number → ArePlaces listed.list.names dsts places) test sources x
    right found is

-- ---- what the costs of a source tell

pub told_found : (sources : Sources) (src : Name) (x : Listed) (dsts : List Name)
    → lookup (is_at (name_cmp src)) sources ≡ Some x
    → map (cost_to x.costs) dsts ≡ map (cost_told (table_of sources) src) dsts
told_found sources src x dsts found =
    sym (ap (λ costs. map (λ dst. option_and_then (λ (from : Costs). cost_to from dst) costs) dsts)
    (lookup-table_of (is_at (name_cmp src)) sources ∙ ap (option_map (λ (from : Listed). from.costs)) found))

pub told_none : (sources : Sources) (src : Name) (dsts : List Name) → lookup (is_at (name_cmp src)) sources ≡ None
    → map (λ dst. None) dsts ≡ map (cost_told (table_of sources) src) dsts
told_none sources src dsts none =
    sym (ap (λ costs. map (λ dst. option_and_then (λ (from : Costs). cost_to from dst) costs) dsts)
    (lookup-table_of (is_at (name_cmp src)) sources ∙ ap (option_map (λ (from : Listed). from.costs)) none))
