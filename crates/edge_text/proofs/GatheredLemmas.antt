-- Pairs that stand by source, gathered by it.
use Rattle.std.proofs.Common.{◌≡◌, refl, ap, sym, ◌∙◌, subst}
use Rattle.std.proofs.Math.Bool.{or_self_left}
use Rattle.std.proofs.lemmas.Map.Text.{is_eq-slice_cmp}
use Rattle.std.specs.Prelude.{Bool, true, false, ◌||◌, cond, List, [], ◌∷◌, Option, Some, None, map, if◌then◌else◌}
use Rattle.std.specs.Cmp.Lexicographic.{slice_cmp}
use Rattle.std.specs.List.{AllByRecursion, filter_map, list_any}
use Rattle.std.specs.List.Sorted.{IsStrictlySortedBy}
use Rattle.std.specs.Ordering.{nat_cmp, is_eq, is_gt}
use Rattle.std.specs.declared.cmp.Ordering.{Ordering}
use Rattle.std.specs.declared.cmp.Ordering.TheVariants.{Less, Equal, Greater}
use Rattle.alto_maps.specs.Shape.{Name, same_name}
use Rattle.alto_maps.specs.Places.{set_of}
use Rattle.alto_maps.specs.Touched.{Touched}
use Rattle.alto_maps.proofs.SetLemmas.{any-set_of, one, itself, AreAbove, Rise, above_lesser, none_above, rise-set_of}
use Rattle.doc_pieces.proofs.NameLemmas.{same_names}
use Rattle.edge_text.specs.Pairs.{Pair}
use Rattle.edge_text.proofs.PairLemmas.{AreBehind, Stand, destination_above, source_from}

-- a pair before groups: in the first, where that is its source's, else in one of its own
abbrev pub with_pair : Pair → List Touched → List Touched
with_pair p [] = (p.0, p.1 ∷ []) ∷ []
with_pair p (group ∷ groups) =
    cond (same_name p.0 group.0) ((p.0, p.1 ∷ group.1) ∷ groups) ((p.0, p.1 ∷ []) ∷ group ∷ groups)

-- pairs gathered by their source
abbrev pub gathered : List Pair → List Touched
gathered [] = []
gathered (p ∷ pairs) = with_pair p (gathered pairs)

abbrev pub names_in : List Touched → List Name
names_in groups = map (λ group. group.0) groups

abbrev pub sources_in : List Pair → List Name
sources_in pairs = map (λ p. p.0) pairs

-- the destination of a pair of a source
abbrev pub destination_of : Name → Pair → Option Name
destination_of src p = if same_name src p.0 then Some p.1 else None

-- those of a source
abbrev pub own : Name → List Pair → List Name
own src pairs = filter_map (destination_of src) pairs

-- ---- the names of the groups

-- the first group isn't of a source before this one
abbrev IsFrom : Name → List Touched → Type 0
IsFrom src [] = Unit {0}
IsFrom src (group ∷ groups) = is_gt (slice_cmp nat_cmp src group.0) ≡ false

from_first : (p : Pair) (pairs : List Pair) → AreBehind p pairs → IsFrom p.0 (gathered pairs)
from_first p [] behind = tt
from_first p (q ∷ pairs) behind = by (gathered pairs)
  where
    by : (groups : List Touched) → IsFrom p.0 (with_pair q groups)
    by [] = source_from p q behind.0
    by (group ∷ groups) = at (same_name q.0 group.0)
      where
        at : (b : Bool) → IsFrom p.0 (cond b ((q.0, q.1 ∷ group.1) ∷ groups) ((q.0, q.1 ∷ []) ∷ group ∷ groups))
        at true = source_from p q behind.0
        at false = source_from p q behind.0

-- a name that is neither behind another nor it is before it
is_before : (a b : Name) → is_gt (slice_cmp nat_cmp a b) ≡ false → same_name a b ≡ false → slice_cmp nat_cmp a b ≡ Less
is_before a b from other = by (slice_cmp nat_cmp a b) from (is_eq-slice_cmp a b ∙ other)
  where
    by : (o : Ordering) → is_gt o ≡ false → is_eq o ≡ false → o ≡ Less
    by Less g h = refl
    by Equal g h = cc
    by Greater g h = cc

rise-with_pair : (p : Pair) (groups : List Touched) → IsFrom p.0 groups → Rise (names_in groups)
    → Rise (names_in (with_pair p groups))
unfolding IsStrictlySortedBy
rise-with_pair p [] from rise = (tt, tt)
rise-with_pair p (group ∷ groups) from rise = by (same_name p.0 group.0) refl
  where
    by : (b : Bool) → same_name p.0 group.0 ≡ b
        → Rise (names_in (cond b ((p.0, p.1 ∷ group.1) ∷ groups) ((p.0, p.1 ∷ []) ∷ group ∷ groups)))
    by true e = (subst (λ n. AreAbove n (names_in groups)) (sym (one p.0 group.0 e)) rise.0, rise.1)
    by false e =
        let less : slice_cmp nat_cmp p.0 group.0 ≡ Less = is_before p.0 group.0 from e in
        ((less, above_lesser p.0 group.0 (names_in groups) less rise.0), rise)

pub names_rise : (pairs : List Pair) → Stand pairs → Rise (names_in (gathered pairs))
unfolding IsStrictlySortedBy
names_rise [] stand = tt
names_rise (p ∷ pairs) stand = rise-with_pair p (gathered pairs) (from_first p pairs stand.0) (names_rise pairs stand.1)

-- they are the sources
named : (q : Name) (pairs : List Pair)
    → list_any (same_name q) (names_in (gathered pairs)) ≡ list_any (same_name q) (sources_in pairs)
named q [] = refl
named q (p ∷ pairs) = by (gathered pairs) (named q pairs)
  where
    by : (groups : List Touched) → list_any (same_name q) (names_in groups) ≡ list_any (same_name q) (sources_in pairs)
        → list_any (same_name q) (names_in (with_pair p groups))
        ≡ (same_name q p.0 || list_any (same_name q) (sources_in pairs))
    by [] below = ap (λ b. same_name q p.0 || b) below
    by (group ∷ groups) below = at (same_name p.0 group.0) refl
      where
        at : (b : Bool) → same_name p.0 group.0 ≡ b
            → list_any (same_name q) (names_in
            (cond b ((p.0, p.1 ∷ group.1) ∷ groups) ((p.0, p.1 ∷ []) ∷ group ∷ groups)))
            ≡ (same_name q p.0 || list_any (same_name q) (sources_in pairs))
        at true e =
            let same : same_name q group.0 ≡ same_name q p.0 = ap (same_name q) (sym (one p.0 group.0 e)) in
            rw (← below, same) (sym (or_self_left (same_name q p.0) (list_any (same_name q) (names_in groups))))
        at false e = ap (λ b. same_name q p.0 || b) below

pub names_set : (pairs : List Pair) → Stand pairs → set_of (sources_in pairs) ≡ names_in (gathered pairs)
names_set pairs stand =
    same_names (set_of (sources_in pairs)) (names_in (gathered pairs)) (rise-set_of (sources_in pairs))
    (names_rise pairs stand)
    (λ q. any-set_of q (sources_in pairs) ∙ sym (named q pairs))

-- ---- their members

-- where there is no pair of a source, none is its own
none_own : (src : Name) (pairs : List Pair) → list_any (same_name src) (sources_in pairs) ≡ false → own src pairs ≡ []
none_own src [] none = refl
none_own src (p ∷ pairs) none = by (same_name src p.0) refl (none_own src pairs)
  where
    by : (b : Bool) → same_name src p.0 ≡ b → (list_any (same_name src) (sources_in pairs) ≡ false → own src pairs ≡ [])
        → own src (p ∷ pairs) ≡ []
    by true e below = let both : true ≡ false = rw e at none in cc
    by false e below = rw e (below (rw e at none))

-- those of other sources stay
own_other : (src : Name) (p : Pair) (pairs : List Pair) → same_name src p.0 ≡ false
    → own src (p ∷ pairs) ≡ own src pairs
own_other src p pairs e = rw e refl

own_more : (p : Pair) (pairs : List Pair) → own p.0 (p ∷ pairs) ≡ p.1 ∷ own p.0 pairs
own_more p pairs = rw (itself p.0) refl

-- groups have the members of their sources
abbrev HaveOwn : List Pair → List Touched → Type 0
HaveOwn pairs groups = AllByRecursion (λ group. group.1 ≡ own group.0 pairs) groups

-- a name above another isn't it
apart_above : (a b : Name) → slice_cmp nat_cmp a b ≡ Less → same_name b a ≡ false
apart_above a b less = by (same_name b a) refl
  where
    by : (c : Bool) → same_name b a ≡ c → same_name b a ≡ false
    by false e = e
    by true e =
        let it : same_name a b ≡ true = ap (same_name a) (one b a e) ∙ itself a in
        let no : same_name a b ≡ false = sym (is_eq-slice_cmp a b) ∙ ap is_eq less in
        cc

kept_above : (p : Pair) (pairs : List Pair) (groups : List Touched) → AreAbove p.0 (names_in groups)
    → HaveOwn pairs groups → HaveOwn (p ∷ pairs) groups
kept_above p pairs [] above have = tt
kept_above p pairs (group ∷ groups) above have = (
  have.0 ∙ sym (own_other group.0 p pairs (apart_above p.0 group.0 above.0)),
  kept_above p pairs groups above.1 have.1,
)

pub have_own : (pairs : List Pair) → Stand pairs → HaveOwn pairs (gathered pairs)
unfolding IsStrictlySortedBy
have_own [] stand = tt
have_own (p ∷ pairs) stand =
    by (gathered pairs) (from_first p pairs stand.0) (names_rise pairs stand.1) (have_own pairs stand.1)
    (λ q. named q pairs)
  where
    by : (groups : List Touched) → IsFrom p.0 groups → Rise (names_in groups) → HaveOwn pairs groups
        → ((q : Name) → list_any (same_name q) (names_in groups) ≡ list_any (same_name q) (sources_in pairs))
        → HaveOwn (p ∷ pairs) (with_pair p groups)
    by [] from rise have sources =
        (sym (own_more p pairs ∙ ap (λ ns. p.1 ∷ ns) (none_own p.0 pairs (sym (sources p.0)))), tt)
    by (group ∷ groups) from rise have sources = at (same_name p.0 group.0) refl
      where
        at : (b : Bool) → same_name p.0 group.0 ≡ b
            → HaveOwn (p ∷ pairs) (cond b ((p.0, p.1 ∷ group.1) ∷ groups) ((p.0, p.1 ∷ []) ∷ group ∷ groups))
        at true e =
            let same : p.0 ≡ group.0 = one p.0 group.0 e in (
              ap (λ ns. p.1 ∷ ns) (have.0 ∙ ap (λ n. own n pairs) (sym same)) ∙ sym (own_more p pairs),
              kept_above p pairs groups (subst (λ n. AreAbove n (names_in groups)) (sym same) rise.0) have.1,
            )
        at false e =
            let less : slice_cmp nat_cmp p.0 group.0 ≡ Less = is_before p.0 group.0 from e in
            let above : AreAbove p.0 (names_in (group ∷ groups)) =
            (less, above_lesser p.0 group.0 (names_in groups) less rise.0) in
            let none : list_any (same_name p.0) (sources_in pairs) ≡ false = sym (sources p.0)
            ∙ none_above p.0 p.0 (names_in (group ∷ groups)) above refl in (
              sym (own_more p pairs ∙ ap (λ ns. p.1 ∷ ns) (none_own p.0 pairs none)),
              kept_above p pairs (group ∷ groups) above have,
            )

-- the destinations of a source rise
own_above : (p : Pair) (pairs : List Pair) → AreBehind p pairs → AreAbove p.1 (own p.0 pairs)
own_above p [] behind = tt
own_above p (q ∷ pairs) behind = by (same_name p.0 q.0) refl (own_above p pairs behind.1)
  where
    by : (b : Bool) → same_name p.0 q.0 ≡ b → AreAbove p.1 (own p.0 pairs) → AreAbove p.1 (own p.0 (q ∷ pairs))
    by true e below = rw e (destination_above p.0 p.1 q.1 (rw (← one p.0 q.0 e) at behind.0), below)
    by false e below = rw e below

pub own_rise : (src : Name) (pairs : List Pair) → Stand pairs → Rise (own src pairs)
unfolding IsStrictlySortedBy
own_rise src [] stand = tt
own_rise src (p ∷ pairs) stand = by (same_name src p.0) refl (own_rise src pairs stand.1)
  where
    by : (b : Bool) → same_name src p.0 ≡ b → Rise (own src pairs) → Rise (own src (p ∷ pairs))
    by true e below =
        let same : src ≡ p.0 = one src p.0 e in
        rw e (subst (λ n. AreAbove p.1 (own n pairs)) (sym same) (own_above p pairs stand.0), below)
    by false e below = rw e below
