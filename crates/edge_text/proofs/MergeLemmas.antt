-- Pairs that are written one behind another, between the beginnings and ends of their groups, are the groups of a merge
-- patch.
use Rattle.std.proofs.Common.{◌≡◌, ℕ, refl, ap, sym, ◌∙◌, subst, append_assoc}
use Rattle.std.specs.Prelude.{Bool, true, false, cond, List, [], ◌∷◌, ◌++◌, Option, Some, None, map, unwrap_or}
use Rattle.std.specs.Prelude.{option_map, if◌then◌else◌}
use Rattle.std.specs.List.{AllByRecursion}
use Rattle.std.specs.List.Sorted.{IsStrictlySortedBy}
use Rattle.json.specs.Token.{Token, key, end_object}
use Rattle.json.specs.Tree.{json_tokens, members_tokens}
use Rattle.serde_json.specs.Data.{Data, number, object, unsigned}
use Rattle.serde_json.specs.Data as json
use Rattle.serde_json.specs.Written.{outline, members_outline}
use Rattle.json_tree.specs.Document.{members_of}
use Rattle.json_tree.specs.Tree.{members_in_order}
use Rattle.alto_rows.specs.declared.key.Key.{Key}
use Rattle.alto_rows.specs.Good.{AreGood}
use Rattle.alto_rows.specs.Order.{key_cmp}
use Rattle.alto_rows.specs.Rows.{Rows}
use Rattle.alto_maps.specs.MergeForm.{change_of, group_change}
use Rattle.alto_maps.specs.Places.{touched_groups, touched_members}
use Rattle.alto_maps.specs.Shape.{Name, Face, member_in, same_name, stands}
use Rattle.alto_maps.specs.Touched.{Touched}
use Rattle.alto_maps.specs.declared.place.Place.{Place}
use Rattle.alto_maps.proofs.RisingLemmas.{named-rising}
use Rattle.alto_maps.proofs.SetLemmas.{Rise, itself, one, rise-set_of}
use Rattle.alto_rows.specs.Costs.{cost_of}
use Rattle.cost_docs.specs.CostMap.{cost_face}
use Rattle.cost_docs.proofs.StandsLemmas.{member_is}
use Rattle.edge_text.specs.Merge.{Begun, begin_tokens, begun_behind, change_tokens, cost_token, end_if, pair_tokens}
use Rattle.edge_text.specs.Merge.{standing, tokens_left}
use Rattle.edge_text.specs.Pairs.{Pair, pairs_of}
use Rattle.edge_text.proofs.GatheredLemmas.{gathered, have_own, own, own_rise, with_pair}
use Rattle.edge_text.proofs.PairLemmas.{Stand, pairs_stand}
use Rattle.edge_text.proofs.PlaceLemmas.{parts_are, places_of}

-- ---- pairs, gathered by source

-- members of a group that are left, and its end
abbrev rest_tokens : (cost : Name → Name → Option ℕ) → Bool → Name → List Name → List Token
rest_tokens cost s g [] = end_if s
rest_tokens cost s g (m ∷ ms) = change_tokens s m (cost g m) ++ rest_tokens cost s g ms

-- groups
abbrev pub group_tokens : (stands : Name → Bool) → (cost : Name → Name → Option ℕ) → List Touched → List Token
group_tokens st cost [] = []
group_tokens st cost (group ∷ groups) =
    begin_tokens group.0 (st group.0) ++ (rest_tokens cost (st group.0) group.0 group.1 ++ group_tokens st cost groups)

-- groups that are left where one is begun: the rest of it, if the first is of its source, else its end
abbrev groups_left : (stands : Name → Bool) → (cost : Name → Name → Option ℕ) → Begun → List Touched → List Token
groups_left st cost None groups = group_tokens st cost groups
groups_left st cost (Some b) [] = end_if b.1
groups_left st cost (Some b) (group ∷ groups) =
    cond (same_name b.0 group.0) (rest_tokens cost b.1 group.0 group.1 ++ group_tokens st cost groups)
    (end_if b.1 ++ group_tokens st cost (group ∷ groups))

-- the first pair of a group, before groups that are left
first_before : (st : Name → Bool) (cost : Name → Name → Option ℕ) (p : Pair) (groups : List Touched)
    → (begin_tokens p.0 (st p.0) ++ change_tokens (st p.0) p.1 (cost p.0 p.1))
    ++ groups_left st cost (Some (p.0, st p.0)) groups
    ≡ group_tokens st cost (with_pair p groups)
first_before st cost p [] = by (st p.0)
  where
    by : (s : Bool) → (begin_tokens p.0 s ++ change_tokens s p.1 (cost p.0 p.1)) ++ end_if s
        ≡ begin_tokens p.0 s ++ ((change_tokens s p.1 (cost p.0 p.1) ++ end_if s) ++ [])
    by true = refl
    by false = refl
first_before st cost p (group ∷ groups) = at (same_name p.0 group.0) refl
  where
    at : (b : Bool) → same_name p.0 group.0 ≡ b
        → (begin_tokens p.0 (st p.0) ++ change_tokens (st p.0) p.1 (cost p.0 p.1))
        ++ cond b (rest_tokens cost (st p.0) group.0 group.1 ++ group_tokens st cost groups)
        (end_if (st p.0) ++ group_tokens st cost (group ∷ groups))
        ≡ group_tokens st cost (cond b ((p.0, p.1 ∷ group.1) ∷ groups) ((p.0, p.1 ∷ []) ∷ group ∷ groups))
    at true e = by (st p.0) ∙ ap (λ g. begin_tokens p.0 (st p.0)
        ++ ((change_tokens (st p.0) p.1 (cost p.0 p.1) ++ rest_tokens cost (st p.0) g group.1)
        ++ group_tokens st cost groups)) (sym (one p.0 group.0 e))
      where
        by : (s : Bool) → (begin_tokens p.0 s ++ change_tokens s p.1 (cost p.0 p.1))
            ++ (rest_tokens cost s group.0 group.1 ++ group_tokens st cost groups)
            ≡ begin_tokens p.0 s ++ ((change_tokens s p.1 (cost p.0 p.1) ++ rest_tokens cost s group.0 group.1)
            ++ group_tokens st cost groups)
        by true = refl
        by false = refl
    at false e = by (st p.0)
      where
        by : (s : Bool) → (begin_tokens p.0 s ++ change_tokens s p.1 (cost p.0 p.1))
            ++ (end_if s ++ group_tokens st cost (group ∷ groups))
            ≡ begin_tokens p.0 s ++ ((change_tokens s p.1 (cost p.0 p.1) ++ end_if s)
            ++ group_tokens st cost (group ∷ groups))
        by true = refl
        by false = refl

-- a pair of the group that is begun, before groups that are left
more_before : (st : Name → Bool) (cost : Name → Name → Option ℕ) (s : Bool) (p : Pair) (groups : List Touched)
    → change_tokens s p.1 (cost p.0 p.1) ++ groups_left st cost (Some (p.0, s)) groups
    ≡ groups_left st cost (Some (p.0, s)) (with_pair p groups)
more_before st cost s p [] = rw (itself p.0) (by s)
  where
    by : (s : Bool) → change_tokens s p.1 (cost p.0 p.1) ++ end_if s
        ≡ (change_tokens s p.1 (cost p.0 p.1) ++ end_if s) ++ []
    by true = refl
    by false = refl
more_before st cost s p (group ∷ groups) = at (same_name p.0 group.0) refl
  where
    at : (b : Bool) → same_name p.0 group.0 ≡ b
        → change_tokens s p.1 (cost p.0 p.1)
        ++ cond b (rest_tokens cost s group.0 group.1 ++ group_tokens st cost groups)
        (end_if s ++ group_tokens st cost (group ∷ groups))
        ≡ groups_left st cost (Some (p.0, s))
        (cond b ((p.0, p.1 ∷ group.1) ∷ groups) ((p.0, p.1 ∷ []) ∷ group ∷ groups))
    at true e =
        rw (itself p.0)
        (by s ∙ ap (λ g. (change_tokens s p.1 (cost p.0 p.1) ++ rest_tokens cost s g group.1)
        ++ group_tokens st cost groups) (sym (one p.0 group.0 e)))
      where
        by : (s : Bool) → change_tokens s p.1 (cost p.0 p.1)
            ++ (rest_tokens cost s group.0 group.1 ++ group_tokens st cost groups)
            ≡ (change_tokens s p.1 (cost p.0 p.1) ++ rest_tokens cost s group.0 group.1) ++ group_tokens st cost groups
        by true = refl
        by false = refl
    at false e = rw (itself p.0) (by s)
      where
        by : (s : Bool) → change_tokens s p.1 (cost p.0 p.1) ++ (end_if s ++ group_tokens st cost (group ∷ groups))
            ≡ (change_tokens s p.1 (cost p.0 p.1) ++ end_if s) ++ group_tokens st cost (group ∷ groups)
        by true = refl
        by false = refl

-- groups before which a group of another source ends
other_left : (st : Name → Bool) (cost : Name → Name → Option ℕ) (b : Name × Bool) (p : Pair) (groups : List Touched)
    → same_name b.0 p.0 ≡ false
    → groups_left st cost (Some b) (with_pair p groups) ≡ end_if b.1 ++ group_tokens st cost (with_pair p groups)
other_left st cost b p [] e = rw e refl
other_left st cost b p (group ∷ groups) e = at (same_name p.0 group.0)
  where
    at : (c : Bool)
        → groups_left st cost (Some b) (cond c ((p.0, p.1 ∷ group.1) ∷ groups) ((p.0, p.1 ∷ []) ∷ group ∷ groups))
        ≡ end_if b.1 ++ group_tokens st cost (cond c ((p.0, p.1 ∷ group.1) ∷ groups) ((p.0, p.1 ∷ []) ∷ group ∷ groups))
    at true = rw e refl
    at false = rw e refl

standing_other : (st : Name → Bool) (b : Name × Bool) (src : Name) → same_name b.0 src ≡ false
    → standing st (Some b) src ≡ st src
standing_other st b src e = rw e refl

standing_begun : (st : Name → Bool) (b : Name × Bool) (src : Name) → same_name b.0 src ≡ true
    → standing st (Some b) src ≡ b.1
standing_begun st b src e = rw e refl

-- a pair that is written, before groups that are left
pair_before : (st : Name → Bool) (cost : Name → Name → Option ℕ) (begun : Begun) (p : Pair) (groups : List Touched)
    → pair_tokens st cost begun (Some p) ++ groups_left st cost (begun_behind st begun (Some p)) groups
    ≡ groups_left st cost begun (with_pair p groups)
pair_before st cost None p groups = first_before st cost p groups
pair_before st cost (Some b) p groups = by (same_name b.0 p.0) refl
  where
    by : (a : Bool) → same_name b.0 p.0 ≡ a
        → pair_tokens st cost (Some b) (Some p) ++ groups_left st cost (begun_behind st (Some b) (Some p)) groups
        ≡ groups_left st cost (Some b) (with_pair p groups)
    by true e =
        rw e
        (ap (λ (s : Bool). change_tokens b.1 p.1 (cost p.0 p.1) ++ groups_left st cost (Some (p.0, s)) groups)
        (standing_begun st b p.0 e)
        ∙ (more_before st cost b.1 p groups ∙ ap (λ n. groups_left st cost (Some (n, b.1)) (with_pair p groups))
        (sym (one b.0 p.0 e))))
    by false e =
        rw e
        (ap
        (λ (s : Bool). ((end_if b.1 ++ begin_tokens p.0 (st p.0)) ++ change_tokens (st p.0) p.1 (cost p.0 p.1))
        ++ groups_left st cost (Some (p.0, s)) groups)
        (standing_other st b p.0 e)
        ∙ (ended b.1 (st p.0)
        ∙ (ap (λ ts. end_if b.1 ++ ts) (first_before st cost p groups) ∙ sym (other_left st cost b p groups e))))
      where
        ended : (t s : Bool) → ((end_if t ++ begin_tokens p.0 s) ++ change_tokens s p.1 (cost p.0 p.1))
            ++ groups_left st cost (Some (p.0, s)) groups
            ≡ end_if t ++ ((begin_tokens p.0 s ++ change_tokens s p.1 (cost p.0 p.1))
            ++ groups_left st cost (Some (p.0, s)) groups)
        ended true true = refl
        ended true false = refl
        ended false true = refl
        ended false false = refl

-- the pairs that are left make the groups that are left
pairs_make : (st : Name → Bool) (cost : Name → Name → Option ℕ) (begun : Begun) (pairs : List Pair)
    → tokens_left st cost begun pairs ≡ groups_left st cost begun (gathered pairs)
pairs_make st cost None [] = refl
pairs_make st cost (Some b) [] = refl
pairs_make st cost begun (p ∷ pairs) =
    ap (λ ts. pair_tokens st cost begun (Some p) ++ ts) (pairs_make st cost (begun_behind st begun (Some p)) pairs)
    ∙ pair_before st cost begun p (gathered pairs)

-- ---- groups, as the patch has them

-- what a member comes to
abbrev change_at : Face → Name → Name → Data
change_at face g m = unwrap_or (member_in face g m) json.null

cost_told : (net metric : Name) (rows : Rows) (g m : Name) → AreGood rows
    → json_tokens (outline (change_at (cost_face net metric rows) g m)) ≡ cost_token (cost_of rows net metric g m) ∷ []
cost_told net metric rows g m good =
    ap (λ o. json_tokens (outline (unwrap_or o json.null))) (member_is net metric rows g m good)
    ∙ by (cost_of rows net metric g m)
  where
    by : (o : Option ℕ) → json_tokens (outline (unwrap_or (option_map (λ n. number (unsigned n)) o) json.null))
        ≡ cost_token o ∷ []
    by None = refl
    by (Some n) = refl

-- the members of a group that stands
members_written : (net metric : Name) (rows : Rows) (g : Name) (ms : List Name) → AreGood rows
    → members_tokens (members_outline
    (members_in_order (map {B = Name × Data} (λ m. (m, change_at (cost_face net metric rows) g m)) ms)))
    ≡ rest_tokens (cost_of rows net metric) true g ms
members_written net metric rows g [] good = refl
members_written net metric rows g (m ∷ ms) good =
    λ i. key m ∷ (cost_told net metric rows g m good i ++ members_written net metric rows g ms good i)

-- of a group that doesn't stand nothing more is written
nothing_left : (cost : Name → Name → Option ℕ) (g : Name) (ms : List Name) → rest_tokens cost false g ms ≡ []
nothing_left cost g [] = refl
nothing_left cost g (m ∷ ms) = nothing_left cost g ms

value_written : (net metric : Name) (rows : Rows) (g : Name) (ms : List Name) → AreGood rows → Rise ms
    → key g ∷ json_tokens (outline (change_of (cost_face net metric rows) g ms))
    ≡ begin_tokens g (stands (cost_face net metric rows) g) ++ rest_tokens (cost_of rows net metric)
    (stands (cost_face net metric rows) g) g ms
value_written net metric rows g ms good rise = by (stands (cost_face net metric rows) g)
  where
    by : (s : Bool)
        → key g ∷ json_tokens (outline
        (if s then object (members_of (map {B = Name × Data} (λ m. (m, change_at (cost_face net metric rows) g m)) ms))
        else json.null))
        ≡ begin_tokens g s ++ rest_tokens (cost_of rows net metric) s g ms
    by true =
        ap (λ members. key g ∷ json_tokens (outline (object members)))
        (named-rising (change_at (cost_face net metric rows) g) ms rise)
        ∙ ap (λ ts. begin_tokens g true ++ ts) (members_written net metric rows g ms good)
    by false = ap (λ ts. begin_tokens g false ++ ts) (sym (nothing_left (cost_of rows net metric) g ms))

-- all groups
abbrev AllRise : List Touched → Type 0
AllRise groups = AllByRecursion (λ group. Rise group.1) groups

groups_written : (net metric : Name) (rows : Rows) (groups : List Touched) → AreGood rows → AllRise groups
    → members_tokens (members_outline
    (members_in_order (map {B = Name × Data}
    (λ group. (group.0, change_of (cost_face net metric rows) group.0 group.1)) groups)))
    ≡ group_tokens (stands (cost_face net metric rows)) (cost_of rows net metric) groups ++ end_object ∷ []
groups_written net metric rows [] good rise = refl
groups_written net metric rows (group ∷ groups) good rise =
    (λ i. value_written net metric rows group.0 group.1 good rise.0 i ++ groups_written net metric rows
    groups good rise.1 i)
    ∙ four (begin_tokens group.0 (stands (cost_face net metric rows) group.0)) _ _ (end_object ∷ [])
  where
    four : (a b c d : List Token) → (a ++ b) ++ (c ++ d) ≡ (a ++ (b ++ c)) ++ d
    four a b c d = append_assoc a b (c ++ d)
        ∙ (ap (λ ts. a ++ ts) (sym (append_assoc b c d)) ∙ sym (append_assoc a (b ++ c) d))

-- the members of each gathered group rise
gathered_rise : (pairs : List Pair) → Stand pairs → AllRise (gathered pairs)
gathered_rise pairs stand = by (gathered pairs) (have_own pairs stand)
  where
    by : (groups : List Touched) → AllByRecursion (λ group. group.1 ≡ own group.0 pairs) groups → AllRise groups
    by [] have = tt
    by (group ∷ groups) have = (subst Rise (sym have.0) (own_rise group.0 pairs stand), by groups have.1)

-- what the touched groups come to, by their parts
by_parts : (face : Face) (places : List Place) (names : List Name)
    → map {B = Name × Data} (λ g. (g, group_change face places g)) names
    ≡ map {B = Name × Data} (λ part. (part.0, change_of face part.0 part.1))
    (map {B = Touched} (λ g. (g, touched_members g places)) names)
by_parts face places [] = refl
by_parts face places (g ∷ names) = ap (λ ds. (g, group_change face places g) ∷ ds) (by_parts face places names)

-- the pairs of keys that rise, written one behind another, are the touched groups
pub section_written : (net metric : Name) (rows : Rows) (keys : List Key) → AreGood rows
    → IsStrictlySortedBy key_cmp keys
    → members_tokens (members_outline
    (members_of (map {B = Name × Data}
    (λ g. (g, group_change (cost_face net metric rows) (places_of net metric keys) g))
    (touched_groups (places_of net metric keys)))))
    ≡ tokens_left (stands (cost_face net metric rows)) (cost_of rows net metric) None (pairs_of net metric keys)
    ++ end_object ∷ []
section_written net metric rows keys good rising =
    ap (λ ms. members_tokens (members_outline ms)) (named-rising (group_change face places) (touched_groups places)
    (rise-set_of _))
    ∙ (ap written (by_parts face places (touched_groups places))
    ∙ (ap (λ parts. written (map {B = Name × Data} (λ part. (part.0, change_of face part.0 part.1)) parts))
    (sym (parts_are net metric keys rising))
    ∙ (groups_written net metric rows (gathered pairs) good (gathered_rise pairs (pairs_stand net metric keys rising))
    ∙ ap (λ ts. ts ++ end_object ∷ []) (sym (pairs_make (stands face) (cost_of rows net metric) None pairs)))))
  where
    face : Face
    face = cost_face net metric rows

    places : List Place
    places = places_of net metric keys

    pairs : List Pair
    pairs = pairs_of net metric keys

    written : List (Name × Data) → List Token
    written ds = members_tokens (members_outline (members_in_order ds))
