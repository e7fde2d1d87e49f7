-- The operations that pairs bring one behind another are those on the touched groups.
use Rattle.std.proofs.Common.{◌≡◌, refl, ap, sym, ◌∙◌, append_assoc, append-nil}
use Rattle.std.specs.Prelude.{ℕ, Bool, true, false, cond, List, [], ◌∷◌, ◌++◌, Option, Some, None, map, option_map}
use Rattle.std.specs.Prelude.{codes}
use Rattle.std.specs.List.{flat_map}
use Rattle.std.specs.List.Sorted.{IsStrictlySortedBy}
use Rattle.json.specs.Token.{Token, begin_array, end_array}
use Rattle.json.specs.Tree.{items_tokens, json_tokens}
use Rattle.json.specs.Written.{Written}
use Rattle.serde_json.specs.Data.{number, unsigned}
use Rattle.serde_json.specs.View.{items_of}
use Rattle.serde_json.specs.Written.{items_outline, outline}
use Rattle.json_patch.specs.Operations.{Operation}
use Rattle.json_patch.specs.OperationList.{operation_data, operations_data}
use Rattle.alto_rows.specs.declared.key.Key.{Key}
use Rattle.alto_rows.specs.Good.{AreGood}
use Rattle.alto_rows.specs.Order.{key_cmp}
use Rattle.alto_rows.specs.Rows.{Rows}
use Rattle.alto_maps.specs.OperationForm.{by_standing, on_group, on_member, on_members, on_meta, on_touched}
use Rattle.alto_maps.specs.OperationForm.{operation_form, under}
use Rattle.alto_maps.specs.Places.{touched_groups, touched_members}
use Rattle.alto_maps.specs.Shape.{Name, Face, group_object, member_in, same_name, stands}
use Rattle.alto_maps.specs.Touched.{Touched}
use Rattle.alto_maps.specs.declared.place.Place.{Place}
use Rattle.alto_maps.specs.Writing.{AddsValue}
use Rattle.alto_maps.proofs.SetLemmas.{itself, one}
use Rattle.alto_rows.specs.Costs.{cost_of}
use Rattle.cost_docs.specs.CostMap.{cost_face, cost_shape}
use Rattle.cost_docs.specs.Writing.{AddsTokens}
use Rattle.cost_docs.proofs.StandsLemmas.{member_is}
use Rattle.edge_text.specs.Operations.{Turned, both_standing, on_change, on_cost, on_pair, on_pairs, on_whole, standing}
use Rattle.edge_text.specs.Operations.{tokens_of, turned_behind}
use Rattle.edge_text.specs.Pairs.{Pair, pairs_of}
use Rattle.edge_text.proofs.GatheredLemmas.{gathered, with_pair}
use Rattle.edge_text.proofs.PlaceLemmas.{parts_are, places_of}

-- ---- pairs, gathered by source

-- the operations on members of a group
abbrev on_rest : Face → Face → Bool × Bool → Name → List Name → List Operation
on_rest before after both g ms = flat_map (on_change before after both g) ms

-- those on groups
abbrev on_groups : Face → Face → List Touched → List Operation
on_groups before after [] = []
on_groups before after (group ∷ groups) =
    (on_whole after group.0 (both_standing before after group.0)
    ++ on_rest before after (both_standing before after group.0) group.0 group.1)
    ++ on_groups before after groups

-- groups that are left where one was turned to: the rest of it, if the first is of its source
abbrev on_left : Face → Face → Turned → List Touched → List Operation
on_left before after None groups = on_groups before after groups
on_left before after (Some t) [] = []
on_left before after (Some t) (group ∷ groups) =
    cond (same_name t.0 group.0) (on_rest before after t.1 group.0 group.1 ++ on_groups before after groups)
    (on_groups before after (group ∷ groups))

one_more : (a b c : List Operation) → (a ++ b) ++ c ≡ (a ++ (b ++ [])) ++ c
one_more a b c = ap (λ os. (a ++ os) ++ c) (sym (append-nil b))

some_more : (a b c d : List Operation) → (a ++ b) ++ (c ++ d) ≡ (a ++ (b ++ c)) ++ d
some_more a b c d = append_assoc a b (c ++ d)
    ∙ (ap (λ os. a ++ os) (sym (append_assoc b c d)) ∙ sym (append_assoc a (b ++ c) d))

-- the first pair of a group, before groups that are left
first_before : (before after : Face) (p : Pair) (groups : List Touched)
    → (on_whole after p.0 (both_standing before after p.0)
    ++ on_change before after (both_standing before after p.0) p.0 p.1)
    ++ on_left before after (Some (p.0, both_standing before after p.0)) groups
    ≡ on_groups before after (with_pair p groups)
first_before before after p [] =
    one_more (on_whole after p.0 (both_standing before after p.0))
    (on_change before after (both_standing before after p.0) p.0 p.1) []
first_before before after p (group ∷ groups) = at (same_name p.0 group.0) refl
  where
    both : Bool × Bool
    both = both_standing before after p.0

    at : (b : Bool) → same_name p.0 group.0 ≡ b
        → (on_whole after p.0 both ++ on_change before after both p.0 p.1)
        ++ cond b (on_rest before after both group.0 group.1 ++ on_groups before after groups)
        (on_groups before after (group ∷ groups))
        ≡ on_groups before after (cond b ((p.0, p.1 ∷ group.1) ∷ groups) ((p.0, p.1 ∷ []) ∷ group ∷ groups))
    at true e =
        ap (λ g. (on_whole after p.0 both ++ on_change before after both p.0 p.1)
        ++ (on_rest before after both g group.1 ++ on_groups before after groups)) (sym (one p.0 group.0 e))
        ∙ some_more (on_whole after p.0 both) (on_change before after both p.0 p.1)
        (on_rest before after both p.0 group.1) (on_groups before after groups)
    at false e = one_more (on_whole after p.0 both) (on_change before after both p.0 p.1)
        (on_groups before after (group ∷ groups))

-- a pair of the group that was turned to
more_before : (before after : Face) (both : Bool × Bool) (p : Pair) (groups : List Touched)
    → on_change before after both p.0 p.1 ++ on_left before after (Some (p.0, both)) groups
    ≡ on_left before after (Some (p.0, both)) (with_pair p groups)
more_before before after both p [] = rw (itself p.0) (one_more [] (on_change before after both p.0 p.1) [])
more_before before after both p (group ∷ groups) = at (same_name p.0 group.0) refl
  where
    at : (b : Bool) → same_name p.0 group.0 ≡ b
        → on_change before after both p.0 p.1
        ++ cond b (on_rest before after both group.0 group.1 ++ on_groups before after groups)
        (on_groups before after (group ∷ groups))
        ≡ on_left before after (Some (p.0, both))
        (cond b ((p.0, p.1 ∷ group.1) ∷ groups) ((p.0, p.1 ∷ []) ∷ group ∷ groups))
    at true e =
        rw (itself p.0)
        (ap (λ g. on_change before after both p.0 p.1
        ++ (on_rest before after both g group.1 ++ on_groups before after groups)) (sym (one p.0 group.0 e))
        ∙ some_more [] (on_change before after both p.0 p.1) (on_rest before after both p.0 group.1)
        (on_groups before after groups))
    at false e = rw (itself p.0) (one_more [] (on_change before after both p.0 p.1)
        (on_groups before after (group ∷ groups)))

-- groups of another source than that which was turned to
other_left : (before after : Face) (t : Name × (Bool × Bool)) (p : Pair) (groups : List Touched)
    → same_name t.0 p.0 ≡ false
    → on_left before after (Some t) (with_pair p groups) ≡ on_groups before after (with_pair p groups)
other_left before after t p [] e = rw e refl
other_left before after t p (group ∷ groups) e = at (same_name p.0 group.0)
  where
    at : (c : Bool)
        → on_left before after (Some t) (cond c ((p.0, p.1 ∷ group.1) ∷ groups) ((p.0, p.1 ∷ []) ∷ group ∷ groups))
        ≡ on_groups before after (cond c ((p.0, p.1 ∷ group.1) ∷ groups) ((p.0, p.1 ∷ []) ∷ group ∷ groups))
    at true = rw e refl
    at false = rw e refl

standing_other : (before after : Face) (t : Name × (Bool × Bool)) (src : Name) → same_name t.0 src ≡ false
    → standing before after (Some t) src ≡ both_standing before after src
standing_other before after t src e = rw e refl

standing_turned : (before after : Face) (t : Name × (Bool × Bool)) (src : Name) → same_name t.0 src ≡ true
    → standing before after (Some t) src ≡ t.1
standing_turned before after t src e = rw e refl

-- a pair, before groups that are left
pair_before : (before after : Face) (turned : Turned) (p : Pair) (groups : List Touched)
    → on_pair before after turned (Some p) ++ on_left before after (turned_behind before after turned (Some p)) groups
    ≡ on_left before after turned (with_pair p groups)
pair_before before after None p groups = first_before before after p groups
pair_before before after (Some t) p groups = by (same_name t.0 p.0) refl
  where
    by : (a : Bool) → same_name t.0 p.0 ≡ a
        → on_pair before after (Some t) (Some p) ++ on_left before after (turned_behind before after (Some t) (Some p))
        groups ≡ on_left before after (Some t) (with_pair p groups)
    by true e =
        rw e
        (ap (λ (both : Bool × Bool). on_change before after t.1 p.0 p.1 ++ on_left before after (Some (p.0, both))
        groups) (standing_turned before after t p.0 e)
        ∙ (more_before before after t.1 p groups ∙ ap (λ n. on_left before after (Some (n, t.1)) (with_pair p groups))
        (sym (one t.0 p.0 e))))
    by false e =
        rw e
        (ap
        (λ (both : Bool × Bool).
        (on_whole after p.0 (both_standing before after p.0)
        ++ on_change before after (both_standing before after p.0) p.0 p.1)
        ++ on_left before after (Some (p.0, both)) groups)
        (standing_other before after t p.0 e)
        ∙ (first_before before after p groups ∙ sym (other_left before after t p groups e)))

pairs_make : (before after : Face) (turned : Turned) (pairs : List Pair)
    → on_pairs before after turned pairs ≡ on_left before after turned (gathered pairs)
pairs_make before after None [] = refl
pairs_make before after (Some t) [] = refl
pairs_make before after turned (p ∷ pairs) =
    ap (λ os. on_pair before after turned (Some p) ++ os)
    (pairs_make before after (turned_behind before after turned (Some p)) pairs)
    ∙ pair_before before after turned p (gathered pairs)

-- ---- groups, as the operations have them

under_all : (g : Name) (f : Name → List Operation) (ms : List Name)
    → map (under g) (flat_map f ms) ≡ flat_map (λ m. map (under g) (f m)) ms
under_all g f [] = refl
under_all g f (m ∷ ms) = both (f m) ∙ ap (λ os. map (under g) (f m) ++ os) (under_all g f ms)
  where
    both : (os : List Operation) → map (under g) (os ++ flat_map f ms)
        ≡ map (under g) os ++ map (under g) (flat_map f ms)
    both [] = refl
    both (o ∷ os) = ap (λ more. under g o ∷ more) (both os)

abbrev nothing : List Operation
nothing = []

nothing_on : (ms : List Name) → flat_map (λ (m : Name). nothing) ms ≡ []
nothing_on [] = refl
nothing_on (m ∷ ms) = nothing_on ms

touched_by : (before after : Face) (g : Name) (ms : List Name)
    → on_touched before after g ms ≡ on_whole after g (both_standing before after g)
    ++ on_rest before after (both_standing before after g) g ms
touched_by before after g ms = by (stands before g) (stands after g)
  where
    by : (b a : Bool) → by_standing g (group_object after g) (on_members before after g ms) b a
        ≡ by_standing g (group_object after g) [] b a ++ on_rest before after (b, a) g ms
    by true true = under_all g (λ m. on_member m (member_in before g m) (member_in after g m)) ms
    by true false = ap (λ os. by_standing g (group_object after g) [] true false ++ os) (sym (nothing_on ms))
    by false true = ap (λ os. by_standing g (group_object after g) [] false true ++ os) (sym (nothing_on ms))
    by false false = sym (nothing_on ms)

groups_touched : (before after : Face) (places : List Place) (names : List Name)
    → flat_map (on_group before after places) names
    ≡ on_groups before after (map {B = Touched} (λ g. (g, touched_members g places)) names)
groups_touched before after places [] = refl
groups_touched before after places (g ∷ names) =
    λ i. touched_by before after g (touched_members g places) i ++ groups_touched before after places names i

-- what the pairs of keys that rise bring is what is done to the touched groups
pub operations_are : (net metric : Name) (before after : Face) (keys : List Key) → IsStrictlySortedBy key_cmp keys
    → flat_map (on_group before after (places_of net metric keys)) (touched_groups (places_of net metric keys))
    ≡ on_pairs before after None (pairs_of net metric keys)
operations_are net metric before after keys rising =
    groups_touched before after (places_of net metric keys) (touched_groups (places_of net metric keys))
    ∙ (ap (on_groups before after) (sym (parts_are net metric keys rising))
    ∙ sym (pairs_make before after None (pairs_of net metric keys)))

-- the operation on a pair of a group that stood and stands is that on its cost
pub cost_changed : (net metric : Name) (before after : Rows) (src dst : Name) → AreGood before → AreGood after
    → on_member dst (member_in (cost_face net metric before) src dst) (member_in (cost_face net metric after) src dst)
    ≡ on_cost dst (cost_of before net metric src dst) (cost_of after net metric src dst)
cost_changed net metric before after src dst good good' =
    (λ i. on_member dst (member_is net metric before src dst good i) (member_is net metric after src dst good' i))
    ∙ by (cost_of before net metric src dst) (cost_of after net metric src dst)
  where
    by : (old new : Option ℕ) → on_member dst (option_map (λ n. number (unsigned n)) old)
        (option_map (λ n. number (unsigned n)) new) ≡ on_cost dst old new
    by None None = refl
    by None (Some n) = refl
    by (Some o) None = refl
    by (Some o) (Some n) = refl

-- ---- their tokens

pub tokens_more : (first more : List Operation) → tokens_of (first ++ more) ≡ tokens_of first ++ tokens_of more
tokens_more [] more = refl
tokens_more (o ∷ first) more =
    ap (λ ts. json_tokens (outline (operation_data o)) ++ ts) (tokens_more first more)
    ∙ sym (append_assoc (json_tokens (outline (operation_data o))) (tokens_of first) (tokens_of more))

pub under_more : (s : Name) (first more : List Operation)
    → tokens_of (map (under s) (first ++ more)) ≡ tokens_of (map (under s) first) ++ tokens_of (map (under s) more)
under_more s [] more = refl
under_more s (o ∷ first) more =
    ap (λ ts. json_tokens (outline (operation_data (under s o))) ++ ts) (under_more s first more)
    ∙ sym (append_assoc (json_tokens (outline (operation_data (under s o)))) (tokens_of (map (under s) first))
    (tokens_of (map (under s) more)))

-- a document of operations
pub list_written : (operations : List Operation)
    → json_tokens (outline (operations_data operations)) ≡ begin_array ∷ (tokens_of operations ++ end_array ∷ [])
list_written operations = ap (λ ts. begin_array ∷ ts) (by operations)
  where
    by : (os : List Operation) → items_tokens (items_outline (items_of (map operation_data os)))
        ≡ tokens_of os ++ end_array ∷ []
    by [] = refl
    by (o ∷ os) =
        ap (λ ts. json_tokens (outline (operation_data o)) ++ ts) (by os)
        ∙ sym (append_assoc (json_tokens (outline (operation_data o))) (tokens_of os) (end_array ∷ []))

-- ---- as they are written

five : (a b c d e : List Token) → (((a ++ b) ++ c) ++ d) ++ e ≡ a ++ (b ++ ((c ++ d) ++ e))
five a b c d e = append_assoc ((a ++ b) ++ c) d e
    ∙ (append_assoc (a ++ b) c (d ++ e)
    ∙ (append_assoc a b (c ++ (d ++ e)) ∙ ap (λ ts. a ++ (b ++ ts)) (sym (append_assoc c d e))))

-- the version first, then the groups
pub patch_written : (net metric : Name) (before after : Face) (keys : List Key) (old begun mid told new : Written)
    → IsStrictlySortedBy key_cmp keys
    → begun.tokens ≡ old.tokens ++ begin_array ∷ [] → begun.before ≡ old.before
    → AddsTokens (tokens_of (on_meta cost_shape after (places_of net metric keys))) begun mid
    → AddsTokens (tokens_of (map (under (codes "cost-map")) (on_pairs before after None (pairs_of net metric keys))))
    mid told
    → new.tokens ≡ told.tokens ++ end_array ∷ [] → new.before ≡ told.before
    → AddsValue (operations_data (operation_form cost_shape before after (places_of net metric keys))) old new
unfolding operation_form
patch_written net metric before after keys old begun mid told new rising opened same version groups closed stays =
    record {
      tokens =
          closed
          ∙ (ap (λ ts. ts ++ end_array ∷ []) (groups.added
          ∙ ap (λ ts. ts ++ second) (version.added ∙ ap (λ ts. ts ++ first) opened))
          ∙ (five old.tokens (begin_array ∷ []) first second (end_array ∷ [])
          ∙ ap (λ ts. old.tokens ++ ts)
          (ap (λ ts. begin_array ∷ (ts ++ end_array ∷ []))
          (sym (tokens_more (on_meta cost_shape after (places_of net metric keys))
          (map (under (codes "cost-map")) pairs)))
          ∙ (sym (list_written (on_meta cost_shape after (places_of net metric keys)
          ++ map (under (codes "cost-map")) pairs))
          ∙ ap (λ os. json_tokens (outline
          (operations_data (on_meta cost_shape after (places_of net metric keys) ++ map (under (codes "cost-map"))
          os)))) (sym (operations_are net metric before after keys rising))))));
      before = stays ∙ (groups.before ∙ (version.before ∙ same));
    }
  where
    pairs : List Operation
    pairs = on_pairs before after None (pairs_of net metric keys)

    first : List Token
    first = tokens_of (on_meta cost_shape after (places_of net metric keys))

    second : List Token
    second = tokens_of (map (under (codes "cost-map")) pairs)
