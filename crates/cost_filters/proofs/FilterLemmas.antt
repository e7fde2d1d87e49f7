-- A filtered cost map: the group of each source, and which sources have one.
use Rattle.std.proofs.Common.{◌≡◌, ◌∙◌, ℕ, refl, ap, sym}
use Rattle.std.proofs.lemmas.Bool.{and_parts}
use Rattle.std.proofs.lemmas.Map.Views.{any-filter_same}
use Rattle.std.specs.Prelude.{Bool, true, false, ◌&&◌, cond, List, [], ◌∷◌, filter, map, Option, Some, None}
use Rattle.std.specs.List.{list_any}
use Rattle.serde_json.specs.Data.{Data, object}
use Rattle.json_tree.specs.Document.{members_of, object_of}
use Rattle.json_tree.proofs.OrderLemmas.{same_members}
use Rattle.alto_rows.specs.Good.{AreGood}
use Rattle.alto_rows.specs.Order.{same_name}
use Rattle.alto_rows.specs.Rows.{Rows}
use Rattle.alto_maps.specs.Shape.{Name, group_object, section_object}
use Rattle.alto_maps.proofs.ObjectLemmas.{found-named, in_order-named}
use Rattle.alto_maps.proofs.SetLemmas.{one}
use Rattle.net_docs.specs.Filter.{is_picked}
use Rattle.net_docs.specs.NetworkMap.{pids_of}
use Rattle.net_docs.specs.declared.ask.Pick.{Pick}
use Rattle.net_docs.specs.declared.ask.Pick.TheVariants as pick
use Rattle.alto_rows.specs.Costs.{cost_of}
use Rattle.cost_filters.specs.declared.types.CostType.{CostType}
use Rattle.cost_filters.specs.Ask.{CostAskData}
use Rattle.cost_filters.specs.Columns.{column_cost, column_of, columns_of, dsts_tried, group_value, has_member}
use Rattle.cost_filters.specs.Columns.{pair_value, reached, srcs_tried, valued}
use Rattle.cost_filters.specs.Filter.{costs_data, costs_of, dsts_shown, filtered_face, has_name, is_pair, srcs_shown}
use Rattle.cost_filters.specs.Filter.{typed_cost}
use Rattle.cost_filters.proofs.PairLemmas.{pair_reached, pair_stands}
use Rattle.cost_filters.proofs.ValuedLemmas.{found-valued, has_some, in_order-members_of, some-members_of}

-- ---- costs

-- a column tells the costs of its type
column_tells : (rows : Rows) (net src dst : Name) (type : CostType)
    → column_cost rows net src dst (column_of rows net type) ≡ typed_cost rows net src dst type
column_tells rows net src dst type = by type.ordinal refl (cost_of rows net type.metric src dst) refl
  where
    by : (b : Bool) → type.ordinal ≡ b → (found : Option ℕ) → cost_of rows net type.metric src dst ≡ found
        → column_cost rows net src dst (column_of rows net type) ≡ typed_cost rows net src dst type
    by true o None e = rw (o, e) refl
    by true o (Some cost) e = rw (o, e) refl
    by false o None e = rw (o, e) refl
    by false o (Some cost) e = rw (o, e) refl

-- columns tell the costs of their types
pub columns_tell : (rows : Rows) (net src dst : Name) (types : List CostType)
    → map (column_cost rows net src dst) (columns_of rows net types) ≡ costs_of rows net types src dst
columns_tell rows net src dst [] = refl
columns_tell rows net src dst (type ∷ types) = λ i. column_tells rows net src dst type i
    ∷ columns_tell rows net src dst types i

-- ---- what is tried and what is shown

all_bools : (pair tried stands : Bool) (d : Data) → (pair ≡ true → tried ≡ true) → (pair ≡ true → stands ≡ true)
    → cond tried (cond pair (Some d) None) None ≡ cond ((true && pair) && stands) (Some d) None
all_bools true true true d t s = refl
all_bools true true false d t s = let no_way : false ≡ true = s refl in cc
all_bools true false stands d t s = let no_way : false ≡ true = t refl in cc
all_bools false true stands d t s = refl
all_bools false false stands d t s = refl

only_bools : (pair listed stands : Bool) (d : Data) → (pair ≡ true → stands ≡ true)
    → cond listed (cond pair (Some d) None) None ≡ cond ((listed && pair) && stands) (Some d) None
only_bools true true true d s = refl
only_bools true false true d s = refl
only_bools true listed false d s = let no_way : false ≡ true = s refl in cc
only_bools false true stands d s = refl
only_bools false false stands d s = refl

-- what is among names that pass a test
any_passing : (test : Name → Bool) (q : Name) (names : List Name)
    → list_any (same_name q) (filter test names) ≡ (test q && list_any (same_name q) names)
any_passing test q names = any-filter_same (same_name q) test (test q) (λ n e. ap test (sym (one q n e))) names

-- ---- one group

-- the value of a pair
abbrev value_at : Rows → Name → CostAskData → Name → Name → Data
value_at rows net ask src dst = costs_data ask.multi (costs_of rows net ask.types src dst)

-- the pairs of a source that are tried
abbrev pairs_tried : Rows → Name → CostAskData → Name → List (Name × Data)
pairs_tried rows net ask src =
    valued (pair_value rows net ask src) (dsts_tried rows net (columns_of rows net ask.types) ask.dsts src)

-- those that are shown
abbrev pairs_shown : Rows → Name → CostAskData → Name → List (Name × Data)
pairs_shown rows net ask src = map (λ dst. (dst, value_at rows net ask src dst)) (dsts_shown rows net ask src)

at_name : (rows : Rows) (net : Name) (ask : CostAskData) (src q : Name) → AreGood rows
    → cond (list_any (same_name q) (dsts_tried rows net (columns_of rows net ask.types) ask.dsts src))
    (pair_value rows net ask src q) None
    ≡ cond ((is_picked ask.dsts q && is_pair rows net ask src q) && list_any (same_name q) (pids_of rows net))
    (Some (value_at rows net ask src q)) None
at_name rows net ask src q good = by ask.dsts
  where
    by : (picks : Pick)
        → cond (list_any (same_name q) (dsts_tried rows net (columns_of rows net ask.types) picks src))
        (pair_value rows net ask src q) None
        ≡ cond ((is_picked picks q && is_pair rows net ask src q) && list_any (same_name q) (pids_of rows net))
        (Some (value_at rows net ask src q)) None
    by pick.All =
        all_bools (is_pair rows net ask src q)
        (list_any (same_name q) (reached rows net (columns_of rows net ask.types) src))
        (list_any (same_name q) (pids_of rows net))
        (value_at rows net ask src q) (pair_reached rows net ask src q)
        (λ h. (pair_stands rows net ask src q good h).destination)
    by (pick.Only names) =
        only_bools (is_pair rows net ask src q) (list_any (same_name q) names)
        (list_any (same_name q) (pids_of rows net))
        (value_at rows net ask src q) (λ h. (pair_stands rows net ask src q good h).destination)

same_pairs : (rows : Rows) (net : Name) (ask : CostAskData) (src : Name) → AreGood rows
    → members_of (pairs_tried rows net ask src) ≡ members_of (pairs_shown rows net ask src)
same_pairs rows net ask src good =
    same_members _ _ (in_order-members_of (pairs_tried rows net ask src))
    (in_order-named (value_at rows net ask src) (dsts_shown rows net ask src))
    (λ q.
    found-valued (pair_value rows net ask src) (dsts_tried rows net (columns_of rows net ask.types) ask.dsts src) q
    ∙ (at_name rows net ask src q good
    ∙ (ap (λ b. cond b (Some (value_at rows net ask src q)) None)
    (sym (any_passing (λ dst. is_picked ask.dsts dst && is_pair rows net ask src dst) q (pids_of rows net)))
    ∙ sym (found-named (value_at rows net ask src) (dsts_shown rows net ask src) q))))

-- there is a member for each name
member_each : (value : Name → Data) (names : List Name)
    → has_member (map (λ name. (name, value name)) names) ≡ has_name names
member_each value [] = refl
member_each value (name ∷ names) = refl

-- the group of a source
group_shown : (rows : Rows) (net : Name) (ask : CostAskData) (src : Name) → AreGood rows
    → group_value rows net ask src
    ≡ cond (has_name (dsts_shown rows net ask src)) (Some (group_object (filtered_face rows net ask) src)) None
group_shown rows net ask src good =
    let same : members_of (pairs_tried rows net ask src) ≡ members_of (pairs_shown rows net ask src) =
    same_pairs rows net ask src good in
    let any : has_member (pairs_tried rows net ask src) ≡ has_name (dsts_shown rows net ask src) =
    sym (some-members_of (pairs_tried rows net ask src))
    ∙ (ap has_some same ∙ (some-members_of (pairs_shown rows net ask src)
    ∙ member_each (value_at rows net ask src) (dsts_shown rows net ask src))) in
    λ i. cond (any i) (Some (object (same i))) None

-- ---- which sources

-- where a name passes, what follows of each that does
some_passes : (test : Name → Bool) (R : Type 0) → ((name : Name) → test name ≡ true → R) → (names : List Name)
    → has_name (filter test names) ≡ true → R
some_passes test R each [] h = cc
some_passes test R each (name ∷ names) h = by (test name) refl (some_passes test R each names)
  where
    by : (b : Bool) → test name ≡ b → (has_name (filter test names) ≡ true → R) → R
    by true e below = each name e
    by false e below = below (rw e at h)

-- a source that is shown is a PID of the network
source_stands : (rows : Rows) (net : Name) (ask : CostAskData) (src : Name) → AreGood rows
    → has_name (dsts_shown rows net ask src) ≡ true
    → list_any (same_name src) (pids_of rows net) ≡ true
source_stands rows net ask src good =
    some_passes (λ dst. is_picked ask.dsts dst && is_pair rows net ask src dst)
    (list_any (same_name src) (pids_of rows net) ≡ true)
    (λ dst h. (pair_stands rows net ask src dst good (and_parts (is_picked ask.dsts dst) (is_pair rows net ask src dst)
    h).1).source) (pids_of rows net)

at_source : (rows : Rows) (net : Name) (ask : CostAskData) (q : Name) → AreGood rows
    → cond (list_any (same_name q) (srcs_tried rows net ask.srcs))
    (cond (has_name (dsts_shown rows net ask q)) (Some (group_object (filtered_face rows net ask) q)) None) None
    ≡ cond ((is_picked ask.srcs q && has_name (dsts_shown rows net ask q)) && list_any (same_name q) (pids_of rows net))
    (Some (group_object (filtered_face rows net ask) q)) None
at_source rows net ask q good = by ask.srcs
  where
    by : (picks : Pick)
        → cond (list_any (same_name q) (srcs_tried rows net picks))
        (cond (has_name (dsts_shown rows net ask q)) (Some (group_object (filtered_face rows net ask) q)) None) None
        ≡ cond ((is_picked picks q && has_name (dsts_shown rows net ask q))
        && list_any (same_name q) (pids_of rows net)) (Some (group_object (filtered_face rows net ask) q)) None
    by pick.All =
        all_bools (has_name (dsts_shown rows net ask q)) (list_any (same_name q) (pids_of rows net))
        (list_any (same_name q) (pids_of rows net))
        (group_object (filtered_face rows net ask) q) (source_stands rows net ask q good)
        (source_stands rows net ask q good)
    by (pick.Only names) =
        only_bools (has_name (dsts_shown rows net ask q)) (list_any (same_name q) names)
        (list_any (same_name q) (pids_of rows net))
        (group_object (filtered_face rows net ask) q) (source_stands rows net ask q good)

-- the groups that are put are those that the filtered map shows
pub groups_shown : (rows : Rows) (net : Name) (ask : CostAskData) → AreGood rows
    → object_of (valued (group_value rows net ask) (srcs_tried rows net ask.srcs))
    ≡ section_object (filtered_face rows net ask)
groups_shown rows net ask good =
    ap object
    (same_members _ _ (in_order-members_of (valued (group_value rows net ask) (srcs_tried rows net ask.srcs)))
    (in_order-named (group_object (filtered_face rows net ask)) (srcs_shown rows net ask))
    (λ q.
    found-valued (group_value rows net ask) (srcs_tried rows net ask.srcs) q
    ∙ (ap (λ (group : Option Data). cond (list_any (same_name q) (srcs_tried rows net ask.srcs)) group None)
    (group_shown rows net ask q good)
    ∙ (at_source rows net ask q good
    ∙ (ap (λ b. cond b (Some (group_object (filtered_face rows net ask) q)) None)
    (sym (any_passing (λ src. is_picked ask.srcs src && has_name (dsts_shown rows net ask src))
    q (pids_of rows net)))
    ∙ sym (found-named (group_object (filtered_face rows net ask)) (srcs_shown rows net ask) q))))))
