-- The pairs that are found are those that the first part shows.
use Rattle.std.proofs.Common.{◌≡◌, ◌∙◌, refl, ap, sym}
use Rattle.std.proofs.lemmas.Bool.{and_parts}
use Rattle.std.proofs.lemmas.Map.Views.{any-filter_same}
use Rattle.std.specs.Prelude.{ℕ, Bool, true, false, ◌&&◌, cond, List, [], ◌∷◌, filter, map, Option, Some, None, is_some}
use Rattle.std.specs.Prelude.{codes, option_map, unwrap_or, if◌then◌else◌}
use Rattle.std.specs.List.{cons_option, filter_map, list_any}
use Rattle.serde_json.specs.Data.{Data, object}
use Rattle.json_tree.specs.Document.{members_of, object_of}
use Rattle.json_tree.proofs.OrderLemmas.{same_members}
use Rattle.alto_rows.specs.Good.{AreGood}
use Rattle.alto_rows.specs.Order.{same_name}
use Rattle.alto_rows.specs.Rows.{Rows}
use Rattle.alto_maps.specs.Shape.{Name, document, group_object, section_object}
use Rattle.alto_maps.proofs.ObjectLemmas.{found-named, in_order-named}
use Rattle.alto_maps.proofs.SetLemmas.{one}
use Rattle.net_docs.specs.Filter.{is_picked}
use Rattle.net_docs.specs.NetworkMap.{pids_of}
use Rattle.net_docs.specs.declared.ask.Pick.{Pick}
use Rattle.net_docs.specs.declared.ask.Pick.TheVariants as pick
use Rattle.path_docs.specs.declared.ask.PathAsk.{PathAsk}
use Rattle.path_docs.specs.Found.{Pair, Source, destinations_of, dsts_tried, has_pair, pair_member, pairs_among}
use Rattle.path_docs.specs.Found.{source_found, source_member, sources_found, srcs_tried}
use Rattle.path_docs.specs.PathCosts.{anes_of, dsts_shown, has_name, names_data, path_costs, path_face, path_meta}
use Rattle.path_docs.specs.PathCosts.{path_of, srcs_shown}
use Rattle.path_docs.proofs.RowLemmas.{pair_reached, pair_stands}
use Rattle.path_docs.proofs.ValuedLemmas.{found-valued, has_member, has_some, in_order-members_of, some-members_of}
use Rattle.path_docs.proofs.ValuedLemmas.{valued}

-- ---- what is tried and what is shown

all_bools : (pair tried stands : Bool) → (pair ≡ true → tried ≡ true) → (pair ≡ true → stands ≡ true)
    → (pair && tried) ≡ ((true && pair) && stands)
all_bools true tried stands t s = t refl ∙ sym (s refl)
all_bools false tried stands t s = refl

only_bools : (pair listed stands : Bool) → (pair ≡ true → stands ≡ true)
    → (pair && listed) ≡ ((listed && pair) && stands)
only_bools true true stands s = sym (s refl)
only_bools true false stands s = refl
only_bools false true stands s = refl
only_bools false false stands s = refl

-- what is among names that pass a test
any_passing : (test : Name → Bool) (q : Name) (names : List Name)
    → list_any (same_name q) (filter test names) ≡ (test q && list_any (same_name q) names)
any_passing test q names = any-filter_same (same_name q) test (test q) (λ n e. ap test (sym (one q n e))) names

-- a destination is shown where it is tried and has a path
pub destination_in : (rows : Rows) (net : Name) (ask : PathAsk) (src q : Name) → AreGood rows
    → (is_some (path_of rows net src q) && list_any (same_name q) (dsts_tried rows net ask.dsts src))
    ≡ list_any (same_name q) (dsts_shown rows net ask src)
destination_in rows net ask src q good =
    by ask.dsts ∙ sym (any_passing (λ dst. is_picked ask.dsts dst && is_some (path_of rows net src dst))
    q (pids_of rows net))
  where
    by : (picks : Pick)
        → (is_some (path_of rows net src q) && list_any (same_name q) (dsts_tried rows net picks src))
        ≡ ((is_picked picks q && is_some (path_of rows net src q)) && list_any (same_name q) (pids_of rows net))
    by pick.All =
        all_bools (is_some (path_of rows net src q)) (list_any (same_name q) (destinations_of rows net src))
        (list_any (same_name q) (pids_of rows net))
        (pair_reached rows net src q) (λ h. (pair_stands rows net src q good h).destination)
    by (pick.Only names) =
        only_bools (is_some (path_of rows net src q)) (list_any (same_name q) names)
        (list_any (same_name q) (pids_of rows net))
        (λ h. (pair_stands rows net src q good h).destination)

-- where a name passes, what follows of each that does
some_passes : (test : Name → Bool) (R : Type 0) → ((name : Name) → test name ≡ true → R) → (names : List Name)
    → has_name (filter test names) ≡ true → R
some_passes test R each [] h = cc
some_passes test R each (name ∷ names) h = by (test name) refl (some_passes test R each names)
  where
    by : (b : Bool) → test name ≡ b → (has_name (filter test names) ≡ true → R) → R
    by true e below = each name e
    by false e below = below (rw e at h)

-- a source that is shown is a PID of the network
source_stands : (rows : Rows) (net : Name) (ask : PathAsk) (src : Name) → AreGood rows
    → has_name (dsts_shown rows net ask src) ≡ true
    → list_any (same_name src) (pids_of rows net) ≡ true
source_stands rows net ask src good =
    some_passes (λ dst. is_picked ask.dsts dst && is_some (path_of rows net src dst))
    (list_any (same_name src) (pids_of rows net) ≡ true)
    (λ dst h. (pair_stands rows net src dst
    good (and_parts (is_picked ask.dsts dst) (is_some (path_of rows net src dst)) h).1).source) (pids_of rows net)

-- a source is shown where it is tried and is shown to some other
pub source_in : (rows : Rows) (net : Name) (ask : PathAsk) (q : Name) → AreGood rows
    → (has_name (dsts_shown rows net ask q) && list_any (same_name q) (srcs_tried rows net ask.srcs))
    ≡ list_any (same_name q) (srcs_shown rows net ask)
source_in rows net ask q good =
    by ask.srcs ∙ sym (any_passing (λ src. is_picked ask.srcs src && has_name (dsts_shown rows net ask src))
    q (pids_of rows net))
  where
    by : (picks : Pick)
        → (has_name (dsts_shown rows net ask q) && list_any (same_name q) (srcs_tried rows net picks))
        ≡ ((is_picked picks q && has_name (dsts_shown rows net ask q)) && list_any (same_name q) (pids_of rows net))
    by pick.All =
        all_bools (has_name (dsts_shown rows net ask q)) (list_any (same_name q) (pids_of rows net))
        (list_any (same_name q) (pids_of rows net))
        (source_stands rows net ask q good) (source_stands rows net ask q good)
    by (pick.Only names) =
        only_bools (has_name (dsts_shown rows net ask q)) (list_any (same_name q) names)
        (list_any (same_name q) (pids_of rows net))
        (source_stands rows net ask q good)

-- ---- one group

-- the value of a pair that has a path
abbrev path_value : Rows → Name → Name → Name → Option Data
path_value rows net src dst = option_map names_data (path_of rows net src dst)

-- the value of a pair that is shown
abbrev shown_value : Rows → Name → Name → Name → Data
shown_value rows net src dst = names_data (anes_of rows net src dst)

-- pairs as members are the destinations that have a value
pairs_valued : (rows : Rows) (net src : Name) (dsts : List Name)
    → map pair_member (pairs_among rows net src dsts) ≡ valued (path_value rows net src) dsts
pairs_valued rows net src [] = refl
pairs_valued rows net src (dst ∷ dsts) = by (path_of rows net src dst) refl (pairs_valued rows net src dsts)
  where
    by : (found : Option (List Name)) → path_of rows net src dst ≡ found
        → map pair_member (pairs_among rows net src dsts) ≡ valued (path_value rows net src) dsts
        → map pair_member (pairs_among rows net src (dst ∷ dsts)) ≡ valued (path_value rows net src) (dst ∷ dsts)
    by None e below = rw e below
    by (Some anes) e below = rw e (ap (λ (more : List (Name × Data)). (dst, names_data anes) ∷ more) below)

value_bools : (found : Option (List Name)) (tried shown : Bool) → (is_some found && tried) ≡ shown
    → cond tried (option_map names_data found) None ≡ cond shown (Some (names_data (unwrap_or found []))) None
value_bools (Some anes) tried shown e = ap (λ b. cond b (Some (names_data anes)) None) e
value_bools None true shown e = ap (λ b. cond b (Some (names_data [])) None) e
value_bools None false shown e = ap (λ b. cond b (Some (names_data [])) None) e

-- the pairs of a source that are tried, and those that are shown
abbrev pairs_tried : Rows → Name → PathAsk → Name → List Pair
pairs_tried rows net ask src = pairs_among rows net src (dsts_tried rows net ask.dsts src)

abbrev pairs_shown : Rows → Name → PathAsk → Name → List (Name × Data)
pairs_shown rows net ask src = map (λ dst. (dst, shown_value rows net src dst)) (dsts_shown rows net ask src)

same_pairs : (rows : Rows) (net : Name) (ask : PathAsk) (src : Name) → AreGood rows
    → members_of (map pair_member (pairs_tried rows net ask src)) ≡ members_of (pairs_shown rows net ask src)
same_pairs rows net ask src good =
    ap members_of (pairs_valued rows net src (dsts_tried rows net ask.dsts src))
    ∙ same_members _ _ (in_order-members_of (valued (path_value rows net src) (dsts_tried rows net ask.dsts src)))
    (in_order-named (shown_value rows net src) (dsts_shown rows net ask src))
    (λ q.
    found-valued (path_value rows net src) (dsts_tried rows net ask.dsts src) q
    ∙ (value_bools (path_of rows net src q) (list_any (same_name q) (dsts_tried rows net ask.dsts src))
    (list_any (same_name q) (dsts_shown rows net ask src))
    (destination_in rows net ask src q good)
    ∙ sym (found-named (shown_value rows net src) (dsts_shown rows net ask src) q)))

-- there is a member for each name, and for each pair
member_each : (value : Name → Data) (names : List Name)
    → has_member (map (λ name. (name, value name)) names) ≡ has_name names
member_each value [] = refl
member_each value (name ∷ names) = refl

pair_each : (pairs : List Pair) → has_pair pairs ≡ has_member (map pair_member pairs)
pair_each [] = refl
pair_each (pair ∷ pairs) = refl

-- the group of a source, where it is shown to some other
abbrev group_value : Rows → Name → PathAsk → ℕ → Name → Option Data
group_value rows net ask n src =
    cond (has_name (dsts_shown rows net ask src)) (Some (group_object (path_face rows net ask n) src)) None

-- a source with its group as a member, where it has one
abbrev source_group : Name → Bool → Data → Option (Name × Data)
source_group src some group = if some then Some (src, group) else None

source_shown : (rows : Rows) (net : Name) (ask : PathAsk) (n : ℕ) (src : Name) → AreGood rows
    → source_member (source_found rows net ask.dsts src)
    ≡ option_map (λ (group : Data). (src, group)) (group_value rows net ask n src)
source_shown rows net ask n src good =
    let same : members_of (map pair_member (pairs_tried rows net ask src)) ≡ members_of (pairs_shown rows net ask src) =
    same_pairs rows net ask src good in
    let any : has_pair (pairs_tried rows net ask src) ≡ has_name (dsts_shown rows net ask src) =
    pair_each (pairs_tried rows net ask src)
    ∙ (sym (some-members_of (map pair_member (pairs_tried rows net ask src)))
    ∙ (ap has_some same ∙ (some-members_of (pairs_shown rows net ask src)
    ∙ member_each (shown_value rows net src) (dsts_shown rows net ask src)))) in
    (λ i. source_group src (any i) (object (same i)))
    ∙ by (has_name (dsts_shown rows net ask src)) (object (members_of (pairs_shown rows net ask src)))
  where
    by : (b : Bool) (group : Data)
        → source_group src b group ≡ option_map (λ (group : Data). (src, group)) (cond b (Some group) None)
    by true group = refl
    by false group = refl

-- ---- all groups

groups_valued : (rows : Rows) (net : Name) (ask : PathAsk) (n : ℕ) (srcs : List Name) → AreGood rows
    → filter_map source_member (map (source_found rows net ask.dsts) srcs) ≡ valued (group_value rows net ask n) srcs
groups_valued rows net ask n [] good = refl
groups_valued rows net ask n (src ∷ srcs) good =
    λ i. cons_option (source_shown rows net ask n src good i) (groups_valued rows net ask n srcs good i)

source_bools : (has tried : Bool) (group : Data)
    → cond tried (cond has (Some group) None) None ≡ cond (has && tried) (Some group) None
source_bools true tried group = refl
source_bools false true group = refl
source_bools false false group = refl

-- the groups that are put are those that the first part shows
groups_shown : (rows : Rows) (net : Name) (ask : PathAsk) (n : ℕ) → AreGood rows
    → object_of (filter_map source_member (sources_found rows net ask)) ≡ section_object (path_face rows net ask n)
groups_shown rows net ask n good =
    ap object_of (groups_valued rows net ask n (srcs_tried rows net ask.srcs) good)
    ∙ ap object
    (same_members _ _ (in_order-members_of (valued (group_value rows net ask n) (srcs_tried rows net ask.srcs)))
    (in_order-named (group_object (path_face rows net ask n)) (srcs_shown rows net ask))
    (λ q.
    found-valued (group_value rows net ask n) (srcs_tried rows net ask.srcs) q
    ∙ (source_bools (has_name (dsts_shown rows net ask q)) (list_any (same_name q) (srcs_tried rows net ask.srcs))
    (group_object (path_face rows net ask n) q)
    ∙ (ap (λ b. cond b (Some (group_object (path_face rows net ask n) q)) None) (source_in rows net ask q good)
    ∙ sym (found-named (group_object (path_face rows net ask n)) (srcs_shown rows net ask) q)))))

-- the first part
costs_shown : (rows : Rows) (net : Name) (ask : PathAsk) (n : ℕ) → AreGood rows
    → object_of ((codes "meta", path_meta rows net n)
    ∷ (codes "cost-map", object_of (filter_map source_member (sources_found rows net ask))) ∷ [])
    ≡ path_costs rows net ask n
unfolding document
costs_shown rows net ask n good =
    ap (λ groups. object_of ((codes "meta", path_meta rows net n) ∷ (codes "cost-map", groups) ∷ []))
    (groups_shown rows net ask n good)

-- the same of sources that were found
pub costs_from : (rows : Rows) (net : Name) (ask : PathAsk) (n : ℕ) (sources : List Source) → AreGood rows
    → sources ≡ sources_found rows net ask
    → object_of ((codes "meta", path_meta rows net n) ∷ (codes "cost-map", object_of (filter_map source_member sources))
    ∷ []) ≡ path_costs rows net ask n
costs_from rows net ask n sources good is =
    ap (λ (found : List Source). object_of ((codes "meta", path_meta rows net n)
    ∷ (codes "cost-map", object_of (filter_map source_member found)) ∷ [])) is
    ∙ costs_shown rows net ask n good
