-- Groups that are written in byte order are those of the filtered map.
use Rattle.std.proofs.Common.{◌≡◌, ◌<◌, ◌∙◌, ◌+◌, ℕ, zero, suc, refl, ap, sym, subst, arith, append_assoc, append-nil}
use Rattle.std.proofs.Common.{drop, length}
use Rattle.std.proofs.lemmas.List.Kept.{IsStrictlySortedBy-filter}
use Rattle.std.proofs.lemmas.Map.Text.{is_eq-slice_cmp}
use Rattle.std.specs.Prelude.{Bool, true, false, ◌||◌, cond, List, [], ◌∷◌, ◌++◌, filter, map, Option, Some, None}
use Rattle.std.specs.Prelude.{is_some, option_map, slice_get, codes}
use Rattle.std.specs.Cmp.Lexicographic.{slice_cmp}
use Rattle.std.specs.List.{cons_option, list_any}
use Rattle.std.specs.List.Sorted.{IsStrictlySortedBy}
use Rattle.std.specs.Ordering.{is_eq, nat_cmp}
use Rattle.std.specs.declared.cmp.Ordering.{Ordering}
use Rattle.std.specs.declared.cmp.Ordering.TheVariants.{Less, Equal, Greater}
use Rattle.json.specs.Written.{Written}
use Rattle.serde_json.specs.Data.{Data, object, member, no_members}
use Rattle.serde_json.specs.Find.{get_member}
use Rattle.serde_json.specs.Written.{comma_if, compact_text, members_text}
use Rattle.json.specs.Print.{quoted}
use Rattle.json_tree.specs.Document.{members_of, object_of, with_member}
use Rattle.json_tree.specs.Order.{AreInOrder, names_of}
use Rattle.json_tree.specs.Tree.{members_in_order}
use Rattle.json_tree.proofs.Lookups.{one_name}
use Rattle.json_tree.proofs.OrderLemmas.{same_members}
use Rattle.alto_rows.specs.Good.{AreGood}
use Rattle.alto_rows.specs.Rows.{Rows, AreSorted}
use Rattle.alto_rows.proofs.ResourceLemmas.{or_false, or_true}
use Rattle.alto_maps.specs.Shape.{Face, Name, document, same_name, section_object}
use Rattle.alto_maps.specs.Writing.{AddsMember, AddsMembers}
use Rattle.alto_maps.specs.Places.{set_of}
use Rattle.alto_maps.proofs.SetLemmas.{Rise, any-set_of, rise-set_of}
use Rattle.alto_maps.proofs.WritingLemmas.{member_more}
use Rattle.net_docs.specs.declared.ask.Pick.{Pick}
use Rattle.net_docs.specs.declared.ask.Pick.TheVariants as pick
use Rattle.cost_docs.specs.CostMap.{cost_shape, destinations_of}
use Rattle.cost_docs.proofs.OrderLemmas.{destinations_rise}
use Rattle.cost_filters.specs.declared.columns.Column.{Column}
use Rattle.cost_filters.specs.Ask.{CostAskData}
use Rattle.cost_filters.specs.Columns.{columns_of, dsts_tried, group_value, has_member, object_if_any, pair_value}
use Rattle.cost_filters.specs.Columns.{reached, srcs_tried, valued}
use Rattle.cost_filters.specs.Filter.{costs_data, costs_of, filtered_face, is_pair, types_name}
use Rattle.cost_tables.specs.Tables.{IsSetOf}
use Rattle.cost_filters.specs.Names.{AreSetIfAny, names_given, pids_unless_given, srcs_among}
use Rattle.net_docs.specs.NetworkMap.{pids_of}
use Rattle.net_docs.proofs.MergedLemmas.{pids_rise}
use Rattle.cost_filters.specs.Pairs.{PairsData, group_shown, if_there, pair_shown, pairs_of}
use Rattle.cost_filters.specs.Text.{PutsIfAny, found_object, group_made, shown_members}
use Rattle.cost_filters.proofs.FilterLemmas.{groups_shown}
use Rattle.cost_filters.proofs.ValuedLemmas.{found-valued, has_some, in_order-members_of, some-members_of}

-- ---- members of rising names

-- the names that have a value
names_valued : (value : Name → Option Data) (names : List Name)
    → names_of (members_in_order (valued value names)) ≡ filter (λ name. is_some (value name)) names
names_valued value [] = refl
names_valued value (name ∷ names) = by (value name) refl (names_valued value names)
  where
    by : (found : Option Data) → value name ≡ found
        → names_of (members_in_order (valued value names)) ≡ filter (λ name. is_some (value name)) names
        → names_of (members_in_order (valued value (name ∷ names)))
        ≡ filter (λ name. is_some (value name)) (name ∷ names)
    by None e below = rw e below
    by (Some d) e below = rw e (ap (λ (more : List Name). name ∷ more) below)

in_order_valued : (value : Name → Option Data) (names : List Name) → Rise names
    → AreInOrder (members_in_order (valued value names))
in_order_valued value names rise =
    subst Rise (sym (names_valued value names))
    (IsStrictlySortedBy-filter (slice_cmp nat_cmp) (λ name. is_some (value name)) names rise)

same_either : (b : Bool) (value : Option Data) → cond b value value ≡ value
same_either true value = refl
same_either false value = refl

found_listed : (value : Name → Option Data) (names : List Name) (q : Name)
    → get_member q (members_in_order (valued value names)) ≡ cond (list_any (same_name q) names) (value q) None
found_listed value [] q = refl
found_listed value (name ∷ names) q =
    by (value name) refl (slice_cmp nat_cmp q name) refl (sym (is_eq-slice_cmp q name)) (found_listed value names q)
  where
    by : (found : Option Data) → value name ≡ found → (o : Ordering) → slice_cmp nat_cmp q name ≡ o
        → same_name q name ≡ is_eq (slice_cmp nat_cmp q name)
        → get_member q (members_in_order (valued value names)) ≡ cond (list_any (same_name q) names) (value q) None
        → get_member q (members_in_order (valued value (name ∷ names)))
        ≡ cond (same_name q name || list_any (same_name q) names) (value q) None
    by None e Less is same rest = rw (e, same, is) rest
    by None e Equal is same rest =
        let here : value q ≡ None = ap value (one_name q name is) ∙ e in
        rw (e, same, is) (rest ∙ rw here (same_either (list_any (same_name q) names) None))
    by None e Greater is same rest = rw (e, same, is) rest
    by (Some d) e Less is same rest = rw (e, same, is) rest
    by (Some d) e Equal is same rest = let here : value q ≡ Some d = ap value (one_name q name is) ∙ e in
        rw (e, same, is, here) refl
    by (Some d) e Greater is same rest = rw (e, same, is) rest

-- an object of values of rising names has its members as they stand
pub listed_valued : (value : Name → Option Data) (names : List Name) → Rise names
    → members_of (valued value names) ≡ members_in_order (valued value names)
listed_valued value names rise =
    same_members _ _ (in_order-members_of (valued value names)) (in_order_valued value names rise)
    (λ q. found-valued value names q ∙ sym (found_listed value names q))

-- ---- names in byte order, each once

pub set_members : (value : Name → Option Data) (names all : List Name) → IsSetOf names all
    → members_of (valued value names) ≡ members_of (valued value all)
set_members value names all set =
    same_members _ _ (in_order-members_of (valued value names)) (in_order-members_of (valued value all))
    (λ q. found-valued value names q ∙ (ap (λ b. cond b (value q) None) (set.same q) ∙ sym (found-valued value all q)))

-- their object is that of the names that they are
pub set_object : (value : Name → Option Data) (names all : List Name) → IsSetOf names all
    → object_if_any (valued value names) ≡ object_if_any (valued value all)
set_object value names all set =
    let same : members_of (valued value names) ≡ members_of (valued value all) = set_members value names all set in
    let any : has_member (valued value names) ≡ has_member (valued value all) =
    sym (some-members_of (valued value names)) ∙ (ap has_some same ∙ some-members_of (valued value all)) in
    λ i. cond (any i) (Some (object (same i))) None

-- the set of names is one of what they are
pub set_is : (set names all : List Name) → set ≡ set_of names → names ≡ all → IsSetOf set all
set_is set names all is same =
    record {
      rise = subst Rise (sym is) (rise-set_of names);
      same = λ q. ap (list_any (same_name q)) is
          ∙ (any-set_of q names ∙ ap (list_any (same_name q)) same);
    }

-- names that rise are one of themselves
pub rising_set : (names all : List Name) → names ≡ all → Rise all → IsSetOf names all
rising_set names all is rise = record { rise = subst Rise (sym is) rise; same = λ q. ap (list_any (same_name q)) is }

-- the destinations in less than two columns rise
pub few_rise : (rows : Rows) (net : Name) (columns : List Column) (src : Name) → AreSorted rows → length columns < 2
    → Rise (reached rows net columns src)
unfolding IsStrictlySortedBy
few_rise rows net [] src sorted few = tt
few_rise rows net (column ∷ []) src sorted few =
    subst Rise (sym (append-nil (destinations_of rows net column.metric src)))
    (destinations_rise net column.metric src rows sorted)
few_rise rows net (column ∷ other ∷ columns) src sorted few = absurd (omega arith)

-- ---- one group

pub shown_by : (f : Name → Option (List (Option ℕ))) (multi : Bool) (dsts : List Name)
    → shown_members multi dsts (map f dsts) ≡ valued (λ dst. option_map (costs_data multi) (f dst)) dsts
shown_by f multi [] = refl
shown_by f multi (dst ∷ dsts) = by (f dst) refl (shown_by f multi dsts)
  where
    by : (found : Option (List (Option ℕ))) → f dst ≡ found
        → shown_members multi dsts (map f dsts) ≡ valued (λ dst. option_map (costs_data multi) (f dst)) dsts
        → shown_members multi (dst ∷ dsts) (map f (dst ∷ dsts))
        ≡ valued (λ dst. option_map (costs_data multi) (f dst)) (dst ∷ dsts)
    by None e below = rw e below
    by (Some costs) e below = rw e (ap (λ (more : List (Name × Data)). (dst, costs_data multi costs) ∷ more) below)

any_by : (f : Name → Option (List (Option ℕ))) (multi : Bool) (dsts : List Name)
    → list_any (λ pair. is_some pair) (map f dsts)
    ≡ has_member (valued (λ dst. option_map (costs_data multi) (f dst)) dsts)
any_by f multi [] = refl
any_by f multi (dst ∷ dsts) = by (f dst) refl (any_by f multi dsts)
  where
    by : (found : Option (List (Option ℕ))) → f dst ≡ found
        → list_any (λ pair. is_some pair) (map f dsts)
        ≡ has_member (valued (λ dst. option_map (costs_data multi) (f dst)) dsts)
        → list_any (λ pair. is_some pair) (map f (dst ∷ dsts))
        ≡ has_member (valued (λ dst. option_map (costs_data multi) (f dst)) (dst ∷ dsts))
    by None e below = rw e below
    by (Some costs) e below = rw e refl

-- what is found of rising destinations makes the object of those that have a value
pub object_found : (f : Name → Option (List (Option ℕ))) (multi : Bool) (dsts : List Name) → Rise dsts
    → found_object multi dsts (map f dsts) ≡ object_if_any (valued (λ dst. option_map (costs_data multi) (f dst)) dsts)
object_found f multi dsts rise =
    let same : members_in_order (shown_members multi dsts (map f dsts))
    ≡ members_of (valued (λ dst. option_map (costs_data multi) (f dst)) dsts) =
    ap members_in_order (shown_by f multi dsts)
    ∙ sym (listed_valued (λ dst. option_map (costs_data multi) (f dst)) dsts rise) in
    λ i. cond (any_by f multi dsts i) (Some (object (same i))) None

-- ---- all groups

option_cond : {A B : Type 0} (f : A → B) (b : Bool) (x : A)
    → option_map f (cond b (Some x) None) ≡ cond b (Some (f x)) None
option_cond f true x = refl
option_cond f false x = refl

-- a pair has its value
pub pair_is : (rows : Rows) (net : Name) (ask : CostAskData) (src dst : Name)
    → pair_shown ask.multi (pairs_of rows net ask) src dst ≡ pair_value rows net ask src dst
pair_is rows net ask src dst =
    option_cond (costs_data ask.multi) (is_pair rows net ask src dst) (costs_of rows net ask.types src dst)

group_is : (rows : Rows) (net : Name) (ask : CostAskData) (src : Name)
    → group_shown ask.multi ask.dsts (pairs_of rows net ask) src ≡ group_value rows net ask src
group_is rows net ask src =
    λ i. object_if_any (valued (λ dst. pair_is rows net ask src dst i)
    (dsts_tried rows net (columns_of rows net ask.types) ask.dsts src))

-- by the names that are given
given_is : (multi : Bool) (picks : Pick) (pairs : PairsData) (src : Name)
    → group_made multi (names_given picks) pairs src ≡ group_shown multi picks pairs src
given_is multi pick.All pairs src = refl
given_is multi (pick.Only names) pairs src =
    set_object (pair_shown multi pairs src) (set_of names) names (set_is (set_of names) names names refl refl)

pub given_rise : (picks : Pick) → AreSetIfAny (names_given picks)
given_rise pick.All = tt
given_rise (pick.Only names) = rise-set_of names

-- the sources that are given, or else all PIDs, are those that may be sources
pub tried_set : (rows : Rows) (net : Name) (picks : Pick) (pids srcs : List Name) → AreSorted rows
    → pids ≡ pids_unless_given rows net picks → srcs ≡ srcs_among pids picks → IsSetOf srcs (srcs_tried rows net picks)
tried_set rows net pick.All pids srcs sorted all among =
    rising_set srcs (pids_of rows net) (among ∙ all) (pids_rise net rows sorted)
tried_set rows net (pick.Only names) pids srcs sorted all among = set_is srcs names names among refl

-- the groups of the sources in byte order are those of the filtered map
pub section_is : (rows : Rows) (net : Name) (ask : CostAskData) (srcs : List Name) → AreGood rows
    → IsSetOf srcs (srcs_tried rows net ask.srcs)
    → object (members_in_order (valued (group_made ask.multi (names_given ask.dsts) (pairs_of rows net ask)) srcs))
    ≡ section_object (filtered_face rows net ask)
section_is rows net ask srcs good set =
    (λ i. object (members_in_order (valued (λ src. given_is ask.multi ask.dsts (pairs_of rows net ask) src i) srcs)))
    ∙ (ap object
    (sym (listed_valued (group_shown ask.multi ask.dsts (pairs_of rows net ask)) srcs set.rise)
    ∙ set_members (group_shown ask.multi ask.dsts (pairs_of rows net ask)) srcs (srcs_tried rows net ask.srcs) set)
    ∙ ((λ i. object_of (valued (λ src. group_is rows net ask src i) (srcs_tried rows net ask.srcs)))
    ∙ groups_shown rows net ask good))

-- ---- the meta

-- two members one after another
two_members : (k l : Name) (d e : Data) (old mid new : Written) → AddsMember k d old mid → AddsMember l e mid new
    → AddsMembers (member k d (member l e no_members)) old new
two_members k l d e old mid new first second =
    record {
      tokens = member_more l e no_members mid new second ∙ member_more k d (member l e no_members) old mid first;
      before = second.before ∙ first.before;
    }

-- of several types, whose name comes behind that of the tags
pub meta_multi : (multi : Bool) (types tags : Data) (old mid new : Written) → multi ≡ true
    → AddsMember (codes "dependent-vtags") tags old mid
    → AddsMember (types_name multi) types mid new
    → AddsMembers (members_of ((types_name multi, types) ∷ (codes "dependent-vtags", tags) ∷ [])) old new
unfolding with_member
meta_multi true types tags old mid new is first second =
    two_members (codes "dependent-vtags") (types_name true) tags types old mid new first second
meta_multi false types tags old mid new is first second = cc

-- of one
pub meta_single : (multi : Bool) (types tags : Data) (old mid new : Written) → multi ≡ false
    → AddsMember (types_name multi) types old mid
    → AddsMember (codes "dependent-vtags") tags mid new
    → AddsMembers (members_of ((types_name multi, types) ∷ (codes "dependent-vtags", tags) ∷ [])) old new
unfolding with_member
meta_single true types tags old mid new is first second = cc
meta_single false types tags old mid new is first second =
    two_members (types_name false) (codes "dependent-vtags") types tags old mid new first second

-- ---- the whole text

-- the groups, and behind them the meta
pub document_text : (face : Face) (opened section comma meta whole : List ℕ)
    → opened ≡ 123 ∷ (quoted (codes "cost-map") ++ 58 ∷ [])
    → section ≡ opened ++ compact_text (section_object face)
    → comma ≡ section ++ 44 ∷ []
    → meta ≡ comma ++ (quoted (codes "meta") ++ 58 ∷ compact_text face.meta)
    → whole ≡ meta ++ 125 ∷ []
    → whole ≡ compact_text (document cost_shape face)
unfolding document with_member
document_text face opened section comma meta whole a b c d e = rw (e, d, c, b, a) (simp append_assoc refl)

-- ---- steps of loops

-- a comma, a name and a value are a member
pub member_put : (name : Name) (value : Data) (later : Bool) (old comma named new : List ℕ)
    → comma ≡ old ++ comma_if later → named ≡ comma ++ (quoted name ++ 58 ∷ []) → new ≡ named ++ compact_text value
    → PutsIfAny name (Some value) later old true new
member_put name value later old comma named new a b c =
    record { text = rw (c, b, a) (simp append_assoc refl); behind = sym (or_true later) }

-- what is no pair has no value
pub no_pair : {A B : Type 0} (f : A → B) (found : Option A) → is_some found ≡ false → option_map f found ≡ None
no_pair f None none = refl
no_pair f (Some x) none = cc

-- where there is no value nothing is put
pub none_put : (name : Name) (later : Bool) (old : List ℕ) → PutsIfAny name None later old later old
none_put name later old = record { text = sym (append-nil old); behind = sym (or_false later) }

-- a member that was put if there is one, before those that are left
pub any_more : (name : Name) (value : Option Data) (left : List (Name × Data)) (later after : Bool) (old new : List ℕ)
    → PutsIfAny name value later old after new
    → new ++ members_text after (members_in_order left)
    ≡ old ++ members_text later (members_in_order (cons_option (option_map (λ found. (name, found)) value) left))
any_more name None left later after old new put =
    rw (put.text, put.behind, or_false later, append-nil old) refl
any_more name (Some d) left later after old new put =
    rw (put.text, put.behind, or_true later) (simp append_assoc refl)

-- the group that was put, if there is one, before those of the sources that are left
pub group_more : (group : Name → Option Data) (src : Name) (srcs left : List Name) (later after : Bool)
    (old new whole : List ℕ) → srcs ≡ src ∷ left → PutsIfAny src (group src) later old after new
    → old ++ members_text later (members_in_order (valued group srcs)) ≡ whole
    → new ++ members_text after (members_in_order (valued group left)) ≡ whole
group_more group src srcs left later after old new whole step put is =
    any_more src (group src) (valued group left) later after old new put
    ∙ (ap (λ (names : List Name). old ++ members_text later (members_in_order (valued group names))) (sym step) ∙ is)

none_left : (multi : Bool) (dsts : List Name) → shown_members multi dsts [] ≡ []
none_left multi [] = refl
none_left multi (dst ∷ dsts) = refl

-- what is found of the next destination, before that of the others
shown_step : (multi : Bool) (dst : Name) (dsts : List Name) (found : List (Option (List (Option ℕ)))) (at : ℕ)
    → shown_members multi (dst ∷ dsts) (drop at found)
    ≡ cons_option (option_map (λ d. (dst, d)) (option_map (costs_data multi) (if_there (slice_get found at))))
    (shown_members multi dsts (drop (suc at) found))
shown_step multi dst dsts [] zero = sym (none_left multi dsts)
shown_step multi dst dsts [] (suc at) = sym (none_left multi dsts)
shown_step multi dst dsts (None ∷ found) zero = refl
shown_step multi dst dsts (Some costs ∷ found) zero = refl
shown_step multi dst dsts (pair ∷ found) (suc at) = shown_step multi dst dsts found at

-- the members of the destinations from the next on
pub shown_next : (multi : Bool) (dst : Name) (dsts left : List Name) (found : List (Option (List (Option ℕ)))) (at : ℕ)
    → dsts ≡ dst ∷ left
    → shown_members multi dsts (drop at found)
    ≡ cons_option (option_map (λ d. (dst, d)) (option_map (costs_data multi) (if_there (slice_get found at))))
    (shown_members multi left (drop (at + 1) found))
shown_next multi dst dsts left found at step =
    let next : suc at ≡ at + 1 = omega arith in
    ap (λ (names : List Name). shown_members multi names (drop at found)) step
    ∙ (shown_step multi dst left found at
    ∙ ap (λ n. cons_option (option_map (λ d. (dst, d)) (option_map (costs_data multi) (if_there (slice_get found at))))
    (shown_members multi left (drop n found))) next)

-- the members that are left behind that of the next destination
pub shown_more : (multi : Bool) (dst : Name) (dsts left : List Name) (found : List (Option (List (Option ℕ)))) (at : ℕ)
    (later after : Bool) (old new : List ℕ) → dsts ≡ dst ∷ left
    → PutsIfAny dst (option_map (costs_data multi) (if_there (slice_get found at))) later old after new
    → new ++ members_text after (members_in_order (shown_members multi left (drop (at + 1) found)))
    ≡ old ++ members_text later (members_in_order (shown_members multi dsts (drop at found)))
shown_more multi dst dsts left found at later after old new step put =
    any_more dst (option_map (costs_data multi) (if_there (slice_get found at)))
    (shown_members multi left (drop (at + 1) found)) later after old new put
    ∙ ap (λ ms. old ++ members_text later (members_in_order ms))
    (sym (shown_next multi dst dsts left found at step))
