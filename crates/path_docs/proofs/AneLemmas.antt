-- The ANEs of the pairs that are found are those of the first part.
use Rattle.std.proofs.Common.{◌≡◌, ◌∙◌, refl, ap, sym}
use Rattle.std.proofs.lemmas.List.Folds.{list_any-append}
use Rattle.std.proofs.lemmas.List.Sums.{fold-append}
use Rattle.std.specs.Prelude.{ℕ, Bool, true, false, ◌&&◌, ◌||◌, cond, List, [], ◌∷◌, ◌++◌, map, Option, Some, None}
use Rattle.std.specs.Prelude.{is_some, codes}
use Rattle.std.specs.List.{flat_map, list_any}
use Rattle.serde_json.specs.Data.{Data, null}
use Rattle.json_tree.specs.Document.{object_of}
use Rattle.json_tree.specs.Order.{names_of}
use Rattle.json_tree.specs.Tree.{members_in_order}
use Rattle.json_tree.proofs.OrderLemmas.{same_members}
use Rattle.alto_rows.specs.Good.{AreGood}
use Rattle.alto_rows.specs.Order.{same_name}
use Rattle.alto_rows.specs.Rows.{Rows}
use Rattle.alto_maps.specs.Places.{set_of}
use Rattle.alto_maps.specs.Shape.{Name}
use Rattle.alto_maps.proofs.ObjectLemmas.{found-named, in_order-named, named}
use Rattle.alto_maps.proofs.RisingLemmas.{named-rising}
use Rattle.alto_maps.proofs.SetLemmas.{any-set_of, itself, one, rise-set_of}
use Rattle.net_docs.specs.declared.ask.Pick.{Pick}
use Rattle.path_docs.specs.declared.ask.PathAsk.{PathAsk}
use Rattle.path_docs.specs.Found.{Source, dsts_tried, pairs_among, pairs_anes, source_found, sources_anes}
use Rattle.path_docs.specs.Found.{sources_found, srcs_tried, with_names}
use Rattle.path_docs.specs.PathCosts.{anes_of, dsts_shown, has_name, path_of, srcs_shown}
use Rattle.path_docs.specs.PathProperties.{ane_entity, ane_properties, anes_shown, path_properties, properties_meta}
use Rattle.path_docs.proofs.ShownLemmas.{destination_in, source_in}

-- ---- lists with the same names

or_true : (b : Bool) → (b || true) ≡ true
or_true true = refl
or_true false = refl

-- a name that passes a test, among names
passes_among : (test : Name → Bool) (x : Name) (names : List Name) → test x ≡ true → list_any (same_name x) names ≡ true
    → list_any test names ≡ true
passes_among test x [] h among = cc
passes_among test x (name ∷ names) h among = by (same_name x name) refl (passes_among test x names h)
  where
    by : (b : Bool) → same_name x name ≡ b → (list_any (same_name x) names ≡ true → list_any test names ≡ true)
        → (test name || list_any test names) ≡ true
    by true e below = let here : test name ≡ true = ap test (sym (one x name e)) ∙ h in rw here refl
    by false e below = rw (below (rw e at among)) (or_true (test name))

-- where names that pass a test are among others, one of those passes it too
passes_more : (test : Name → Bool) (names others : List Name)
    → ((x : Name) → test x ≡ true → list_any (same_name x) names ≡ true → list_any (same_name x) others ≡ true)
    → list_any test names ≡ true → list_any test others ≡ true
passes_more test [] others each h = cc
passes_more test (name ∷ names) others each h =
    by (test name) refl (passes_more test names others (λ x p among. each x p (rw among (or_true (same_name x name)))))
  where
    by : (b : Bool) → test name ≡ b → (list_any test names ≡ true → list_any test others ≡ true)
        → list_any test others ≡ true
    by true e below = passes_among test name others e (each name e (rw (itself name) refl))
    by false e below = below (rw e at h)

alike_bools : (a b : Bool) → (a ≡ true → b ≡ true) → (b ≡ true → a ≡ true) → a ≡ b
alike_bools true b f g = sym (f refl)
alike_bools false true f g = g refl
alike_bools false false f g = refl

-- a test finds the same in lists that have the same of the names that pass it
pub passes_alike : (test : Name → Bool) (names others : List Name)
    → ((x : Name) → test x ≡ true → list_any (same_name x) names ≡ list_any (same_name x) others)
    → list_any test names ≡ list_any test others
passes_alike test names others alike =
    alike_bools (list_any test names) (list_any test others)
    (passes_more test names others (λ x p among. sym (alike x p) ∙ among))
    (passes_more test others names (λ x p among. alike x p ∙ among))

names_of-rising : (names : List Name)
    → names_of (members_in_order (map {B = Name × Data} (λ name. (name, null)) names)) ≡ names
names_of-rising [] = refl
names_of-rising (name ∷ names) = ap (λ (more : List Name). name ∷ more) (names_of-rising names)

-- lists with the same names have one set
pub same_sets : (names others : List Name) → ((q : Name) → list_any (same_name q) names ≡ list_any (same_name q) others)
    → set_of names ≡ set_of others
same_sets names others same =
    let objects : named (λ name. null) (set_of names) ≡ named (λ name. null) (set_of others) =
    same_members _ _ (in_order-named (λ name. null) (set_of names)) (in_order-named (λ name. null) (set_of others))
    (λ q.
    found-named (λ name. null) (set_of names) q
    ∙ (ap (λ b. cond b (Some null) None) (any-set_of q names ∙ (same q ∙ sym (any-set_of q others)))
    ∙ sym (found-named (λ name. null) (set_of others) q))) in
    sym (names_of-rising (set_of names))
    ∙ (ap names_of
    (sym (named-rising (λ name. null) (set_of names) (rise-set_of names))
    ∙ (objects ∙ named-rising (λ name. null) (set_of others) (rise-set_of others)))
    ∙ names_of-rising (set_of others))

-- ---- the ANEs of pairs

any_flat : (q : Name) (f : Name → List Name) (names : List Name)
    → list_any (same_name q) (flat_map f names) ≡ list_any (λ name. list_any (same_name q) (f name)) names
any_flat q f [] = refl
any_flat q f (name ∷ names) =
    list_any-append (same_name q) (f name) (flat_map f names) ∙ ap (λ b. list_any (same_name q) (f name) || b)
    (any_flat q f names)

-- an ANE is on the path of a pair
abbrev is_on : Rows → Name → Name → Name → Name → Bool
is_on rows net q src dst = list_any (same_name q) (anes_of rows net src dst)

pairs_any : (rows : Rows) (net q src : Name) (dsts : List Name)
    → list_any (same_name q) (pairs_anes (pairs_among rows net src dsts)) ≡ list_any (is_on rows net q src) dsts
pairs_any rows net q src [] = refl
pairs_any rows net q src (dst ∷ dsts) = by (path_of rows net src dst) refl (pairs_any rows net q src dsts)
  where
    by : (found : Option (List Name)) → path_of rows net src dst ≡ found
        → list_any (same_name q) (pairs_anes (pairs_among rows net src dsts)) ≡ list_any (is_on rows net q src) dsts
        → list_any (same_name q) (pairs_anes (pairs_among rows net src (dst ∷ dsts)))
        ≡ list_any (is_on rows net q src) (dst ∷ dsts)
    by None e below = rw e below
    by (Some anes) e below =
        rw e (list_any-append (same_name q) anes (pairs_anes (pairs_among rows net src dsts))
        ∙ ap (λ b. list_any (same_name q) anes || b) below)

-- an ANE is on the path of a pair of a source that is tried, and of one that is shown
abbrev is_tried : Rows → Name → Pick → Name → Name → Bool
is_tried rows net dsts q src = list_any (is_on rows net q src) (dsts_tried rows net dsts src)

abbrev is_shown : Rows → Name → PathAsk → Name → Name → Bool
is_shown rows net ask q src = list_any (is_on rows net q src) (dsts_shown rows net ask src)

sources_any : (rows : Rows) (net q : Name) (dsts : Pick) (srcs : List Name)
    → list_any (same_name q) (sources_anes (map (source_found rows net dsts) srcs))
    ≡ list_any (is_tried rows net dsts q) srcs
sources_any rows net q dsts [] = refl
sources_any rows net q dsts (src ∷ srcs) =
    list_any-append (same_name q) (pairs_anes (pairs_among rows net src (dsts_tried rows net dsts src)))
    (sources_anes (map (source_found rows net dsts) srcs))
    ∙ (λ i. pairs_any rows net q src (dsts_tried rows net dsts src) i || sources_any rows net q dsts srcs i)

-- a pair with an ANE has a path
has_path : (rows : Rows) (net q src dst : Name) → is_on rows net q src dst ≡ true
    → is_some (path_of rows net src dst) ≡ true
has_path rows net q src dst h = by (path_of rows net src dst) refl
  where
    by : (found : Option (List Name)) → path_of rows net src dst ≡ found → is_some (path_of rows net src dst) ≡ true
    by (Some anes) e = rw e refl
    by None e = let none : false ≡ true = rw e at h in cc

-- a test finds something among names only where there is one
has_one : (test : Name → Bool) (names : List Name) → list_any test names ≡ true → has_name names ≡ true
has_one test [] h = cc
has_one test (name ∷ names) h = refl

-- what is true is no condition
without_condition : (condition : Bool) (a b : Bool) → condition ≡ true → (condition && a) ≡ b → a ≡ b
without_condition true a b c e = e
without_condition false a b c e = cc

same_within : (rows : Rows) (net : Name) (ask : PathAsk) (q src : Name) → AreGood rows
    → is_tried rows net ask.dsts q src ≡ is_shown rows net ask q src
same_within rows net ask q src good =
    passes_alike (is_on rows net q src) (dsts_tried rows net ask.dsts src) (dsts_shown rows net ask src)
    (λ dst h.
    without_condition (is_some (path_of rows net src dst)) (list_any (same_name dst) (dsts_tried rows net ask.dsts src))
    (list_any (same_name dst) (dsts_shown rows net ask src))
    (has_path rows net q src dst h) (destination_in rows net ask src dst good))

same_among : (rows : Rows) (net : Name) (ask : PathAsk) (q : Name) → AreGood rows
    → list_any (is_shown rows net ask q) (srcs_tried rows net ask.srcs)
    ≡ list_any (is_shown rows net ask q) (srcs_shown rows net ask)
same_among rows net ask q good =
    passes_alike (is_shown rows net ask q) (srcs_tried rows net ask.srcs) (srcs_shown rows net ask)
    (λ src h.
    without_condition (has_name (dsts_shown rows net ask src)) (list_any (same_name src) (srcs_tried rows net ask.srcs))
    (list_any (same_name src) (srcs_shown rows net ask))
    (has_one (is_on rows net q src) (dsts_shown rows net ask src) h) (source_in rows net ask src good))

shown_any : (rows : Rows) (net : Name) (ask : PathAsk) (q : Name) (srcs : List Name)
    → list_any (same_name q) (flat_map (λ src. flat_map (λ dst. anes_of rows net src dst) (dsts_shown rows net ask src))
    srcs) ≡ list_any (is_shown rows net ask q) srcs
shown_any rows net ask q srcs =
    any_flat q (λ src. flat_map (λ dst. anes_of rows net src dst) (dsts_shown rows net ask src)) srcs
    ∙ ap (λ test. list_any test srcs)
    (λ i src. any_flat q (λ dst. anes_of rows net src dst) (dsts_shown rows net ask src) i)

-- the ANEs of the pairs that are found are those of the first part
sources_shown : (rows : Rows) (net : Name) (ask : PathAsk) → AreGood rows
    → set_of (sources_anes (sources_found rows net ask)) ≡ anes_shown rows net ask
sources_shown rows net ask good =
    same_sets (sources_anes (sources_found rows net ask))
    (flat_map (λ src. flat_map (λ dst. anes_of rows net src dst) (dsts_shown rows net ask src))
    (srcs_shown rows net ask))
    (λ q.
    sources_any rows net q ask.dsts (srcs_tried rows net ask.srcs)
    ∙ (ap (λ test. list_any test (srcs_tried rows net ask.srcs)) (λ i src. same_within rows net ask q src good i)
    ∙ (same_among rows net ask q good ∙ sym (shown_any rows net ask q (srcs_shown rows net ask)))))

-- the second part
properties_shown : (rows : Rows) (net : Name) (ask : PathAsk) (n : ℕ) → AreGood rows
    → object_of ((codes "meta", properties_meta rows net n)
    ∷ (
      codes "property-map",
      object_of (map (λ ane. (ane_entity ane, ane_properties rows net ask.bandwidth ane))
          (set_of (sources_anes (sources_found rows net ask)))),
    )
    ∷ [])
    ≡ path_properties rows net ask n
properties_shown rows net ask n good =
    ap (λ (anes : List Name). object_of ((codes "meta", properties_meta rows net n)
    ∷ (codes "property-map", object_of (map (λ ane. (ane_entity ane, ane_properties rows net ask.bandwidth ane)) anes))
    ∷ []))
    (sources_shown rows net ask good)

-- the same of sources that were found
pub properties_from : (rows : Rows) (net : Name) (ask : PathAsk) (n : ℕ) (sources : List Source) → AreGood rows
    → sources ≡ sources_found rows net ask
    → object_of ((codes "meta", properties_meta rows net n)
    ∷ (
      codes "property-map",
      object_of (map (λ ane. (ane_entity ane, ane_properties rows net ask.bandwidth ane))
          (set_of (sources_anes sources))),
    )
    ∷ [])
    ≡ path_properties rows net ask n
properties_from rows net ask n sources good is =
    ap (λ (found : List Source). object_of ((codes "meta", properties_meta rows net n)
    ∷ (
      codes "property-map",
      object_of (map (λ ane. (ane_entity ane, ane_properties rows net ask.bandwidth ane))
          (set_of (sources_anes found))),
    )
    ∷ []))
    is
    ∙ properties_shown rows net ask n good

-- ---- sets with more names

-- a set with names and then others
pub with_names_append : (set names others : List Name)
    → with_names set (names ++ others) ≡ with_names (with_names set names) others
with_names_append set names others = fold-append _ set names others
