-- A filtered network map: the group of each PID, and which PIDs have one.
use Rattle.std.proofs.Common.{◌≡◌, refl, ap, sym, ◌∙◌}
use Rattle.std.proofs.lemmas.Map.Views.{any-filter_same}
use Rattle.std.specs.Prelude.{Bool, true, false, ◌&&◌, cond, List, [], ◌∷◌, filter, map, not, Some, None, codes}
use Rattle.std.specs.List.{list_any}
use Rattle.serde_json.specs.Data.{Data, object, Members, no_members}
use Rattle.json_tree.specs.Document.{array_of, object_of}
use Rattle.json_tree.proofs.OrderLemmas.{same_members}
use Rattle.alto_addr.specs.declared.prefix.Prefix.{Prefix}
use Rattle.alto_rows.specs.declared.key.Key.TheVariants as key
use Rattle.alto_rows.specs.Order.{same_name}
use Rattle.alto_rows.specs.Rows.{Rows, has_row}
use Rattle.alto_maps.specs.Shape.{Name, section_object}
use Rattle.alto_maps.proofs.ObjectLemmas.{found-named, in_order-named}
use Rattle.alto_maps.proofs.SetLemmas.{one}
use Rattle.net_docs.specs.Filter.{asked_group, filtered_face, is_asked, is_picked}
use Rattle.net_docs.specs.NetworkMap.{families, is_empty, net_face, pids_of}
use Rattle.net_docs.specs.Prefixes.{prefixes_owned, texts_in_family, with_texts}
use Rattle.net_docs.specs.declared.ask.Family.{Family}
use Rattle.net_docs.specs.declared.ask.Pick.TheVariants as pick
use Rattle.net_docs.proofs.SpanLemmas.{texts_owned}
use Rattle.net_docs.proofs.StandsLemmas.{stands_where}

-- ---- one group

-- members with the texts of a family, where it is asked for
abbrev put : List Family → List Prefix → Name → Members → Members
put asked prefixes kind members = cond (is_asked asked kind) (with_texts kind prefixes members) members

-- a group that lists these texts by the families that are asked for
abbrev listing : List Family → (Name → List Data) → Data
listing asked texts =
    object_of (map (λ kind. (kind, array_of (texts kind)))
    (filter (is_asked asked) (filter (λ kind. not (is_empty (texts kind))) families)))

-- both families put one after the other make the group
pub families_asked : (asked : List Family) (prefixes : List Prefix)
    → object (put asked prefixes (codes "ipv6") (put asked prefixes (codes "ipv4") no_members))
    ≡ listing asked (λ kind. texts_in_family kind prefixes)
families_asked asked prefixes =
    by (is_asked asked (codes "ipv4")) (is_asked asked (codes "ipv6"))
    (is_empty (texts_in_family (codes "ipv4") prefixes)) (is_empty (texts_in_family (codes "ipv6") prefixes))
    refl refl refl refl
  where
    by : (a b c d : Bool) → is_asked asked (codes "ipv4") ≡ a → is_asked asked (codes "ipv6") ≡ b
        → is_empty (texts_in_family (codes "ipv4") prefixes) ≡ c
        → is_empty (texts_in_family (codes "ipv6") prefixes) ≡ d
        → object (put asked prefixes (codes "ipv6") (put asked prefixes (codes "ipv4") no_members))
        ≡ listing asked (λ kind. texts_in_family kind prefixes)
    by false false true true p q e f = rw (e, f, p, q) refl
    by false false true false p q e f = rw (e, f, p, q) refl
    by false false false true p q e f = rw (e, f, p, q) refl
    by false false false false p q e f = rw (e, f, p, q) refl
    by false true true true p q e f = rw (e, f, p, q) refl
    by false true true false p q e f = rw (e, f, p, q) refl
    by false true false true p q e f = rw (e, f, p, q) refl
    by false true false false p q e f = rw (e, f, p, q) refl
    by true false true true p q e f = rw (e, f, p, q) refl
    by true false true false p q e f = rw (e, f, p, q) refl
    by true false false true p q e f = rw (e, f, p, q) refl
    by true false false false p q e f = rw (e, f, p, q) refl
    by true true true true p q e f = rw (e, f, p, q) refl
    by true true true false p q e f = rw (e, f, p, q) refl
    by true true false true p q e f = rw (e, f, p, q) refl
    by true true false false p q e f = rw (e, f, p, q) refl

-- the group of a PID's prefixes is the one that the filtered map shows
pub asked_owned : (rows : Rows) (net pid : Name) (asked : List Family)
    → listing asked (λ kind. texts_in_family kind (prefixes_owned rows net pid)) ≡ asked_group rows net asked pid
asked_owned rows net pid asked = λ i. listing asked (λ kind. texts_owned rows net pid kind i)

-- ---- which PIDs

all_pass : (names : List Name) → filter (is_picked pick.All) names ≡ names
all_pass [] = refl
all_pass (name ∷ names) = ap (λ (more : List Name). name ∷ more) (all_pass names)

-- where all PIDs are asked for
pub all_asked : (rows : Rows) (net : Name) (asked : List Family)
    → object_of (map (λ pid. (pid, asked_group rows net asked pid)) (pids_of rows net))
    ≡ section_object (filtered_face (record { pids = pick.All; families = asked }) (net_face net rows))
all_asked rows net asked = ap (λ pids. object_of (map (λ pid. (pid, asked_group rows net asked pid)) pids))
    (sym (all_pass (pids_of rows net)))

-- where some are: those of them that are declared
pub some_asked : (rows : Rows) (net : Name) (asked : List Family) (names : List Name)
    → object_of (map (λ pid. (pid, asked_group rows net asked pid))
    (filter (λ pid. has_row rows (key.Pid net pid)) names))
    ≡ section_object (filtered_face (record { pids = pick.Only names; families = asked }) (net_face net rows))
some_asked rows net asked names =
    ap object
    (same_members _ _ (in_order-named group (filter standing names))
    (in_order-named group (filter (is_picked (pick.Only names)) (pids_of rows net)))
    (λ q.
    found-named group (filter standing names) q
    ∙ (ap (λ b. cond b (Some (group q)) None) (both q)
    ∙ sym (found-named group (filter (is_picked (pick.Only names)) (pids_of rows net)) q))))
  where
    group : Name → Data
    group = asked_group rows net asked

    standing : Name → Bool
    standing pid = has_row rows (key.Pid net pid)

    swap : (a b : Bool) → (a && b) ≡ (b && a)
    swap true true = refl
    swap true false = refl
    swap false true = refl
    swap false false = refl

    both : (q : Name) → list_any (same_name q) (filter standing names)
        ≡ list_any (same_name q) (filter (is_picked (pick.Only names)) (pids_of rows net))
    both q =
        any-filter_same (same_name q) standing (standing q) (λ n e. ap standing (sym (one q n e))) names
        ∙ (ap (λ b. b && list_any (same_name q) names) (sym (stands_where net q rows))
        ∙ (swap (list_any (same_name q) (pids_of rows net)) (list_any (same_name q) names)
        ∙ sym (any-filter_same (same_name q) (is_picked (pick.Only names)) (list_any (same_name q) names)
        (λ n e. ap (λ m. list_any (same_name m) names) (sym (one q n e))) (pids_of rows net))))
