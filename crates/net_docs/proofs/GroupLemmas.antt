-- The group of a PID, family by family.
use Rattle.std.proofs.Common.{◌≡◌, refl}
use Rattle.std.specs.Prelude.{Bool, true, false, filter, not, map, codes}
use Rattle.serde_json.specs.Data.{Data, object, no_members}
use Rattle.json_tree.specs.Document.{array_of, object_of}
use Rattle.alto_addr.specs.declared.prefix.Prefix.{Prefix}
use Rattle.std.specs.Prelude.{List}
use Rattle.alto_rows.specs.Rows.{Rows}
use Rattle.alto_maps.specs.Shape.{Name, group_object}
use Rattle.net_docs.specs.NetworkMap.{families, is_empty, net_face}
use Rattle.net_docs.specs.Prefixes.{prefixes_owned, texts_in_family, group_of, with_texts}
use Rattle.net_docs.proofs.SpanLemmas.{texts_owned}

-- both families put one after the other make the group
pub families_put : (prefixes : List Prefix)
    → object (with_texts (codes "ipv6") prefixes (with_texts (codes "ipv4") prefixes no_members)) ≡ group_of prefixes
families_put prefixes = by (is_empty (texts_in_family (codes "ipv4") prefixes))
    (is_empty (texts_in_family (codes "ipv6") prefixes)) refl refl
  where
    by : (a b : Bool) → is_empty (texts_in_family (codes "ipv4") prefixes) ≡ a
        → is_empty (texts_in_family (codes "ipv6") prefixes) ≡ b
        → object (with_texts (codes "ipv6") prefixes (with_texts (codes "ipv4") prefixes no_members))
        ≡ group_of prefixes
    by true true e f = rw (e, f) refl
    by true false e f = rw (e, f) refl
    by false true e f = rw (e, f) refl
    by false false e f = rw (e, f) refl

-- a group that lists these texts by family
abbrev listing : (Name → List Data) → Data
listing texts = object_of (map (λ kind. (kind, array_of (texts kind)))
    (filter (λ kind. not (is_empty (texts kind))) families))

-- the group of a PID's prefixes is the one that the map shows
pub group_owned : (rows : Rows) (net pid : Name)
    → group_of (prefixes_owned rows net pid) ≡ group_object (net_face net rows) pid
group_owned rows net pid = λ i. listing (λ kind. texts_owned rows net pid kind i)
