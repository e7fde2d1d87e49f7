-- Groups and families that are written one behind another.
use Rattle.std.proofs.Common.{◌≡◌, refl, ap, sym, ◌∙◌, append_assoc}
use Rattle.std.specs.Prelude.{Bool, true, false, List, [], ◌∷◌, ◌++◌, map, codes}
use Rattle.json.specs.Token.{begin_array, begin_object, end_array, end_object, key}
use Rattle.json.specs.Tree.{json_tokens}
use Rattle.json.specs.Written.{Written}
use Rattle.serde_json.specs.Data.{Data, object, Members, no_members, member}
use Rattle.serde_json.specs.Written.{outline}
use Rattle.json_tree.specs.Document.{array_of, with_member}
use Rattle.json_tree.specs.Tree.{members_in_order}
use Rattle.alto_addr.specs.declared.prefix.Prefix.{Prefix}
use Rattle.alto_rows.specs.Rows.{Rows, AreSorted}
use Rattle.alto_maps.specs.Shape.{Name, group_object}
use Rattle.alto_maps.specs.Writing.{AddsValue, AddsMember}
use Rattle.alto_maps.proofs.RisingLemmas.{named-rising}
use Rattle.alto_maps.proofs.WritingLemmas.{member_more, whole_object}
use Rattle.net_docs.specs.NetworkMap.{is_empty, net_face, pids_of}
use Rattle.net_docs.specs.Prefixes.{group_of, texts_in_family}
use Rattle.net_docs.specs.Writing.{AddsFamily, family_tokens, groups_of}
use Rattle.net_docs.proofs.MergedLemmas.{pids_rise}

-- the groups of these PIDs as they stand
abbrev pub groups_in_order : Rows → Name → List Name → Members
groups_in_order rows net pids = members_in_order (map (λ pid. (pid, group_object (net_face net rows) pid)) pids)

-- a network's PIDs stand in the order of their names
pub groups_stand : (rows : Rows) (net : Name) → AreSorted rows
    → groups_of rows net ≡ groups_in_order rows net (pids_of rows net)
groups_stand rows net sorted = named-rising (group_object (net_face net rows)) (pids_of rows net)
    (pids_rise net rows sorted)

-- both families, one after the other between braces, make the group
pub both_families : (prefixes : List Prefix) (old begun first second new : Written)
    → begun.tokens ≡ old.tokens ++ begin_object ∷ [] → begun.before ≡ old.before
    → AddsFamily (codes "ipv4") prefixes begun first → AddsFamily (codes "ipv6") prefixes first second
    → new.tokens ≡ second.tokens ++ end_object ∷ [] → new.before ≡ second.before
    → AddsValue (group_of prefixes) old new
unfolding with_member
both_families prefixes old begun first second new opened same four six closed stays =
    record {
      tokens = by (is_empty (texts_in_family (codes "ipv4") prefixes))
          (is_empty (texts_in_family (codes "ipv6") prefixes)) refl refl;
      before =
          stays ∙ (six.before ∙ (four.before ∙ same));
    }
  where
    parts : new.tokens
        ≡ (((old.tokens ++ begin_object ∷ []) ++ family_tokens (codes "ipv4") (texts_in_family (codes "ipv4") prefixes))
        ++ family_tokens (codes "ipv6") (texts_in_family (codes "ipv6") prefixes)) ++ end_object ∷ []
    parts = rw (closed, six.tokens, four.tokens, opened) refl

    by : (a b : Bool) → is_empty (texts_in_family (codes "ipv4") prefixes) ≡ a
        → is_empty (texts_in_family (codes "ipv6") prefixes) ≡ b
        → new.tokens ≡ old.tokens ++ json_tokens (outline (group_of prefixes))
    by true true e f = rw (e, f) (rw (e, f) at parts ∙ simp append_assoc refl)
    by true false e f = rw (e, f) (rw (e, f) at parts ∙ simp append_assoc refl)
    by false true e f = rw (e, f) (rw (e, f) at parts ∙ simp append_assoc refl)
    by false false e f = rw (e, f) (rw (e, f) at parts ∙ simp append_assoc refl)

-- a value behind its name is a member
pub named_value : (k : Name) (d : Data) (old mid new : Written) → mid.tokens ≡ old.tokens ++ key k ∷ []
    → mid.before ≡ old.before → AddsValue d mid new → AddsMember k d old new
named_value k d old mid new told same added =
    record {
      tokens = added.tokens
          ∙ (ap (λ ts. ts ++ json_tokens (outline d)) told
          ∙ append_assoc old.tokens (key k ∷ []) (json_tokens (outline d)));
      before = added.before ∙ same;
    }

-- two members that are written between braces make an object
pub object_of_two : (k l : Name) (d e : Data) (old begun first second new : Written)
    → begun.tokens ≡ old.tokens ++ begin_object ∷ [] → begun.before ≡ old.before
    → AddsMember k d begun first → AddsMember l e first second → new.tokens ≡ second.tokens ++ end_object ∷ []
    → new.before ≡ second.before
    → AddsValue (object (member k d (member l e no_members))) old new
object_of_two k l d e old begun first second new opened same one two closed stays =
    whole_object (member k d (member l e no_members)) old begun second new opened same
    (record {
      tokens = member_more l e no_members first second two ∙ member_more k d (member l e no_members) begun first one;
      before = two.before ∙ one.before;
    })
    closed stays

-- a list of one value, between its brackets
pub array_of_one : (d : Data) (old begun mid new : Written) → begun.tokens ≡ old.tokens ++ begin_array ∷ []
    → begun.before ≡ old.before
    → AddsValue d begun mid → new.tokens ≡ mid.tokens ++ end_array ∷ [] → new.before ≡ mid.before
    → AddsValue (array_of (d ∷ [])) old new
array_of_one d old begun mid new opened same added closed stays =
    record {
      tokens =
          closed
          ∙ (ap (λ ts. ts ++ end_array ∷ []) (added.tokens
          ∙ (ap (λ ts. ts ++ json_tokens (outline d)) opened
          ∙ append_assoc old.tokens (begin_array ∷ []) (json_tokens (outline d))))
          ∙ append_assoc old.tokens (begin_array ∷ json_tokens (outline d)) (end_array ∷ []));
      before = stays ∙ (added.before ∙ same);
    }
