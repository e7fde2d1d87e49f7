-- Members that are written one behind another.
use Rattle.std.proofs.Common.{◌≡◌, refl, ap, sym, ◌∙◌, subst, append_assoc}
use Rattle.std.specs.Prelude.{[], ◌∷◌, ◌++◌, codes}
use Rattle.std.specs.Cmp.Lexicographic.{slice_cmp}
use Rattle.std.specs.Ordering.{nat_cmp}
use Rattle.std.specs.declared.cmp.Ordering.TheVariants.{Less, Equal, Greater}
use Rattle.json.specs.Token.{begin_object, end_object, key}
use Rattle.json.specs.Tree.{json_tokens, members_tokens}
use Rattle.json.specs.Written.{Written}
use Rattle.serde_json.specs.Data.{Data, object, Members, no_members, member}
use Rattle.serde_json.specs.Written.{outline, members_outline}
use Rattle.json_tree.specs.Document.{with_member}
use Rattle.json_tree.proofs.Lookups.{one_name}
use Rattle.alto_maps.specs.Shape.{Name}
use Rattle.alto_maps.specs.Writing.{AddsValue, AddsMember, AddsMembers}

-- a member that was written, before those that are left
pub member_more : (k : Name) (d : Data) (left : Members) (old new : Written) → AddsMember k d old new
    → new.tokens ++ members_tokens (members_outline left)
    ≡ old.tokens ++ members_tokens (members_outline (member k d left))
member_more k d left old new added =
    ap (λ ts. ts ++ members_tokens (members_outline left)) added.tokens
    ∙ append_assoc old.tokens (key k ∷ json_tokens (outline d)) (members_tokens (members_outline left))

one_member : (k : Name) (d : Data) (old new : Written) → AddsMember k d old new
    → AddsMembers (member k d no_members) old new
one_member k d old new added = record { tokens = member_more k d no_members old new added; before = added.before }

two_members : (k l : Name) (d e : Data) (old mid new : Written) → AddsMember k d old mid → AddsMember l e mid new
    → AddsMembers (member k d (member l e no_members)) old new
two_members k l d e old mid new first second =
    record {
      tokens = member_more l e no_members mid new second ∙ member_more k d (member l e no_members) old mid first;
      before = second.before ∙ first.before;
    }

-- the section and the meta, by the order of their names
pub section_first : (k : Name) (m s : Data) (old mid new : Written) → Less ≡ slice_cmp nat_cmp k (codes "meta")
    → AddsMember k s old mid → AddsMember (codes "meta") m mid new
    → AddsMembers (with_member k s (with_member (codes "meta") m no_members)) old new
unfolding with_member
section_first k m s old mid new is first second =
    let order : with_member k s (with_member (codes "meta") m no_members)
    ≡ member k s (member (codes "meta") m no_members) = rw (sym is) refl in
    subst (λ ms. AddsMembers ms old new) (sym order) (two_members k (codes "meta") s m old mid new first second)

pub section_alone : (k : Name) (m s : Data) (old new : Written) → Equal ≡ slice_cmp nat_cmp k (codes "meta")
    → AddsMember k s old new
    → AddsMembers (with_member k s (with_member (codes "meta") m no_members)) old new
unfolding with_member
section_alone k m s old new is added =
    let order : with_member k s (with_member (codes "meta") m no_members) ≡ member (codes "meta") s no_members =
    rw (sym is) refl in
    subst (λ ms. AddsMembers ms old new) (ap (λ n. member n s no_members) (one_name k (codes "meta") (sym is))
    ∙ sym order) (one_member k s old new added)

pub meta_first : (k : Name) (m s : Data) (old mid new : Written) → Greater ≡ slice_cmp nat_cmp k (codes "meta")
    → AddsMember (codes "meta") m old mid → AddsMember k s mid new
    → AddsMembers (with_member k s (with_member (codes "meta") m no_members)) old new
unfolding with_member
meta_first k m s old mid new is first second =
    let order : with_member k s (with_member (codes "meta") m no_members)
    ≡ member (codes "meta") m (member k s no_members) = rw (sym is) refl in
    subst (λ ms. AddsMembers ms old new) (sym order) (two_members (codes "meta") k m s old mid new first second)

-- an object between its braces
pub whole_object : (ms : Members) (old begun mid new : Written) → begun.tokens ≡ old.tokens ++ begin_object ∷ []
    → begun.before ≡ old.before
    → AddsMembers ms begun mid → new.tokens ≡ mid.tokens ++ end_object ∷ [] → new.before ≡ mid.before
    → AddsValue (object ms) old new
whole_object ms old begun mid new opened same added closed stays =
    record {
      tokens = closed ∙ (added.tokens ∙ (ap (λ ts. ts ++ members_tokens (members_outline ms)) opened
          ∙ append_assoc old.tokens (begin_object ∷ []) _));
      before = stays ∙ (added.before ∙ same);
    }
