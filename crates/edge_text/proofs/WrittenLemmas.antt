-- The parts of a patch, as they are written.
use Rattle.std.proofs.Common.{◌≡◌, refl, ap, sym, ◌∙◌, append_assoc, append-nil}
use Rattle.std.specs.Prelude.{Bool, true, false, List, [], ◌∷◌, ◌++◌, Option, Some, None, is_some, map, codes}
use Rattle.std.specs.List.{list_any}
use Rattle.std.specs.List.Sorted.{IsStrictlySortedBy}
use Rattle.json.specs.Token.{Token, begin_object, end_object, key}
use Rattle.json.specs.Tree.{json_tokens}
use Rattle.json.specs.Written.{Written}
use Rattle.serde_json.specs.Data.{Data}
use Rattle.serde_json.specs.Written.{outline}
use Rattle.json_tree.specs.Document.{object_of, with_member}
use Rattle.alto_rows.specs.declared.key.Key.{Key}
use Rattle.alto_rows.specs.Good.{AreGood}
use Rattle.alto_rows.specs.Order.{key_cmp}
use Rattle.alto_rows.specs.Rows.{Rows}
use Rattle.alto_maps.specs.MergeForm.{group_change, merge_form, meta_change, part, section_change}
use Rattle.alto_maps.specs.Places.{set_of, touched_groups}
use Rattle.alto_maps.specs.Shape.{Name, Face, Shape, same_name, stands}
use Rattle.alto_maps.specs.declared.place.Place.{Place}
use Rattle.alto_maps.specs.Writing.{AddsMember, AddsValue}
use Rattle.alto_maps.proofs.SetLemmas.{any-set_of, itself}
use Rattle.alto_rows.specs.Costs.{cost_of}
use Rattle.cost_docs.specs.CostMap.{cost_face, cost_shape}
use Rattle.cost_docs.specs.Writing.{AddsTokens}
use Rattle.net_docs.specs.NetworkMap.{dependent_tags}
use Rattle.edge_text.specs.Merge.{part_tokens, tokens_left}
use Rattle.edge_text.specs.Pairs.{Pair, is_version_of, pair_in, pairs_of}
use Rattle.edge_text.proofs.GatheredLemmas.{sources_in}
use Rattle.edge_text.proofs.MergeLemmas.{section_written}
use Rattle.edge_text.proofs.PlaceLemmas.{group_touched, places_of, version_touched}

pub nothing_added : (out : Written) → AddsTokens [] out out
nothing_added out = record { added = sym (append-nil out.tokens); before = refl }

-- one behind another
pub both_added : (a b : List Token) (old mid new : Written) → AddsTokens a old mid → AddsTokens b mid new
    → AddsTokens (a ++ b) old new
both_added a b old mid new first second =
    record {
      added = second.added ∙ (ap (λ ts. ts ++ b) first.added ∙ append_assoc old.tokens a b);
      before = second.before ∙ first.before;
    }

five : (a b c d e : List Token) → (((a ++ b) ++ c) ++ d) ++ e ≡ a ++ (b ++ (c ++ (d ++ e)))
five a b c d e = append_assoc ((a ++ b) ++ c) d e
    ∙ (append_assoc (a ++ b) c (d ++ e) ∙ append_assoc a b (c ++ (d ++ e)))

-- ---- the patch

-- what is written is the merge form
pub form_is : (shape : Shape) (face : Face) (places : List Place)
    → merge_form shape face places
    ≡ object_of (part (codes "meta") (meta_change shape face places)
    ++ part shape.section (section_change (map {B = Name × Data} (λ g. (g, group_change face places g))
    (touched_groups places))))
unfolding merge_form
form_is shape face places = refl

parts_told : (m s : Option Data)
    → json_tokens (outline (object_of (part (codes "meta") m ++ part (codes "cost-map") s)))
    ≡ begin_object ∷ (part_tokens (codes "cost-map") s ++ (part_tokens (codes "meta") m ++ end_object ∷ []))
unfolding with_member
parts_told None None = refl
parts_told (Some m) None = refl
parts_told None (Some s) = refl
parts_told (Some m) (Some s) = refl

pub patch_written : (m s : Option Data) (old begun mid told new : Written)
    → begun.tokens ≡ old.tokens ++ begin_object ∷ [] → begun.before ≡ old.before
    → AddsTokens (part_tokens (codes "cost-map") s) begun mid → AddsTokens (part_tokens (codes "meta") m) mid told
    → new.tokens ≡ told.tokens ++ end_object ∷ [] → new.before ≡ told.before
    → AddsValue (object_of (part (codes "meta") m ++ part (codes "cost-map") s)) old new
patch_written m s old begun mid told new opened same section meta closed stays =
    record {
      tokens =
          closed
          ∙ (ap (λ ts. ts ++ end_object ∷ []) (meta.added ∙ ap (λ ts. ts ++ part_tokens (codes "meta") m) (section.added
          ∙ ap (λ ts. ts ++ part_tokens (codes "cost-map") s) opened))
          ∙ (five old.tokens (begin_object ∷ []) (part_tokens (codes "cost-map") s) (part_tokens (codes "meta") m)
          (end_object ∷ [])
          ∙ ap (λ ts. old.tokens ++ ts) (sym (parts_told m s))));
      before = stays ∙ (meta.before ∙ (section.before ∙ same));
    }

-- ---- the section

-- there is a pair
abbrev has_some : List Pair → Bool
has_some [] = false
has_some (p ∷ pairs) = true

pairs_where : (net metric : Name) (keys : List Key)
    → list_any (λ at. is_some (pair_in net metric at)) keys ≡ has_some (pairs_of net metric keys)
pairs_where net metric [] = refl
pairs_where net metric (at ∷ keys) = by (pair_in net metric at) refl (pairs_where net metric keys)
  where
    by : (o : Option Pair) → pair_in net metric at ≡ o
        → list_any (λ at. is_some (pair_in net metric at)) keys ≡ has_some (pairs_of net metric keys)
        → list_any (λ at. is_some (pair_in net metric at)) (at ∷ keys) ≡ has_some (pairs_of net metric (at ∷ keys))
    by None e below = rw e below
    by (Some p) e below = rw e refl

-- groups are touched where there is a pair
groups_where : (net metric : Name) (keys : List Key) (groups : List Name)
    → touched_groups (places_of net metric keys) ≡ groups
    → has_some (pairs_of net metric keys) ≡ true → (q : Name)
    → list_any (same_name q) groups ≡ list_any (same_name q) (sources_in (pairs_of net metric keys))
groups_where net metric keys groups is some q =
    ap (list_any (same_name q)) (sym is)
    ∙ (any-set_of q _ ∙ ap (list_any (same_name q)) (group_touched net metric keys))

pub some_section : (net metric : Name) (keys : List Key) (change : Name → Data)
    → list_any (λ at. is_some (pair_in net metric at)) keys ≡ true
    → section_change (map {B = Name × Data} (λ g. (g, change g)) (touched_groups (places_of net metric keys)))
    ≡ Some (object_of (map {B = Name × Data} (λ g. (g, change g)) (touched_groups (places_of net metric keys))))
some_section net metric keys change some = by (touched_groups (places_of net metric keys)) refl
  where
    there : has_some (pairs_of net metric keys) ≡ true
    there = sym (pairs_where net metric keys) ∙ some

    first : (pairs : List Pair) → has_some pairs ≡ true
        → ((q : Name) → false ≡ list_any (same_name q) (sources_in pairs)) → ⊥
    first [] some none = cc
    first (p ∷ pairs) some none = let both : false ≡ true = none p.0 ∙ rw (itself p.0) refl in cc

    by : (groups : List Name) → touched_groups (places_of net metric keys) ≡ groups
        → section_change (map {B = Name × Data} (λ g. (g, change g)) groups)
        ≡ Some (object_of (map {B = Name × Data} (λ g. (g, change g)) groups))
    by [] is = absurd (first (pairs_of net metric keys) there (groups_where net metric keys [] is there))
    by (g ∷ groups) is = refl

pub no_section : (net metric : Name) (keys : List Key) (change : Name → Data)
    → list_any (λ at. is_some (pair_in net metric at)) keys ≡ false
    → section_change (map {B = Name × Data} (λ g. (g, change g)) (touched_groups (places_of net metric keys))) ≡ None
unfolding set_of
no_section net metric keys change none =
    ap (λ names. section_change (map {B = Name × Data} (λ g. (g, change g)) (set_of names)))
    (group_touched net metric keys)
    ∙ by (pairs_of net metric keys) (sym (pairs_where net metric keys) ∙ none)
  where
    by : (pairs : List Pair) → has_some pairs ≡ false
        → section_change (map {B = Name × Data} (λ g. (g, change g)) (set_of (sources_in pairs))) ≡ None
    by [] none = refl
    by (p ∷ pairs) none = cc

pub section_added : (net metric : Name) (rows : Rows) (keys : List Key) (old named begun mid new : Written)
    → AreGood rows → IsStrictlySortedBy key_cmp keys
    → list_any (λ at. is_some (pair_in net metric at)) keys ≡ true
    → named.tokens ≡ old.tokens ++ key (codes "cost-map") ∷ [] → named.before ≡ old.before
    → begun.tokens ≡ named.tokens ++ begin_object ∷ [] → begun.before ≡ named.before
    → AddsTokens (tokens_left (stands (cost_face net metric rows)) (cost_of rows net metric)
    None (pairs_of net metric keys)) begun mid
    → new.tokens ≡ mid.tokens ++ end_object ∷ [] → new.before ≡ mid.before
    → AddsTokens
    (part_tokens (codes "cost-map")
    (section_change (map {B = Name × Data}
    (λ g. (g, group_change (cost_face net metric rows) (places_of net metric keys) g))
    (touched_groups (places_of net metric keys)))))
    old new
section_added net metric rows keys old named begun mid new good rising some keyed same opened same'
    groups closed stays =
    record {
      added =
          closed
          ∙ (ap (λ ts. ts ++ end_object ∷ []) (groups.added
          ∙ ap (λ ts. ts ++ written) (opened ∙ ap (λ ts. ts ++ begin_object ∷ []) keyed))
          ∙ (five old.tokens (key (codes "cost-map") ∷ []) (begin_object ∷ []) written (end_object ∷ [])
          ∙ ap (λ ts. old.tokens ++ ts)
          (ap (λ ts. key (codes "cost-map") ∷ begin_object ∷ ts)
          (sym (section_written net metric rows keys good rising))
          ∙ ap (part_tokens (codes "cost-map"))
          (sym (some_section net metric keys (group_change (cost_face net metric rows) (places_of net metric keys))
          some)))));
      before = stays ∙ (groups.before ∙ (same' ∙ same));
    }
  where
    written : List Token
    written = tokens_left (stands (cost_face net metric rows)) (cost_of rows net metric) None (pairs_of net metric keys)

-- ---- the meta

pub no_meta : (net metric : Name) (face : Face) (keys : List Key) → list_any (is_version_of net) keys ≡ false
    → meta_change cost_shape face (places_of net metric keys) ≡ None
no_meta net metric face keys none = rw (version_touched net metric keys, none) refl

some_meta : (net metric : Name) (rows : Rows) (keys : List Key) → list_any (is_version_of net) keys ≡ true
    → meta_change cost_shape (cost_face net metric rows) (places_of net metric keys)
    ≡ Some (object_of ((codes "dependent-vtags", dependent_tags rows net) ∷ []))
some_meta net metric rows keys some = rw (version_touched net metric keys, some) refl

meta_told : (tags : Data)
    → part_tokens (codes "meta") (Some (object_of ((codes "dependent-vtags", tags) ∷ [])))
    ≡ key (codes "meta") ∷ begin_object ∷ ((key (codes "dependent-vtags") ∷ json_tokens (outline tags))
    ++ end_object ∷ [])
unfolding with_member
meta_told tags = refl

pub meta_added : (net metric : Name) (rows : Rows) (keys : List Key) (old named begun mid new : Written)
    → list_any (is_version_of net) keys ≡ true
    → named.tokens ≡ old.tokens ++ key (codes "meta") ∷ [] → named.before ≡ old.before
    → begun.tokens ≡ named.tokens ++ begin_object ∷ [] → begun.before ≡ named.before
    → AddsMember (codes "dependent-vtags") (dependent_tags rows net) begun mid
    → new.tokens ≡ mid.tokens ++ end_object ∷ [] → new.before ≡ mid.before
    → AddsTokens (part_tokens (codes "meta")
    (meta_change cost_shape (cost_face net metric rows) (places_of net metric keys))) old new
meta_added net metric rows keys old named begun mid new some keyed same opened same' tags closed stays =
    record {
      added =
          closed
          ∙ (ap (λ ts. ts ++ end_object ∷ []) (tags.tokens
          ∙ ap (λ ts. ts ++ written) (opened ∙ ap (λ ts. ts ++ begin_object ∷ []) keyed))
          ∙ (five old.tokens (key (codes "meta") ∷ []) (begin_object ∷ []) written (end_object ∷ [])
          ∙ ap (λ ts. old.tokens ++ ts) (sym (meta_told (dependent_tags rows net))
          ∙ ap (part_tokens (codes "meta")) (sym (some_meta net metric rows keys some)))));
      before = stays ∙ (tags.before ∙ (same' ∙ same));
    }
  where
    written : List Token
    written = key (codes "dependent-vtags") ∷ json_tokens (outline (dependent_tags rows net))
