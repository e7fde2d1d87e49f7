-- Places gathered by group, one after another.
use Rattle.std.proofs.Common.{◌≡◌, refl, ap, ap₂, sym, ◌∙◌, subst}
use Rattle.std.proofs.Math.Path.{fun_ext}
use Rattle.std.proofs.lemmas.List.{append-nil}
use Rattle.std.proofs.lemmas.List.Elements.{filter_map-append}
use Rattle.std.proofs.lemmas.Map.Keys.{sorted_head, sorted_tail}
use Rattle.std.proofs.lemmas.Map.Made.{lookup-map_values}
use Rattle.std.proofs.lemmas.Map.Text.{is_eq-slice_cmp}
use Rattle.std.specs.Prelude.{Bool, true, false, ◌||◌, cond, List, [], ◌∷◌, ◌++◌, Option, Some, None, map, option_map}
use Rattle.std.specs.Prelude.{unwrap_or}
use Rattle.std.specs.BTreeMap.{insert_entry, is_at}
use Rattle.std.specs.BTreeSet.{BTreeSet}
use Rattle.std.specs.Cmp.Lexicographic.{slice_cmp}
use Rattle.std.specs.List.{list_any, cons_option, filter_map}
use Rattle.std.specs.Map.{lookup, remove_entry}
use Rattle.std.specs.Ordering.{nat_cmp, is_eq, match_ordering}
use Rattle.std.specs.declared.cmp.Ordering.{Ordering}
use Rattle.std.specs.declared.cmp.Ordering.TheVariants.{Less, Equal, Greater}
use Rattle.json_tree.proofs.Lookups.{one_name}
use Rattle.alto_maps.specs.Shape.{Name, same_name}
use Rattle.alto_maps.specs.Places.{touches_group, group_of, member_of, set_of, touched_groups, touched_members}
use Rattle.alto_maps.specs.Touched.{Touched, touched_parts, parts_of, with_option}
use Rattle.alto_maps.specs.declared.place.Place.{Place}
use Rattle.alto_maps.specs.declared.place.Place.TheVariants as place
use Rattle.alto_maps.proofs.SetLemmas.{one, other_name, with_name, AreAbove, Rise, above_lesser, set_of-push}
use Rattle.alto_maps.proofs.SetLemmas.{rise-set_of}
use Rattle.alto_maps.proofs.PlaceLemmas.{group_touched}

-- ---- one name more among names with values

-- names, each with a value
abbrev valued : (Name → List Name) → List Name → List Touched
valued value names = map (λ g. (g, value g)) names

abbrev at : Name → Name → Bool
at g = is_at (slice_cmp nat_cmp g)

-- values that differ at one name alone are the same at the names above it
valued_above : (v w : Name → List Name) (g : Name) (names : List Name)
    → ((h : Name) → same_name g h ≡ false → v h ≡ w h) → AreAbove g names
    → valued v names ≡ valued w names
valued_above v w g [] others above = refl
valued_above v w g (x ∷ xs) others above =
    ap₂ (λ (s : List Name) (ts : List Touched). (x, s) ∷ ts) (others x (sym (is_eq-slice_cmp g x) ∙ ap is_eq above.0))
    (valued_above v w g xs others above.1)

removed_above : (v : Name → List Name) (g : Name) (names : List Name) → AreAbove g names
    → remove_entry (at g) (valued v names) ≡ valued v names
removed_above v g [] above = refl
removed_above v g (x ∷ xs) above = rw above.0 (ap (λ (ts : List Touched). (x, v x) ∷ ts) (removed_above v g xs above.1))

inserted_above : (g : Name) (set : List Name) (v : Name → List Name) (names : List Name) → AreAbove g names
    → insert_entry (slice_cmp nat_cmp) (valued v names) g set ≡ (g, set) ∷ valued v names
inserted_above g set v [] above = refl
inserted_above g set v (x ∷ xs) above = rw above.0 refl

-- a name whose value is taken out and put in anew
put_anew : (v w : Name → List Name) (g : Name) (names : List Name)
    → ((h : Name) → same_name g h ≡ false → v h ≡ w h) → Rise names
    → insert_entry (slice_cmp nat_cmp) (remove_entry (at g) (valued v names)) g (w g) ≡ valued w (with_name names g)
put_anew v w g [] others rise = refl
put_anew v w g (x ∷ xs) others rise = by (slice_cmp nat_cmp g x) refl (sorted_head (slice_cmp nat_cmp) x xs rise)
    (put_anew v w g xs others (sorted_tail (slice_cmp nat_cmp) x xs rise))
  where
    put_first : AreAbove g (x ∷ xs) → insert_entry (slice_cmp nat_cmp) (remove_entry (at g) (valued v (x ∷ xs))) g (w g)
        ≡ valued w (g ∷ x ∷ xs)
    put_first above =
        ap (λ ts. insert_entry (slice_cmp nat_cmp) ts g (w g)) (removed_above v g (x ∷ xs) above)
        ∙ (inserted_above g (w g) v (x ∷ xs) above
        ∙ ap (λ (ts : List Touched). (g, w g) ∷ ts) (valued_above v w g (x ∷ xs) others above))

    by : (o : Ordering) → slice_cmp nat_cmp g x ≡ o → AreAbove x xs
        → insert_entry (slice_cmp nat_cmp) (remove_entry (at g) (valued v xs)) g (w g) ≡ valued w (with_name xs g)
        → insert_entry (slice_cmp nat_cmp) (remove_entry (at g) (valued v (x ∷ xs))) g (w g)
        ≡ valued w (match_ordering o (g ∷ x ∷ xs) (x ∷ xs) (x ∷ with_name xs g))
    by Less is above rest = put_first (is, above_lesser g x xs is above)
    by Equal is above rest =
        let same : g ≡ x = one_name g x is in
        let beyond : AreAbove g xs = subst (λ y. AreAbove y xs) (sym same) above in
        rw is
        (inserted_above g (w g) v xs beyond
        ∙ ap₂ (λ (h : Name) (ts : List Touched). (h, w h) ∷ ts) same (valued_above v w g xs others beyond))
    by Greater is above rest =
        rw is (rw is (ap₂ (λ (s : List Name) (ts : List Touched). (x, s) ∷ ts)
        (others x (sym (is_eq-slice_cmp g x) ∙ ap is_eq is)) rest))

-- the value of a name that has one, and none of another
found-valued : (v : Name → List Name) (g : Name) (names : List Name)
    → lookup (at g) (valued v names) ≡ cond (list_any (same_name g) names) (Some (v g)) None
found-valued v g [] = refl
found-valued v g (x ∷ xs) = by (slice_cmp nat_cmp g x) refl (sym (is_eq-slice_cmp g x)) (found-valued v g xs)
  where
    by : (o : Ordering) → slice_cmp nat_cmp g x ≡ o → same_name g x ≡ is_eq (slice_cmp nat_cmp g x)
        → lookup (at g) (valued v xs) ≡ cond (list_any (same_name g) xs) (Some (v g)) None
        → lookup (at g) (valued v (x ∷ xs)) ≡ cond (same_name g x || list_any (same_name g) xs) (Some (v g)) None
    by Less is same rest = rw (same, is) rest
    by Equal is same rest = rw (same, is) (ap (λ y. Some (v y)) (sym (one_name g x is)))
    by Greater is same rest = rw (same, is) rest

-- ---- the groups of a map

parts_of-match : (o : Ordering) (a b c : List (Name × BTreeSet Name))
    → parts_of (match_ordering o a b c) ≡ match_ordering o (parts_of a) (parts_of b) (parts_of c)
parts_of-match Less a b c = refl
parts_of-match Equal a b c = refl
parts_of-match Greater a b c = refl

parts_of-insert : (g : Name) (set : BTreeSet Name) (es : List (Name × BTreeSet Name))
    → parts_of (insert_entry (slice_cmp nat_cmp) es g set) ≡ insert_entry (slice_cmp nat_cmp) (parts_of es) g set.keys
parts_of-insert g set [] = refl
parts_of-insert g set (e ∷ es) = parts_of-match (slice_cmp nat_cmp g e.0) _ _ _ ∙ rw (parts_of-insert g set es)

parts_of-remove : (g : Name) (es : List (Name × BTreeSet Name))
    → parts_of (remove_entry (at g) es) ≡ remove_entry (at g) (parts_of es)
parts_of-remove g [] = refl
parts_of-remove g (e ∷ es) = by (at g e.0) (parts_of-remove g es)
  where
    by : (b : Bool) → parts_of (remove_entry (at g) es) ≡ remove_entry (at g) (parts_of es)
        → parts_of (cond b es (e ∷ remove_entry (at g) es))
        ≡ cond b (parts_of es) ((e.0, e.1.keys) ∷ remove_entry (at g) (parts_of es))
    by true rest = refl
    by false rest = ap (λ (ts : List Touched). (e.0, e.1.keys) ∷ ts) rest

-- ---- one place more

given_more : (names : Place → Option Name) (places : List Place) (p : Place)
    → set_of (filter_map names (places ++ p ∷ [])) ≡ with_option (set_of (filter_map names places)) (names p)
given_more names places p = ap set_of (filter_map-append names places (p ∷ [])) ∙ by (names p)
  where
    by : (o : Option Name) → set_of (filter_map names places ++ cons_option o [])
        ≡ with_option (set_of (filter_map names places)) o
    by None = ap set_of (append-nil (filter_map names places))
    by (Some n) = set_of-push (filter_map names places) n

-- no member of another group
no_member : (p : Place) (g h : Name) → group_of p ≡ Some g → same_name g h ≡ false → member_of h p ≡ None
no_member place.Nowhere g h of apart = refl
no_member place.Meta g h of apart = refl
no_member (place.Group k) g h of apart = refl
no_member (place.Member k n) g h of apart = by (same_name h k) refl
  where
    by : (b : Bool) → same_name h k ≡ b → cond b (Some n) None ≡ None
    by true e = let same : k ≡ g = cc in absurd (other_name g h apart (sym same ∙ sym (one h k e)))
    by false e = refl

-- a group that isn't touched has no touched member
none_touched : (g : Name) (places : List Place) → list_any (touches_group g) places ≡ false
    → filter_map (member_of g) places ≡ []
none_touched g [] none = refl
none_touched g (place.Nowhere ∷ places) none = none_touched g places none
none_touched g (place.Meta ∷ places) none = none_touched g places none
none_touched g (place.Group h ∷ places) none = by (same_name g h) none (none_touched g places)
  where
    by : (b : Bool) → (b || list_any (touches_group g) places) ≡ false
        → (list_any (touches_group g) places ≡ false → filter_map (member_of g) places ≡ [])
        → filter_map (member_of g) places ≡ []
    by true none rest = cc
    by false none rest = rest none
none_touched g (place.Member h n ∷ places) none = by (same_name g h) none (none_touched g places)
  where
    by : (b : Bool) → (b || list_any (touches_group g) places) ≡ false
        → (list_any (touches_group g) places ≡ false → filter_map (member_of g) places ≡ [])
        → cons_option (cond b (Some n) None) (filter_map (member_of g) places) ≡ []
    by true none rest = cc
    by false none rest = rest none

no_names : set_of [] ≡ []
unfolding set_of
no_names = refl

-- the members of a group so far, as a look-up among the groups finds them
members_found : (g : Name) (places : List Place)
    → unwrap_or (lookup (at g) (touched_parts places)) [] ≡ touched_members g places
members_found g places =
    ap (λ o. unwrap_or o []) (found-valued (λ h. touched_members h places) g (touched_groups places))
    ∙ by (list_any (same_name g) (touched_groups places))
    (λ none. none_touched g places (sym (group_touched g places) ∙ none))
  where
    by : (b : Bool) → (b ≡ false → filter_map (member_of g) places ≡ [])
        → unwrap_or (cond b (Some (touched_members g places)) None) [] ≡ touched_members g places
    by true none = refl
    by false none = sym (ap set_of (none refl) ∙ no_names)

-- the groups after a place that is in one
pub touched_more : (places : List Place) (p : Place) (es fs gs : List (Name × BTreeSet Name)) (g : Name)
    (set : BTreeSet Name)
    → parts_of es ≡ touched_parts places → group_of p ≡ Some g
    → set.keys ≡ with_option (unwrap_or (option_map (λ s. s.keys) (lookup (at g) es)) []) (member_of g p)
    → fs ≡ remove_entry (at g) es → gs ≡ insert_entry (slice_cmp nat_cmp) fs g set
    → parts_of gs ≡ touched_parts (places ++ p ∷ [])
touched_more places p es fs gs g set so_far of members others all =
    let tm : Name → List Name = λ h. touched_members h places in
    let next : Name → List Name = λ h. touched_members h (places ++ p ∷ []) in
    let found : option_map (λ s. s.keys) (lookup (at g) es) ≡ lookup (at g) (touched_parts places) =
    sym (lookup-map_values (λ (s : BTreeSet Name). s.keys) (at g) es) ∙ ap (lookup (at g)) so_far in
    let keys : set.keys ≡ next g =
    members ∙ (ap (λ o. with_option (unwrap_or o []) (member_of g p)) found
    ∙ (ap (λ ms. with_option ms (member_of g p)) (members_found g places) ∙ sym (given_more (member_of g) places p))) in
    let stay : (h : Name) → same_name g h ≡ false
    → tm h ≡ next h = λ h apart. sym (given_more (member_of h) places p
    ∙ ap (with_option (tm h)) (no_member p g h of apart)) in
    let groups : touched_groups (places ++ p ∷ []) ≡ with_name (touched_groups places) g = given_more group_of places p
    ∙ ap (with_option (touched_groups places)) of in
    let left : parts_of fs ≡ remove_entry (at g) (touched_parts places) = ap parts_of others
    ∙ (parts_of-remove g es ∙ ap (remove_entry (at g)) so_far) in
    ap parts_of all
    ∙ (parts_of-insert g set fs
    ∙ (ap₂ (λ (ts : List Touched) (ns : List Name). insert_entry (slice_cmp nat_cmp) ts g ns) left keys
    ∙ (put_anew tm next g (touched_groups places) stay (rise-set_of _) ∙ ap (valued next) (sym groups))))

no_group : (p : Place) (h : Name) → group_of p ≡ None → member_of h p ≡ None
no_group place.Nowhere h none = refl
no_group place.Meta h none = refl
no_group (place.Group k) h none = refl
no_group (place.Member k n) h none = cc

-- and after one that is in none
pub touched_same : (places : List Place) (p : Place) → group_of p ≡ None
    → touched_parts places ≡ touched_parts (places ++ p ∷ [])
touched_same places p none =
    let members : (h : Name) → touched_members h (places ++ p ∷ []) ≡ touched_members h places =
    λ h. given_more (member_of h) places p ∙ ap (with_option (touched_members h places)) (no_group p h none) in
    sym
    (ap (valued (λ h. touched_members h (places ++ p ∷ []))) (given_more group_of places p
    ∙ ap (with_option (touched_groups places)) none)
    ∙ ap (λ f. valued f (touched_groups places)) (fun_ext members))

pub none_so_far : touched_parts [] ≡ []
unfolding set_of
none_so_far = refl
