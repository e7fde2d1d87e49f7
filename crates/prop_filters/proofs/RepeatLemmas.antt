-- An entity that comes again gives its members again, which changes nothing.
use Rattle.std.proofs.Common.{◌≡◌, refl, ap, sym, ◌∙◌, ◌-◌, length, append_assoc, arith, suc}
use Rattle.std.proofs.lemmas.List.Elements.{filter_map-append}
use Rattle.std.specs.Prelude.{true, false, List, [], ◌∷◌, ◌++◌, Option, Some, None, fold, slice_get}
use Rattle.std.specs.BTreeSet.{insert_key}
use Rattle.std.specs.Cmp.Lexicographic.{slice_cmp}
use Rattle.std.specs.List.{filter_map}
use Rattle.std.specs.Ordering.{nat_cmp}
use Rattle.std.specs.declared.cmp.Ordering.{Ordering}
use Rattle.std.specs.declared.cmp.Ordering.TheVariants.{Less, Equal, Greater}
use Rattle.std.proofs.lemmas.List.Sums.{fold-append}
use Rattle.serde_json.specs.Data.{Data, Members, no_members, member, put}
use Rattle.json_tree.specs.Document.{with_member, members_of}
use Rattle.json_tree.proofs.Lookups.{same_text}
use Rattle.alto_rows.specs.declared.entity.Entity.{Entity}
use Rattle.alto_rows.specs.declared.key.Key.{Key}
use Rattle.alto_rows.specs.declared.key.Key.TheVariants as key
use Rattle.alto_rows.specs.declared.span.Span.TheVariants as span
use Rattle.alto_rows.specs.declared.value.Value.{Value}
use Rattle.alto_rows.specs.Rows.{Rows}
use Rattle.alto_rows.specs.Span.{is_in, rows_in}
use Rattle.alto_rows.proofs.WithinLemmas.{filter_map-rows_in}
use Rattle.alto_maps.specs.Places.{set_of}
use Rattle.alto_maps.specs.Shape.{Name}
use Rattle.prop_docs.specs.Properties.{is_found}
use Rattle.prop_docs.proofs.TextLemmas.{one_entity}
use Rattle.prop_filters.specs.Filter.{entity_given, name_given}
use Rattle.prop_filters.specs.Repeats.{GiveTheSame}
use Rattle.prop_filters.proofs.GroupLemmas.{with_members}

-- a member that is put twice
put-twice : (k : Name) (d : Data) (ms : Members) → put k d (put k d ms) ≡ put k d ms
put-twice k d no_members = rw (same_text k) refl
put-twice k d (member l e ms) = by (slice_cmp nat_cmp k l) refl (put-twice k d ms)
  where
    by : (o : Ordering) → slice_cmp nat_cmp k l ≡ o → put k d (put k d ms) ≡ put k d ms
        → put k d (put k d (member l e ms)) ≡ put k d (member l e ms)
    by Less f below = rw (f, same_text k) refl
    by Equal f below = rw (f, f) refl
    by Greater f below = rw (f, f) (ap (member l e) below)

pub with_member-twice : (k : Name) (d : Data) (ms : Members) → with_member k d (with_member k d ms) ≡ with_member k d ms
unfolding with_member
with_member-twice k d ms = put-twice k d ms

-- members put before and behind
members_of-append : (ms more : List (Name × Data)) → members_of (ms ++ more) ≡ with_members (members_of ms) more
members_of-append ms more = fold-append _ _ ms more

-- an entity behind itself
pub given_again : (front : List Entity) (one : Entity) (more : List Entity)
    → GiveTheSame (front ++ one ∷ more) (front ++ one ∷ one ∷ more)
given_again front one more group =
    ap members_of (filter_map-append group front (one ∷ more))
    ∙ (members_of-append (filter_map group front) (filter_map group (one ∷ more))
    ∙ (by (group one) refl
    ∙ (sym (members_of-append (filter_map group front) (filter_map group (one ∷ one ∷ more)))
    ∙ sym (ap members_of (filter_map-append group front (one ∷ one ∷ more))))))
  where
    by : (given : Option (Name × Data)) → group one ≡ given
        → with_members (members_of (filter_map group front)) (filter_map group (one ∷ more))
        ≡ with_members (members_of (filter_map group front)) (filter_map group (one ∷ one ∷ more))
    by None e = rw e refl
    by (Some m) e = rw e (ap (λ before. with_members before (filter_map group more))
        (sym (with_member-twice m.0 m.1 (members_of (filter_map group front)))))

-- ---- what is added

-- what has a last element
record HasLast (xs : List Entity) (last : Entity) : Type 0 where
  front : List Entity
  whole : xs ≡ front ++ last ∷ []

-- the element at the last place
last_place : (xs : List Entity) (one : Entity) → slice_get xs (length xs - 1) ≡ Some one → HasLast xs one
last_place [] one e = absurd (cc)
last_place (x ∷ []) one e = let same : x ≡ one = cc in record { front = []; whole = ap (λ (y : Entity). y ∷ []) same }
last_place (x ∷ next ∷ xs) one e =
    let size : length (x ∷ next ∷ xs) - 1 ≡ suc (length (next ∷ xs) - 1) = omega arith in
    let later : slice_get (x ∷ next ∷ xs) (suc (length (next ∷ xs) - 1)) ≡ Some one =
    ap (slice_get (x ∷ next ∷ xs)) (sym size) ∙ e in
    let rest : HasLast (next ∷ xs) one = last_place (next ∷ xs) one later in
    record { front = x ∷ rest.front; whole = ap (λ (ys : List Entity). x ∷ ys) rest.whole }

-- an entity that is the last already adds nothing
pub nothing_added : (entities : List Entity) (one : Entity)
    → is_found (slice_get entities (length entities - 1)) one ≡ true
    → (more : List Entity) → GiveTheSame (entities ++ more) (entities ++ one ∷ more)
nothing_added entities one found more = by (slice_get entities (length entities - 1)) refl
  where
    by : (last : Option Entity) → slice_get entities (length entities - 1) ≡ last
        → GiveTheSame (entities ++ more) (entities ++ one ∷ more)
    by None e = let no : is_found None one ≡ true = rw e at found in absurd (cc)
    by (Some last) e =
        let is : is_found (Some last) one ≡ true = rw e at found in
        let same : last ≡ one = one_entity last one is in
        let has : HasLast entities last = last_place entities last e in
        let whole : entities ≡ has.front ++ one ∷ [] = has.whole ∙ ap (λ (x : Entity). has.front ++ x ∷ []) same in
        rw (whole, append_assoc has.front (one ∷ []) more, append_assoc has.front (one ∷ []) (one ∷ more))
        (given_again has.front one more)

-- one that is pushed is added
pub one_added : (entities after : List Entity) (one : Entity) → after ≡ entities ++ one ∷ [] → (more : List Entity)
    → GiveTheSame (after ++ more) (entities ++ one ∷ more)
one_added entities after one pushed more group =
    ap (λ all. members_of (filter_map group all)) (ap (λ all. all ++ more) pushed
    ∙ append_assoc entities (one ∷ []) more)

-- ---- the entities of a network

-- the list of all, row by row
pub one_row : (net : Name) (row : Key × Value) (rows : Rows)
    → filter_map (entity_given net) (row ∷ rows) ≡ filter_map (entity_given net) (row ∷ [])
    ++ filter_map (entity_given net) rows
one_row net row rows = filter_map-append (entity_given net) (row ∷ []) rows

-- only rows of a network's properties give an entity
no_entity : (net : Name) (row : Key × Value) → is_in (span.Props net) row.0 ≡ false → entity_given net row ≡ None
no_entity net (key.Prop of entity name, v) out = rw out refl
no_entity net _ out = refl

-- and they give all
pub entities_in_span : (net : Name) (rows : Rows)
    → filter_map (entity_given net) (rows_in rows (span.Props net)) ≡ filter_map (entity_given net) rows
entities_in_span net rows = sym (filter_map-rows_in (entity_given net) (span.Props net) (no_entity net) rows)

-- the same of names
no_name : (net : Name) (row : Key × Value) → is_in (span.Props net) row.0 ≡ false → name_given net row ≡ None
no_name net (key.Prop of entity name, v) out = rw out refl
no_name net _ out = refl

-- names with more of them
abbrev pub with_names : List Name → List Name → List Name
with_names names more = fold (λ set name. insert_key (slice_cmp nat_cmp) set name) names more

-- the names of all rows
pub names_in_span : (net : Name) (rows : Rows)
    → set_of (filter_map (name_given net) (rows_in rows (span.Props net)))
    ≡ set_of (filter_map (name_given net) rows)
names_in_span net rows = ap set_of (sym (filter_map-rows_in (name_given net) (span.Props net) (no_name net) rows))
