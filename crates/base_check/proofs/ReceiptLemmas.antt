-- Receipts that a look at one after another finds in order, and those with ids of their own.
use Rattle.std.proofs.Common.{◌≡◌, refl, ap, sym, ◌∙◌, arith, add-one, subst, suc, zero}
use Rattle.std.proofs.Math.Seq.{drop-cons, take-suc}
use Rattle.std.proofs.lemmas.Bool.{and_from, and_parts, both_ways, le-leb, leb-true, or_from}
use Rattle.std.proofs.lemmas.Cmp.{nat_list_eq_equiv}
use Rattle.std.proofs.lemmas.List.{map-append, take-append-drop}
use Rattle.std.proofs.lemmas.List.Folds.{list_any-append}
use Rattle.std.proofs.lemmas.Map.Keys.{IsDistinct-push}
use Rattle.std.proofs.lemmas.Option.{same_Some}
use Rattle.std.specs.Prelude.{ℕ, ◌+◌, ◌<◌, ◌≤◌, Bool, true, false, not, cond, ◌||◌, nat_le, Decides, List, [], ◌∷◌}
use Rattle.std.specs.Prelude.{◌++◌, length, take, drop, get_or, Some, slice_get}
use Rattle.std.specs.BTreeSet.{BTreeSet, Updates, contains}
use Rattle.std.specs.List.{AllByRecursion, IsDistinct, list_any}
use Rattle.std.specs.Ordering.{is_eq}
use Rattle.alto_rows.specs.Order.{name_cmp, same_name}
use Rattle.alto_rows.proofs.TouchesLemmas.{same_name_ties}
use Rattle.base_code.specs.Bases.{KeptData}
use Rattle.base_check.specs.Receipts.{HasIds, never_fall}
use Rattle.base_check.specs.Rules.{KeepReceipts, NeverFall, ids_of}

-- ---- moments

-- none is below the first
at_least : (last : ℕ) (receipts : List KeptData) (n : ℕ) (one : KeptData) → never_fall last receipts ≡ true
    → slice_get receipts n ≡ Some one
    → last ≤ one.moment
at_least last [] n one h is = cc
at_least last (kept ∷ receipts) zero one h is =
    rw (← same_Some kept one is) (leb-true last
    kept.moment (and_parts (nat_le last kept.moment) (never_fall kept.moment receipts) h).0)
at_least last (kept ∷ receipts) (suc n) one h is =
    let parts = and_parts (nat_le last kept.moment) (never_fall kept.moment receipts) h in
    let low : last ≤ kept.moment = leb-true last kept.moment parts.0 in
    let more : kept.moment ≤ one.moment = at_least kept.moment receipts n one parts.1 is in
    omega arith

-- so they never fall
never : (last : ℕ) (receipts : List KeptData) → never_fall last receipts ≡ true → NeverFall receipts
never last [] h m n earlier later le is is' = cc
never last (kept ∷ receipts) h zero zero earlier later le is is' =
    rw (← same_Some kept earlier is, ← same_Some kept later is') (omega arith)
never last (kept ∷ receipts) h zero (suc n) earlier later le is is' =
    rw (← same_Some kept earlier is)
    (at_least kept.moment receipts n later (and_parts (nat_le last kept.moment) (never_fall kept.moment receipts) h).1
    is')
never last (kept ∷ receipts) h (suc m) zero earlier later le is is' = absurd (omega arith)
never last (kept ∷ receipts) h (suc m) (suc n) earlier later le is is' =
    never kept.moment receipts (and_parts (nat_le last kept.moment) (never_fall kept.moment receipts) h).1 m n earlier
    later (omega arith) is is'

-- and the other way
found : (last : ℕ) (receipts : List KeptData) → NeverFall receipts
    → ((one : KeptData) → slice_get receipts 0 ≡ Some one → last ≤ one.moment) → never_fall last receipts ≡ true
found last [] falls first = refl
found last (kept ∷ receipts) falls first =
    and_from _ _ (le-leb last kept.moment (first kept refl))
    (found kept.moment receipts (λ m n earlier later le. falls (suc m) (suc n) earlier later (omega arith))
    (λ one is. falls 0 1 kept one (omega arith) refl is))

pub moments_told : (receipts : List KeptData) → Decides (never_fall 0 receipts) (NeverFall receipts)
moments_told receipts = (never 0 receipts, λ falls. found 0 receipts falls (λ one is. omega arith))

-- ---- ids

-- no id is yet there
pub no_ids : (set : BTreeSet (List ℕ)) → set.keys ≡ [] → HasIds [] set
no_ids set none id = rw none refl

-- the receipts up to a place and the next
pub taken_next : (receipts : List KeptData) (i : ℕ) (kept : KeptData) → i < length receipts
    → kept ≡ get_or receipts i kept
    → ids_of (take (i + 1) receipts) ≡ ids_of (take i receipts) ++ kept.id ∷ []
taken_next receipts i kept within is =
    ap ids_of (rw (add-one i) (take-suc receipts i kept within
    ∙ ap (λ (k : KeptData). take i receipts ++ k ∷ []) (sym is)))
    ∙ map-append (λ (k : KeptData). k.id) (take i receipts) (kept ∷ [])

-- the set with an id more
pub ids_more : (ids : List (List ℕ)) (id : List ℕ) (set set' : BTreeSet (List ℕ)) → HasIds ids set
    → Updates name_cmp set set' id true
    → HasIds (ids ++ id ∷ []) set'
ids_more ids id set set' has updates other =
    updates.0 other
    ∙ (ap (λ (b : Bool). cond (is_eq (name_cmp id other)) true b) (has other)
    ∙ (by (is_eq (name_cmp id other)) refl (list_any (same_name other) ids)
    ∙ sym (list_any-append (same_name other) ids (id ∷ []))))
  where
    ties : same_name other id ≡ is_eq (name_cmp id other)
    ties = nat_list_eq_equiv.symm other id ∙ same_name_ties id other

    by : (b : Bool) → is_eq (name_cmp id other) ≡ b → (t : Bool) → cond b true t ≡ (t || (same_name other id || false))
    by true e true = refl
    by true e false = rw (ties ∙ e) refl
    by false e true = refl
    by false e false = rw (ties ∙ e) refl

-- no ids are distinct
pub none_distinct : IsDistinct same_name []
unfolding IsDistinct
none_distinct = tt

-- an id that the set gains wasn't there, and one that it doesn't gain was
new_not : (new there : Bool) → new ≡ not there → new ≡ true → there ≡ false
new_not new true is h = absurd (both_ways new is h)
new_not new false is h = refl

old_there : (new there : Bool) → new ≡ not there → new ≡ false → there ≡ true
old_there new true is h = refl
old_there new false is h = absurd (both_ways new h is)

-- ids stay distinct with a new one
pub distinct_more : (ids : List (List ℕ)) (id : List ℕ) (set : BTreeSet (List ℕ)) (new : Bool) → HasIds ids set
    → IsDistinct same_name ids
    → new ≡ not (contains name_cmp set id) → new ≡ true → IsDistinct same_name (ids ++ id ∷ [])
distinct_more ids id set new has distinct is h =
    IsDistinct-push nat_list_eq_equiv ids id distinct (sym (has id) ∙ new_not new (contains name_cmp set id) is h)

-- an id is none of those that all differ from it
apart : (id : List ℕ) (ids : List (List ℕ)) (rest : List (List ℕ)) → IsDistinct same_name (ids ++ id ∷ rest)
    → list_any (same_name id) ids ≡ false
unfolding IsDistinct
apart id [] rest distinct = refl
apart id (first ∷ ids) rest distinct =
    or_from _ _ (nat_list_eq_equiv.symm id first ∙ here ids distinct.0) (apart id ids rest distinct.1)
  where
    here : (between : List (List ℕ))
        → AllByRecursion (λ (other : List ℕ). same_name first other ≡ false) (between ++ id ∷ rest)
        → same_name first id ≡ false
    here [] all = all.0
    here (other ∷ between) all = here between all.1

-- so ids among which one comes again aren't distinct
pub came_before : (receipts : List KeptData) (i : ℕ) (kept : KeptData) (set : BTreeSet (List ℕ)) (new : Bool)
    → i < length receipts
    → kept ≡ get_or receipts i kept → HasIds (ids_of (take i receipts)) set
    → new ≡ not (contains name_cmp set kept.id) → new ≡ false
    → Decides false (IsDistinct same_name (ids_of receipts))
came_before receipts i kept set new within is has told h = (
  λ e. absurd (both_ways false refl e),
  λ distinct. absurd (both_ways (list_any (same_name kept.id) (ids_of (take i receipts)))
      (apart kept.id (ids_of (take i receipts)) (ids_of (drop (suc i) receipts))
      (subst (IsDistinct same_name) whole distinct))
      (sym (has kept.id) ∙ old_there new (contains name_cmp set kept.id) told h)),
)
  where
    behind : drop i receipts ≡ kept ∷ drop (suc i) receipts
    behind = drop-cons receipts i kept within ∙ ap (λ (k : KeptData). k ∷ drop (suc i) receipts) (sym is)

    whole : ids_of receipts ≡ ids_of (take i receipts) ++ kept.id ∷ ids_of (drop (suc i) receipts)
    whole =
        ap ids_of (sym (take-append-drop i receipts))
        ∙ (map-append (λ (k : KeptData). k.id) (take i receipts) (drop i receipts)
        ∙ ap (λ (rest : List KeptData). ids_of (take i receipts) ++ ids_of rest) behind)

-- ---- receipts

-- moments that fall are none of a base's receipts
pub fall : (receipts : List KeptData) → never_fall 0 receipts ≡ false → Decides false (KeepReceipts receipts)
fall receipts h = (
  λ e. absurd (both_ways false refl e),
  λ keep.
      absurd (both_ways (never_fall 0 receipts) h ((moments_told receipts).1 keep.moments)),
)

-- where they don't, the ids decide
pub ids_decide : (receipts : List KeptData) (distinct : Bool) → never_fall 0 receipts ≡ true
    → Decides distinct (IsDistinct same_name (ids_of receipts))
    → Decides distinct (KeepReceipts receipts)
ids_decide receipts distinct h decides =
    (λ e. record { ids = decides.0 e; moments = (moments_told receipts).0 h }, λ keep. decides.1 keep.ids)
