-- The keys of writes that touch resources, found for each of these in turn.
use Rattle.std.proofs.Common.{◌≡◌, ◌<◌, ap, sym, ◌∙◌, refl, subst, arith, append-nil, append_assoc, Vec, Global}
use Rattle.std.specs.Prelude.{ℕ, true, false, List, [], ◌∷◌, ◌++◌, length, map, Option, Some, None, IfSome, is_some}
use Rattle.std.specs.Option.{option_to_list}
use Rattle.alto_rows.specs.declared.key.Key.{Key}
use Rattle.alto_rows.specs.declared.resource.Resource.{Resource}
use Rattle.alto_rows.specs.declared.write.Write.{Write}
use Rattle.alto_book.specs.Numbers.{touching}
use Rattle.alto_versions.specs.Graphs.{AreTouching}

-- the keys of writes that touch a resource
abbrev pub touching_of : List Write → Resource → List Key
touching_of writes of = touching of writes

-- those of each resource touch it
pub all_touching : (writes : List Write) (resources : List Resource)
    → AreTouching writes (map (touching_of writes) resources) resources
all_touching writes [] = tt
all_touching writes (of ∷ resources) = (refl, all_touching writes resources)

-- the keys of one resource more
pub touching_step : (writes : List Write) (done more : List (List Key)) (keys : List Key)
    (left rest : List Resource) (of : Resource) (whole : List (List Key))
    → left ≡ of ∷ rest → more ≡ done ++ keys ∷ [] → keys ≡ touching of writes
    → done ++ map (touching_of writes) left ≡ whole → more ++ map (touching_of writes) rest ≡ whole
touching_step writes done more keys left rest of whole front is same so_far =
    ap (λ (all : List (List Key)). all ++ map (touching_of writes) rest)
    (is ∙ ap (λ (own : List Key). done ++ own ∷ []) same)
    ∙ append_assoc done (touching of writes ∷ []) (map (touching_of writes) rest)
    ∙ ap (λ (resources : List Resource). done ++ map (touching_of writes) resources) (sym front)
    ∙ so_far

-- those of all resources touch them
pub touching_end : (writes : List Write) (done : List (List Key)) (left all : List Resource)
    → length left ≡ 0 → done ++ map (touching_of writes) left ≡ map (touching_of writes) all
    → AreTouching writes done all
touching_end writes done [] all none whole =
    subst (λ (found : List (List Key)). AreTouching writes found all) (sym (sym (append-nil done) ∙ whole))
    (all_touching writes all)
touching_end writes done (of ∷ left) all none whole = absurd (omega (arith, none))

-- lists of keys as data
abbrev pub lists : List (Vec Key Global) → List (List Key)
lists all = map (λ (keys : Vec Key Global). keys.items) all

-- the next list of keys, if there is one, is of the first resource, and the others are of the rest
pub next_keys : (writes : List Write) (old new : List (Vec Key Global)) (n : ℕ) (next : Option (Vec Key Global))
    (of : Resource) (rest : List Resource) → old ≡ option_to_list next ++ new → n ≡ length old
    → (0 < n → is_some next ≡ true) → AreTouching writes (lists old) (of ∷ rest)
    → IfSome next (λ keys. keys.items ≡ touching of writes) × AreTouching writes (lists new) rest
next_keys writes [] new n None of rest is count some t =
    (tt, subst (λ (all : List (Vec Key Global)). AreTouching writes (lists all) rest) is tt)
next_keys writes (keys ∷ old) new n None of rest is count some t =
    let bad : false ≡ true = some (omega (arith, count)) in cc
next_keys writes [] new n (Some keys) of rest is count some t = cc
next_keys writes (first ∷ old) new n (Some keys) of rest is count some t =
    subst (λ (all : List (Vec Key Global)). AreTouching writes (lists all) (of ∷ rest)) is t

-- with no list left none are wrong
pub none_touching : (writes : List Write) (found : List (Vec Key Global)) (resources : List Resource) → found ≡ []
    → AreTouching writes (lists found) resources
none_touching writes found resources is =
    subst (λ (all : List (Vec Key Global)). AreTouching writes (lists all) resources) (sym is) tt
