-- Which of a list's resources pass a test.
use Rattle.std.proofs.Common.{◌≡◌, refl, ap, ◌∙◌}
use Rattle.std.specs.BTreeMap.{is_at}
use Rattle.std.specs.Cmp.{Equal-is}
use Rattle.std.specs.List.{list_any}
use Rattle.std.specs.Ordering.{is_eq}
use Rattle.std.specs.Prelude.{Bool, true, false, ◌&&◌, List, [], ◌∷◌, filter}
use Rattle.alto_rows.specs.declared.resource.Resource.{Resource}
use Rattle.alto_rows.specs.Order.{resource_cmp}
use Rattle.alto_rows.proofs.OrderLemmas.{resource_cmp_exact}

-- resources that tie are one
pub tied_resource : (a b : Resource) → is_eq (resource_cmp a b) ≡ true → a ≡ b
tied_resource a b h = resource_cmp_exact a b ((Equal-is (resource_cmp a b)).0 h)

-- a resource is among resources
abbrev pub stands : Resource → List Resource → Bool
stands of ofs = list_any (is_at (resource_cmp of)) ofs

-- a resource is among those of a list that pass a test where it is in the list and passes
pub stands-filter : (test : Resource → Bool) (of : Resource) (ofs : List Resource)
    → stands of (filter test ofs) ≡ (test of && stands of ofs)
stands-filter test of [] = by (test of)
  where
    by : (b : Bool) → false ≡ (b && false)
    by true = refl
    by false = refl
stands-filter test of (one ∷ ofs) = by (test one) (is_eq (resource_cmp of one)) refl refl (stands-filter test of ofs)
  where
    alike : is_eq (resource_cmp of one) ≡ true → test of ≡ test one
    alike h = ap test (tied_resource of one h)

    by : (b c : Bool) → test one ≡ b → is_eq (resource_cmp of one) ≡ c
        → stands of (filter test ofs) ≡ (test of && stands of ofs)
        → stands of (filter test (one ∷ ofs)) ≡ (test of && stands of (one ∷ ofs))
    by true true e f below = rw (e, f, alike f, e) refl
    by true false e f below = rw (e, f) below
    by false true e f below =
        let out : test of ≡ false = alike f ∙ e in
        rw (e, out) (below ∙ rw out refl)
    by false false e f below = rw (e, f) below
