-- Which entity a text is the text of.
use Rattle.std.proofs.Common.{◌≡◌, refl, sym, subst}
use Rattle.std.specs.Cmp.Lexicographic.{same_text}
use Rattle.std.specs.Prelude.{Bool, true, false, ◌↔◌, cond, Option, Some, None}
use Rattle.alto_rows.specs.declared.entity.Entity.{Entity}
use Rattle.alto_rows.specs.Entities.{WritesEntity, entity_text}
use Rattle.alto_rows.specs.Good.{IsEntity}
use Rattle.alto_rows.specs.Order.{entity_cmp}
use Rattle.alto_rows.specs.Span.{same_entity}
use Rattle.alto_rows.proofs.EntityLemmas.{entity_as_written}
use Rattle.alto_rows.proofs.OrderLemmas.{entity_cmp_exact, entity_cmp_total, equal_tests}
use Rattle.std.proofs.lemmas.Cmp.{tied_itself}
use Rattle.alto_maps.specs.Shape.{Name}
use Rattle.prop_docs.specs.PropertyMap.{is_text_of}
use Rattle.prop_docs.specs.Properties.{if_text_of, is_found}

-- entities that test as the same are one
pub one_entity : (a b : Entity) → same_entity a b ≡ true → a ≡ b
one_entity a b h = entity_cmp_exact a b (equal_tests (entity_cmp a b) h)

-- an entity is the same as itself
pub same_itself : (a : Entity) → same_entity a a ≡ true
same_itself a = rw (tied_itself entity_cmp_total a) refl

-- a text of an entity is what is written of it
text_is : (net text : Name) (entity : Entity) → is_text_of net text entity ≡ true → text ≡ entity_text net entity
text_is net text entity h = same_text text (entity_text net entity) (sym h)

-- so the text writes the entity
written : (net text : Name) (entity : Entity) → IsEntity entity → is_text_of net text entity ≡ true
    → WritesEntity net text entity
written net text entity is h =
    subst (λ t. WritesEntity net t entity) (sym (text_is net text entity h)) (entity_as_written net entity is)

-- what was read of the bytes of a text
pub reads_as : (net text bytes : Name) (found read : Option Entity) → bytes ≡ text → found ≡ read
    → ((other : Entity) → WritesEntity net bytes other ↔ (found ≡ Some other))
    → (other : Entity) → WritesEntity net text other ↔ (read ≡ Some other)
reads_as net text bytes found read same is reads other =
    subst (λ t. WritesEntity net t other ↔ (read ≡ Some other))
    same (subst (λ f. WritesEntity net bytes other ↔ (f ≡ Some other)) is (reads other))

-- a text that writes no entity is the text of none
pub none_named : (net text : Name) → ((other : Entity) → WritesEntity net text other ↔ (None ≡ Some other))
    → (other : Entity) → IsEntity other → is_text_of net text other ≡ is_found None other
none_named net text reads other is = by (is_text_of net text other) refl
  where
    by : (b : Bool) → is_text_of net text other ≡ b → is_text_of net text other ≡ false
    by true e = let no : None ≡ Some other = (reads other).0 (written net text other is e) in cc
    by false e = e

-- a text that writes an entity is the text of this one or of none
pub one_named : (net text : Name) (one : Entity)
    → ((other : Entity) → WritesEntity net text other ↔ (Some one ≡ Some other))
    → (other : Entity) → IsEntity other → is_text_of net text other ≡ is_found (if_text_of net text one) other
one_named net text one reads other is = by (is_text_of net text one) (is_text_of net text other) refl refl
  where
    -- what has the text is what was read
    same : is_text_of net text other ≡ true → one ≡ other
    same e = let both : Some one ≡ Some other = (reads other).0 (written net text other is e) in cc

    -- what isn't read is another
    apart : (b : Bool) → same_entity one other ≡ b → is_text_of net text one ≡ true → is_text_of net text other ≡ false
        → same_entity one other ≡ false
    apart false k e f = k
    apart true k e f = let both : is_text_of net text other ≡ true =
        subst (λ (x : Entity). is_text_of net text x ≡ true) (one_entity one other k) e in cc

    by : (a b : Bool) → is_text_of net text one ≡ a → is_text_of net text other ≡ b
        → is_text_of net text other ≡ is_found (cond (is_text_of net text one) (Some one) None) other
    by true true e f = rw (e, f) (sym (subst (λ (x : Entity). same_entity one x ≡ true) (same f) (same_itself one)))
    by true false e f = rw (e, f) (sym (apart (same_entity one other) refl e f))
    by false false e f = rw (e, f) refl
    by false true e f = let both : is_text_of net text one ≡ true =
        subst (λ (x : Entity). is_text_of net text x ≡ true) (sym (same f)) f in cc
