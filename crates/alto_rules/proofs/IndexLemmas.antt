-- The index of a draft stays true under a write.
use Rattle.std.proofs.Common.{◌≡◌, refl, ap, sym, ◌∙◌, subst}
use Rattle.std.proofs.lemmas.Cmp.{eq_by_cmp_equiv}
use Rattle.std.proofs.lemmas.List.Folds.{list_any-append}
use Rattle.std.specs.Prelude.{Bool, true, false, cond, ◌||◌, List, [], ◌∷◌, ◌++◌, Option, Some, is_some}
use Rattle.std.specs.BTreeSet as set
use Rattle.std.specs.BTreeSet.{BTreeSet, contains}
use Rattle.std.specs.Option.{unwrap_or}
use Rattle.std.specs.Ordering.{is_eq}
use Rattle.alto_rows.specs.declared.key.Key.{Key}
use Rattle.alto_rows.specs.declared.resource.Resource.{Resource}
use Rattle.alto_rows.specs.declared.value.Value.{Value}
use Rattle.alto_rows.specs.declared.write.Write.{Write}
use Rattle.alto_rows.specs.Order.{key_cmp, resource_cmp}
use Rattle.alto_rows.specs.Rows.{Rows, AreSorted, value_of, has_row, after}
use Rattle.alto_rows.specs.Touches.{part_of, is_resource}
use Rattle.alto_rows.proofs.OrderLemmas.{resource_cmp_total}
use Rattle.alto_rows.proofs.ResourceLemmas.{or_false}
use Rattle.alto_rows.proofs.RowsLemmas.{same_key_back}
use Rattle.alto_rows.proofs.TouchesLemmas.{one_resource, same_resource_ties}
use Rattle.alto_rows.proofs.WriteLemmas.{value_of-after-push}
use Rattle.alto_rules.specs.Draft.{writing}
use Rattle.alto_rules.specs.declared.written.Written.{Written}
use Rattle.alto_rules.specs.Index.{IsIndexed, is_part}
use Rattle.alto_rules.specs.Written.{Gains, told}

-- no writes
pub indexed_opened : (rows : Rows) (w : Written) (t : BTreeSet Resource) → w.put ≡ [] → w.other.entries ≡ []
    → t.keys ≡ [] → IsIndexed rows [] w t
indexed_opened rows w t p e f = record {
  rows_at = λ at. rw (p, e) refl;
  resources = λ of. rw f refl;
}

-- one resource more than what was there
pub added : (b t : Bool) → cond b true t ≡ (t || b)
added true true = refl
added true false = refl
added false true = refl
added false false = refl

-- the set has the resource that a key is part of
pub part_added : (t t' : BTreeSet Resource) (part of : Resource) → set.Updates resource_cmp t t' part true
    → contains resource_cmp t' of ≡ (contains resource_cmp t of || is_resource (Some part) of)
part_added t t' part of more =
    more.0 of ∙ rw ((eq_by_cmp_equiv resource_cmp_total).symm part of, ← same_resource_ties of part)
    (added (is_resource (Some part) of) (contains resource_cmp t of))

-- a set that has the resource that a key is part of gains nothing by it
pub part_there : (t : BTreeSet Resource) (part of : Resource) → contains resource_cmp t part ≡ true
    → contains resource_cmp t of ≡ (contains resource_cmp t of || is_resource (Some part) of)
part_there t part of there = by (is_resource (Some part) of) refl
  where
    by : (b : Bool) → is_resource (Some part) of ≡ b
        → contains resource_cmp t of ≡ (contains resource_cmp t of || is_resource (Some part) of)
    by true e =
        let has : contains resource_cmp t of ≡ true =
        subst (λ (r : Resource). contains resource_cmp t r ≡ true) (sym (one_resource of part e)) there in
        rw (e, has) refl
    by false e = rw e (sym (or_false (contains resource_cmp t of)))

-- a row that is written, or else as it was
put_or_kept : (b : Bool) (v old : Option Value) (g : Option Bool) (o : Bool) → is_some old ≡ unwrap_or g o
    → is_some (cond b v old) ≡ unwrap_or (cond b (Some (is_some v)) g) o
put_or_kept true v old g o h = refl
put_or_kept false v old g o h = h

-- the index stays true under a write, where the map and the set have gained it
pub indexed_more : (rows : Rows) (writes : List Write) (at : Key) (v : Option Value) (w w' : Written)
    (t t' : BTreeSet Resource)
    → AreSorted rows → IsIndexed rows writes w t → Gains w w' at (is_some v)
    → ((of : Resource) → contains resource_cmp t' of ≡ (contains resource_cmp t of || is_resource (part_of at) of))
    → IsIndexed rows (writes ++ writing at v ∷ []) w' t'
indexed_more rows writes at v w w' t t' s old put more = record {
  rows_at = λ q.
      rw (value_of-after-push rows writes (writing at v) q s, put q, same_key_back q at)
      (put_or_kept (is_eq (key_cmp at q)) v (value_of (after rows writes) q) (told w q) (has_row rows q)
      (old.rows_at q));
  resources = λ of.
      more of
      ∙ (ap (λ b. b || is_resource (part_of at) of) (old.resources of)
      ∙ (ap (λ b. is_part writes of || b) (sym (or_false (is_resource (part_of at) of)))
      ∙ sym (list_any-append (λ (write : Write). is_resource (part_of write.key) of) writes (writing at v ∷ []))));
}
