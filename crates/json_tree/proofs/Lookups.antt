-- The value at a name, and what an object's map finds.
use Rattle.std.proofs.Common.{◌≡◌, ℕ, List, ◌∷◌, Bool, true, false, Option, Some, Ordering, Less, Equal, Greater}
use Rattle.std.proofs.Common.{nat_cmp, is_eq, bytes_eq, true≢false, refl, sym, ap, ◌∙◌}
use Rattle.std.proofs.lemmas.Cmp.{nat_list_cmp_total, tied_itself}
use Rattle.std.proofs.lemmas.Map.Text.{is_eq-slice_cmp}
use Rattle.std.proofs.lemmas.Slice.Eq.{bytes_eq-Decides}
use Rattle.std.specs.Cmp.Lexicographic.{slice_cmp}
use Rattle.std.specs.Ordering.{match_ordering}
use Rattle.serde_json.specs.Data.{Data, Members, member}
use Rattle.serde_json.specs.Find.{get_member}
use Rattle.json_tree.specs.Tree.{data_of, entries_data}
use Rattle.json_tree.proofs.Objects.{Entry}

pub same_text : (xs : List ℕ) → slice_cmp nat_cmp xs xs ≡ Equal
same_text xs = tied_itself nat_list_cmp_total xs

either : (o : Ordering) (a b : Option Data) → is_eq o ≡ false → match_ordering o a b a ≡ a
either Less a b e = refl
either Equal a b e = absurd (true≢false e)
either Greater a b e = refl

differ : (xs ys : List ℕ) (b : Bool) → bytes_eq xs ys ≡ b → (xs ≡ ys → ⊥) → b ≡ false
differ xs ys true e other = absurd (other ((bytes_eq-Decides xs ys).0 e))
differ xs ys false e other = refl

-- names that compare as equal are one
pub one_name : (k l : List ℕ) → slice_cmp nat_cmp k l ≡ Equal → k ≡ l
one_name k l e = (bytes_eq-Decides k l).0 (sym (is_eq-slice_cmp k l) ∙ ap is_eq e)

-- the value at the name of the first member
pub get_member-here : (k : List ℕ) (d : Data) (ms : Members) → get_member k (member k d ms) ≡ Some d
get_member-here k d ms = rw same_text

-- and at another name
pub get_member-later : (q k : List ℕ) (d : Data) (ms : Members) → (q ≡ k → ⊥)
    → get_member q (member k d ms) ≡ get_member q ms
get_member-later q k d ms other = either (slice_cmp nat_cmp q k) _ _ (is_eq-slice_cmp q k ∙ differ q k _ refl other)

-- the same of a map's entries, as a loop over them meets an entry
pub entry_here : (name : List ℕ) (e : Entry) (rest : List Entry) → bytes_eq e.0 name ≡ true
    → get_member name (entries_data (e ∷ rest)) ≡ Some (data_of e.1)
entry_here name e rest same = let is : e.0 ≡ name = (bytes_eq-Decides e.0 name).0 same in rw (is, same_text)

pub entry_later : (name : List ℕ) (e : Entry) (rest : List Entry) → bytes_eq e.0 name ≡ false
    → get_member name (entries_data (e ∷ rest)) ≡ get_member name (entries_data rest)
entry_later name e rest other =
    get_member-later name e.0 (data_of e.1) (entries_data rest)
    (λ same. true≢false (sym ((bytes_eq-Decides e.0 name).1 (sym same)) ∙ other))
