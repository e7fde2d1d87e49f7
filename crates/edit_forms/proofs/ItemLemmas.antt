-- Items that are lists of texts, as the columns of a record.
use Rattle.std.proofs.Common.{◌≡◌, ◌≢◌, ◌<◌, ◌≤◌, ◌+◌, ◌-◌, ◌⊎◌, inl, inr, ℕ, zero, suc, List, [], ◌∷◌, ◌++◌, length}
use Rattle.std.proofs.Common.{drop, slice_get, get_or, add-one, Option, Some, None, Result, Ok, Err, IsErr, refl, ap}
use Rattle.std.proofs.Common.{sym, replicate, arith}
use Rattle.std.proofs.Math.ListN.{length-append}
use Rattle.std.proofs.lemmas.List.{drop_all, length-replicate}
use Rattle.std.specs.Option.{option_map_or}
use Rattle.serde_json.specs.Find.{as_str}
use Rattle.json_tree.specs.Tree.{data_of, items_data}
use Rattle.json_tree.specs.Whole.{whole_value}
use Rattle.json_tree.specs.declared.fault.TreeFault.{TreeFault}
use Rattle.json_tree.specs.declared.tree.Tree.{Tree}
use Rattle.serde_json.specs.Data.{Data}
use Rattle.alto_edits.specs.declared.edit.Edit.{Edit}
use Rattle.edit_forms.specs.declared.fault.FormFault.{FormFault}
use Rattle.edit_forms.specs.declared.fault.FormFault.TheVariants.{Syntax}
use Rattle.edit_forms.specs.Edits.{BodyReads, RecordReads, RecordsRead}
use Rattle.edit_forms.proofs.EditLemmas.{GoesOn, first_fault, no_more, one_more}
use Rattle.edit_forms.specs.Json.{filled_up, item_record, item_records, JsonReads, listed_edits, text_before, texts_in}
use Rattle.edit_forms.specs.Json.{texts_record}

-- the text in this place, which is empty past the last
abbrev pub column_at : ℕ → List Tree → Option (List ℕ)
column_at place trees = option_map_or (λ item. as_str (data_of item)) (slice_get trees place) (Some [])

-- no text before others is no texts
text_before-none : (text : Option (List ℕ)) → text_before text None ≡ None
text_before-none None = refl
text_before-none (Some text) = refl

-- an item that is no text makes no texts
pub texts_in-none : (trees : List Tree) (place : ℕ) → column_at place trees ≡ None → texts_in (items_data trees) ≡ None
texts_in-none [] place h = cc h
texts_in-none (tree ∷ trees) zero h = rw h refl
texts_in-none (tree ∷ trees) (suc place) h = rw (texts_in-none trees place h) (text_before-none (as_str (data_of tree)))

-- as many texts as a list of texts has items
length-text_before : (text : Option (List ℕ)) (more : Option (List (List ℕ))) (texts : List (List ℕ)) (n : ℕ)
    → text_before text more ≡ Some texts → ((rest : List (List ℕ)) → more ≡ Some rest → length rest ≡ n)
    → length texts ≡ suc n
length-text_before None more texts n h ih = cc h
length-text_before (Some text) None texts n h ih = cc h
length-text_before (Some text) (Some rest) texts n h ih =
    let same : text ∷ rest ≡ texts = cc h in
    rw (← same) (ap suc (ih rest refl))

length-texts_in : (trees : List Tree) (texts : List (List ℕ)) → texts_in (items_data trees) ≡ Some texts
    → length texts ≡ length trees
length-texts_in [] texts h =
    let same : [] ≡ texts = cc h in
    rw (← same) refl
length-texts_in (tree ∷ trees) texts h =
    length-text_before (as_str (data_of tree)) (texts_in (items_data trees)) texts (length trees)
    h (length-texts_in trees)

-- fewer texts than two, or more than six, make no record of six fields
filled_up-other : (texts : List (List ℕ)) → (length texts < 2) ⊎ (6 < length texts) → length (filled_up texts) ≢ 6
filled_up-other [] h six = cc six
filled_up-other (op ∷ []) h six = absurd (omega arith)
filled_up-other (op ∷ net ∷ more) (inl few) six = absurd (omega arith)
filled_up-other (op ∷ net ∷ more) (inr many) six =
    omega (
      arith,
      length-append more (replicate (4 - length more) []),
      length-replicate {A = List ℕ} (4 - length more) [],
    )

by_texts : (trees : List Tree) (found : Option (List (List ℕ))) → texts_in (items_data trees) ≡ found
    → (length trees < 2) ⊎ (6 < length trees) → length (texts_record found) ≢ 6
by_texts trees None made h = λ six. cc six
by_texts trees (Some texts) made (inl few) = filled_up-other texts (inl (rw (length-texts_in trees texts made) few))
by_texts trees (Some texts) made (inr many) = filled_up-other texts (inr (rw (length-texts_in trees texts made) many))

pub other_length : (trees : List Tree) → (length trees < 2) ⊎ (6 < length trees)
    → length (texts_record (texts_in (items_data trees))) ≢ 6
other_length trees h = by_texts trees (texts_in (items_data trees)) refl h

-- an item that is no text makes no record of six fields
pub not_a_text : (trees : List Tree) (place : ℕ) → column_at place trees ≡ None
    → length (texts_record (texts_in (items_data trees))) ≢ 6
not_a_text trees place h = rw (texts_in-none trees place h) (λ six. cc six)

-- two to six texts are those in the six places
pub six_columns : (trees : List Tree) (op net a b c d : List ℕ) → 2 ≤ length trees → length trees ≤ 6
    → column_at 0 trees ≡ Some op → column_at 1 trees ≡ Some net → column_at 2 trees ≡ Some a
    → column_at 3 trees ≡ Some b → column_at 4 trees ≡ Some c → column_at 5 trees ≡ Some d
    → texts_record (texts_in (items_data trees)) ≡ op ∷ net ∷ a ∷ b ∷ c ∷ d ∷ []
six_columns (t0 ∷ t1 ∷ []) op net a b c d low high e0 e1 e2 e3 e4 e5 = rw (e0, e1) (cc)
six_columns (t0 ∷ t1 ∷ t2 ∷ []) op net a b c d low high e0 e1 e2 e3 e4 e5 = rw (e0, e1, e2) (cc)
six_columns (t0 ∷ t1 ∷ t2 ∷ t3 ∷ []) op net a b c d low high e0 e1 e2 e3 e4 e5 = rw (e0, e1, e2, e3) (cc)
six_columns (t0 ∷ t1 ∷ t2 ∷ t3 ∷ t4 ∷ []) op net a b c d low high e0 e1 e2 e3 e4 e5 = rw (e0, e1, e2, e3, e4) (cc)
six_columns (t0 ∷ t1 ∷ t2 ∷ t3 ∷ t4 ∷ t5 ∷ []) op net a b c d low high e0 e1 e2 e3 e4 e5 =
    rw (e0, e1, e2, e3, e4, e5) (cc)
six_columns (t0 ∷ t1 ∷ t2 ∷ t3 ∷ t4 ∷ t5 ∷ t6 ∷ more) op net a b c d low high e0 e1 e2 e3 e4 e5 = absurd (omega arith)
six_columns _ op net a b c d low high e0 e1 e2 e3 e4 e5 = absurd (omega arith)

-- the records of the items that are left begin with that of the next
records_left : (trees : List Tree) (place : ℕ) (tree : Tree) → place < length trees → tree ≡ get_or trees place tree
    → item_records (items_data (drop place trees)) ≡ item_record (data_of tree)
    ∷ item_records (items_data (drop (suc place) trees))
records_left [] place tree h is = absurd (omega arith)
records_left (first ∷ trees) zero tree h is =
    let same : first ≡ tree = sym is in
    rw same refl
records_left (first ∷ trees) (suc place) tree h is = records_left trees place tree (omega arith) is

-- the items that are left, as `GoesOn` says it of records
abbrev pub ItemsGoOn : List Tree → List Edit → ℕ → Type 0
ItemsGoOn trees edits place = GoesOn (item_records (items_data trees)) edits (place + 1)
    (item_records (items_data (drop place trees)))

-- an item that reads goes to the edits so far
pub one_item_more : (edits : List Edit) (made : Edit) (trees : List Tree) (place : ℕ) (tree : Tree)
    → place < length trees → tree ≡ get_or trees place tree
    → RecordReads (place + 1) (item_record (data_of tree)) (Ok made)
    → ItemsGoOn trees edits place → ItemsGoOn trees (edits ++ made ∷ []) (place + 1)
one_item_more edits made trees place tree h is read on =
    let next = records_left trees place tree h is in
    rw (add-one place, add-one (suc place)) (one_more (item_records (items_data trees)) edits made (suc place)
    (suc (suc place))
    (item_record (data_of tree) ∷ item_records (items_data (drop (suc place) trees)))
    (item_record (data_of tree)) refl (rw (add-one place) at read) refl (rw (next, add-one place) at on))

-- an item that doesn't read is the fault of all
pub item_fault : (edits : List Edit) (fault : FormFault) (trees : List Tree) (place : ℕ) (tree : Tree)
    → place < length trees → tree ≡ get_or trees place tree
    → RecordReads (place + 1) (item_record (data_of tree)) (Err fault)
    → ItemsGoOn trees edits place → RecordsRead 1 (item_records (items_data trees)) (Err fault)
item_fault edits fault trees place tree h is read on =
    let next = records_left trees place tree h is in
    first_fault (item_records (items_data trees)) edits fault (place + 1)
    (item_record (data_of tree) ∷ item_records (items_data (drop (suc place) trees)))
    (item_record (data_of tree)) refl read (rw next at on)

-- where no item is left the edits so far are all
pub no_more_items : (edits : List Edit) (trees : List Tree) (place : ℕ) → length trees ≤ place
    → ItemsGoOn trees edits place
    → RecordsRead 1 (item_records (items_data trees)) (Ok edits)
no_more_items edits trees place past on =
    no_more (item_records (items_data trees)) edits (place + 1) [] refl (rw (drop_all place trees past) at on)

-- a body that writes no tree is invalid
pub no_value : (body : List ℕ) (value : Result Data TreeFault) → whole_value body ≡ value → IsErr value
    → JsonReads body (Err Syntax)
unfolding JsonReads
no_value body (Ok d) written err = cc err
no_value body (Err fault) written err = rw written refl

-- a tree that has no list of edits is invalid
pub no_list : (body : List ℕ) (d : Data) → whole_value body ≡ Ok d → None ≡ listed_edits d → JsonReads body (Err Syntax)
unfolding JsonReads
no_list body d written listed = rw (written, ← listed) refl

-- what a JSON body reads as, by the items of its list of edits
pub json_body : (body : List ℕ) (d : Data) (trees : List Tree) (read : Result (List Edit) FormFault)
    → whole_value body ≡ Ok d → Some (items_data trees) ≡ listed_edits d
    → BodyReads (item_records (items_data trees)) read
    → JsonReads body read
unfolding JsonReads
json_body body d trees read written listed h = rw (written, ← listed) h
