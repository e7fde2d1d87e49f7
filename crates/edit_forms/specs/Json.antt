-- What a JSON body (RFC 8259) reads as: the edits of the items of its member `edits`.
use Rattle.std.specs.Prelude.{◌≡◌, ℕ, ◌-◌, List, [], ◌∷◌, ◌++◌, length, replicate, Option, Some, None, option_and_then}
use Rattle.std.specs.Prelude.{Result, Ok, Err, codes}
use Rattle.serde_json.specs.Data.{Data, Items, no_items, item}
use Rattle.serde_json.specs.Find.{as_array, as_str, get}
use Rattle.json_tree.specs.Whole.{whole_value}
use Rattle.json_tree.specs.declared.fault.TreeFault.{TreeFault}
use Rattle.alto_edits.specs.declared.edit.Edit.{Edit}
use Rattle.edit_forms.specs.declared.fault.FormFault.{FormFault}
use Rattle.edit_forms.specs.declared.fault.FormFault.TheVariants.{Syntax}
use Rattle.edit_forms.specs.Edits.{BodyReads}

-- a text before others, if all of them are texts
abbrev pub text_before : Option (List ℕ) → Option (List (List ℕ)) → Option (List (List ℕ))
text_before None more = None
text_before (Some text) None = None
text_before (Some text) (Some texts) = Some (text ∷ texts)

-- the texts that items are, if each is a text
abbrev pub texts_in : Items → Option (List (List ℕ))
texts_in no_items = Some []
texts_in (item d ds) = text_before (as_str d) (texts_in ds)

-- a record whose columns from `a` on may be left out at the end, where they are empty
abbrev pub filled_up : List (List ℕ) → List (List ℕ)
filled_up [] = []
filled_up (op ∷ []) = op ∷ []
filled_up (op ∷ net ∷ more) = op ∷ net ∷ (more ++ replicate (4 - length more) [])

-- the record that texts make, which has no field where there are no texts
abbrev pub texts_record : Option (List (List ℕ)) → List (List ℕ)
texts_record None = []
texts_record (Some texts) = filled_up texts

-- the record of an item: of its texts, if it is a list of texts
abbrev pub item_record : Data → List (List ℕ)
item_record d = texts_record (option_and_then texts_in (as_array d))

-- the records of items
abbrev pub item_records : Items → List (List (List ℕ))
item_records no_items = []
item_records (item d ds) = item_record d ∷ item_records ds

-- the list that the member `edits` of an object is
abbrev pub listed_edits : Data → Option Items
listed_edits d = option_and_then as_array (get (codes "edits") d)

-- what items read as, if a body has a list of them
abbrev pub ItemsRead : Option Items → Result (List Edit) FormFault → Type 0
ItemsRead None read = read ≡ Err Syntax
ItemsRead (Some items) read = BodyReads (item_records items) read

-- what a value reads as, if a text has one whose numbers are whole
abbrev pub ValueReads : Result Data TreeFault → Result (List Edit) FormFault → Type 0
ValueReads (Err fault) read = read ≡ Err Syntax
ValueReads (Ok d) read = ItemsRead (listed_edits d) read

-- what a body reads as: what the items of its member `edits` do
unfoldable pub JsonReads : List ℕ → Result (List Edit) FormFault → Type 0
JsonReads body read = ValueReads (whole_value body) read
