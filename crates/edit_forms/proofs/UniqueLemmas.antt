-- Columns, records and bodies read in one way at most.
use Rattle.std.proofs.Common.{◌≡◌, ℕ, suc, inl, List, [], ◌∷◌, Option, Some, None, Result, Ok, Err, ◌∙◌, refl, sym, ap}
use Rattle.std.proofs.Common.{subst, get_or, arith}
use Rattle.std.specs.Prelude.{codes}
use Rattle.csv.specs.Reading.{default_config, records, strip_bom}
use Rattle.serde_json.specs.Data.{Data, Items}
use Rattle.json_tree.specs.Whole.{whole_value}
use Rattle.json_tree.specs.declared.fault.TreeFault.{TreeFault}
use Rattle.alto_names.specs.Name.{IsNetName, is_net_byte}
use Rattle.alto_names.specs.declared.label.NameFault.{NameFault}
use Rattle.alto_rows.proofs.EntityLemmas.{one_block, one_entity}
use Rattle.alto_edits.specs.declared.edit.Edit.{Edit}
use Rattle.alto_edits.specs.declared.edit.PropValue.TheVariants as property
use Rattle.edit_forms.specs.declared.fault.FormFault.{FormFault}
use Rattle.edit_forms.specs.declared.form.Form.{Form}
use Rattle.edit_forms.specs.declared.form.Form.TheVariants as form
use Rattle.edit_forms.specs.declared.operation.Operation.{Operation}
use Rattle.edit_forms.specs.declared.operation.Operation.TheVariants as op
use Rattle.edit_forms.specs.declared.value_kind.ValueKind.{ValueKind}
use Rattle.edit_forms.specs.declared.value_kind.ValueKind.TheVariants as kind
use Rattle.edit_forms.specs.Columns.{WritesPrefix, WritesAmount, WritesKind, WritesValue, WritesBandwidth, WritesAnes}
use Rattle.edit_forms.specs.Csv.{CsvReads, without_header}
use Rattle.edit_forms.specs.Edits as edits
use Rattle.edit_forms.specs.Edits.{BodyReads, First, RecordReads, RecordsRead, before, in_row}
use Rattle.edit_forms.specs.Forms.{FormReads}
use Rattle.edit_forms.specs.Json.{ItemsRead, JsonReads, ValueReads, item_records, listed_edits}
use Rattle.edit_forms.specs.Operations.{operation_in}
use Rattle.edit_forms.proofs.ValueLemmas.{named_again}
use Rattle.edit_forms.specs.Table.{ColumnsRead, Reads, Then, reads, fails}

-- nothing else is read
abbrev pub OneWay : {R : Type 0} → (R → Type 0) → Type 0
OneWay {R} Read = (one other : R) → Read one → Read other → one ≡ other

-- ---- the values of columns

one_name : (found : Result (List ℕ) NameFault) (one other : List ℕ) → found ≡ Ok one → found ≡ Ok other → one ≡ other
one_name found one other h k = cc (h, k)

one_prefix : (text : List ℕ) → OneWay (WritesPrefix text)
one_prefix text one other h k = one_block text one other (inl h) (inl k)

one_amount : (text : List ℕ) → OneWay (WritesAmount text)
one_amount text one other h k = h.value ∙ sym k.value

apart : codes "t" ≡ codes "n" → ⊥
apart e =
    let letters : 116 ≡ 110 = ap (λ (text : List ℕ). get_or text 0 0) e in
    absurd (omega (arith, letters))

one_kind : (text : List ℕ) → OneWay (WritesKind text)
one_kind text kind.Text kind.Text h k = refl
one_kind text kind.Text kind.Number h k = absurd (apart (sym h ∙ k))
one_kind text kind.Number kind.Text h k = absurd (apart (sym k ∙ h))
one_kind text kind.Number kind.Number h k = refl

one_value : (kind : ValueKind) (text : List ℕ) → OneWay (WritesValue kind text)
one_value kind.Text text (property.Text one) (property.Text other) h k = ap property.Text (h.0 ∙ sym k.0)
one_value kind.Text text (property.Text one) (property.Number other) h k = absurd k
one_value kind.Text text (property.Number one) other h k = absurd h
one_value kind.Number text (property.Number one) (property.Number other) h k =
    ap property.Number (one_amount text one other h k)
one_value kind.Number text (property.Number one) (property.Text other) h k = absurd k
one_value kind.Number text (property.Text one) other h k = absurd h

one_bandwidth : (text : List ℕ) → OneWay (WritesBandwidth text)
one_bandwidth text one other h k = h.1 ∙ sym k.1

one_anes : (text : List ℕ) → OneWay (WritesAnes text)
one_anes text one other h k = h.0 ∙ sym k.0

-- ---- columns

then_once : {A : Type 0} (column : ℕ) (Writes : A → Type 0) (Rest : A → Result Edit ℕ → Type 0) → OneWay Writes
    → ((value : A) → Writes value → OneWay (Rest value)) → OneWay (Then column Writes Rest)
then_once column Writes Rest value_once rest_once one other (reads v writes rest) (reads w writes_too rest_too) =
    rest_once w writes_too one other (subst (λ x. Rest x one) (value_once v w writes writes_too) rest) rest_too
then_once column Writes Rest value_once rest_once one other (reads v writes rest) (fails none e) =
    absurd (none v writes)
then_once column Writes Rest value_once rest_once one other (fails none e) (reads v writes rest) =
    absurd (none v writes)
then_once column Writes Rest value_once rest_once one other (fails none e) (fails none_too e_too) = e ∙ sym e_too

ends_once : (end one other : Result Edit ℕ) → one ≡ end → other ≡ end → one ≡ other
ends_once end one other h k = h ∙ sym k

reads_once : (operation : Operation) (net a b c d : List ℕ) → IsNetName net → OneWay (Reads operation net a b c d)
reads_once op.NetAdd net a b c d is = ends_once _
reads_once op.NetDrop net a b c d is = ends_once _
reads_once op.PidAdd net a b c d is = then_once _ _ _ (one_name _) (λ pid w. ends_once _)
reads_once op.PidDrop net a b c d is = then_once _ _ _ (one_name _) (λ pid w. ends_once _)
reads_once op.PrefixPut net a b c d is =
    then_once _ _ _ (one_name _) (λ pid w. then_once _ _ _ (one_prefix b) (λ prefix w. ends_once _))
reads_once op.PrefixDel net a b c d is =
    then_once _ _ _ (one_name _) (λ pid w. then_once _ _ _ (one_prefix b) (λ prefix w. ends_once _))
reads_once op.MetricAdd net a b c d is = then_once _ _ _ (one_name _) (λ metric w. ends_once _)
reads_once op.MetricDrop net a b c d is = then_once _ _ _ (one_name _) (λ metric w. ends_once _)
reads_once op.CostPut net a b c d is =
    then_once _ _ _ (one_name _) (λ metric w. then_once _ _ _ (one_name _) (λ source w.
    then_once _ _ _ (one_name _) (λ destination w. then_once _ _ _ (one_amount d) (λ cost w. ends_once _))))
reads_once op.CostDel net a b c d is =
    then_once _ _ _ (one_name _) (λ metric w. then_once _ _ _ (one_name _) (λ source w.
    then_once _ _ _ (one_name _) (λ destination w. ends_once _)))
reads_once op.PropPut net a b c d is =
    then_once _ _ _ (λ one other. one_entity net a one other is) (λ entity w. then_once _ _ _ (one_name _) (λ name w.
    then_once _ _ _ (one_kind c) (λ kind w. then_once _ _ _ (one_value kind d) (λ value w. ends_once _))))
reads_once op.PropDel net a b c d is =
    then_once _ _ _ (λ one other. one_entity net a one other is)
    (λ entity w. then_once _ _ _ (one_name _) (λ name w. ends_once _))
reads_once op.AneAdd net a b c d is = then_once _ _ _ (one_name _) (λ ane w. ends_once _)
reads_once op.AneSet net a b c d is =
    then_once _ _ _ (one_name _) (λ ane w. then_once _ _ _ (one_bandwidth b) (λ name w.
    then_once _ _ _ (one_amount c) (λ number w. ends_once _)))
reads_once op.PathPut net a b c d is =
    then_once _ _ _ (one_name _) (λ source w. then_once _ _ _ (one_name _) (λ destination w.
    then_once _ _ _ (one_anes c) (λ anes w. ends_once _)))
reads_once op.PathDel net a b c d is =
    then_once _ _ _ (one_name _) (λ source w. then_once _ _ _ (one_name _) (λ destination w. ends_once _))

one_operation : (text : List ℕ) (one other : Operation) → operation_in text ≡ Some one
    → operation_in text ≡ Some other → one ≡ other
one_operation text one other h k = cc (h, k)

columns_once : (op net a b c d : List ℕ) → OneWay (ColumnsRead op net a b c d)
columns_once op net a b c d =
    then_once _ _ _ (one_operation op) (λ operation w. then_once _ _ _ (one_name _) (λ name w.
    reads_once operation name a b c d (named_again is_net_byte 24 net name w)))

-- ---- records

record_once : (row : ℕ) (fields : List (List ℕ)) → OneWay (RecordReads row fields)
record_once row (op ∷ net ∷ a ∷ b ∷ c ∷ d ∷ []) one other h k =
    h.2 ∙ ap (in_row row) (columns_once op net a b c d h.0 k.0 h.1 k.1) ∙ sym k.2
record_once row _ one other h k = h ∙ sym k

first_once : (Record : Result Edit FormFault → Type 0) (Rest : Result (List Edit) FormFault → Type 0)
    → OneWay Record → OneWay Rest
    → OneWay (First Record Rest)
first_once Record Rest record_one rest_one one other (edits.reads made more h rest e)
    (edits.reads made_too more_too k rest_too e_too) =
    let same : made ≡ made_too = cc (record_one (Ok made) (Ok made_too) h k) in
    e ∙ rw (same, rest_one more more_too rest rest_too) (sym e_too)
first_once Record Rest record_one rest_one one other (edits.reads made more h rest e) (edits.fails fault k e_too) =
    cc (record_one (Ok made) (Err fault) h k)
first_once Record Rest record_one rest_one one other (edits.fails fault h e) (edits.reads made more k rest e_too) =
    cc (record_one (Err fault) (Ok made) h k)
first_once Record Rest record_one rest_one one other (edits.fails fault h e) (edits.fails fault_too k e_too) =
    let same : fault ≡ fault_too = cc (record_one (Err fault) (Err fault_too) h k) in
    e ∙ rw same (sym e_too)

records_once : (row : ℕ) (records : List (List (List ℕ))) → OneWay (RecordsRead row records)
records_once row [] = λ one other h k. h ∙ sym k
records_once row (fields ∷ more) =
    first_once (RecordReads row fields) (RecordsRead (suc row) more) (record_once row fields)
    (records_once (suc row) more)

body_once : (records : List (List (List ℕ))) → OneWay (BodyReads records)
body_once [] = λ one other h k. h ∙ sym k
body_once (first ∷ more) = records_once 1 (first ∷ more)

-- ---- bodies

csv_once : (body : List ℕ) → OneWay (CsvReads body)
unfolding CsvReads
csv_once body = body_once (without_header (records default_config (strip_bom body)))

items_once : (items : Option Items) → OneWay (ItemsRead items)
items_once None = λ one other h k. h ∙ sym k
items_once (Some items) = body_once (item_records items)

value_once : (value : Result Data TreeFault) → OneWay (ValueReads value)
value_once (Err fault) = λ one other h k. h ∙ sym k
value_once (Ok d) = items_once (listed_edits d)

json_once : (body : List ℕ) → OneWay (JsonReads body)
unfolding JsonReads
json_once body = value_once (whole_value body)

pub form_once : (form : Form) (body : List ℕ) → OneWay (FormReads form body)
form_once form.Csv body = csv_once body
form_once form.Json body = json_once body
