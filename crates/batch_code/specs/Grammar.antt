-- The grammar of a stored write, from the left: what may follow the byte that names a kind.
use Rattle.std.specs.Prelude.{◌≡◌, ℕ, ◌-◌, ◌^◌, ◌⊎◌, Bool, true, false, List, []}
use Rattle.alto_names.specs.Name.{is_import_byte, is_letter_or_digit, is_net_byte, is_pid_byte, is_metric_byte}
use Rattle.code_bytes.specs.Pieces.{Numbers, Names, Prefixes, Counted, Fixed, One, Texts}
use Rattle.code_bytes.specs.Stuck.{Headed, Pair, Tagged, Times}
use Rattle.batch_code.specs.declared.kinds.KeyKind.{KeyKind}
use Rattle.batch_code.specs.declared.kinds.KeyKind.TheVariants as kind
use Rattle.batch_code.specs.declared.kinds.Form.{Form}
use Rattle.batch_code.specs.declared.kinds.Form.TheVariants as form
use Rattle.batch_code.specs.declared.kinds.Shape.{Shape}
use Rattle.batch_code.specs.declared.kinds.Shape.TheVariants as shape
use Rattle.batch_code.specs.declared.kinds.ResourceKind.{ResourceKind}
use Rattle.batch_code.specs.declared.kinds.ResourceKind.TheVariants as of

abbrev pub NetNames : List ℕ → Type 0
NetNames text = Names is_net_byte 24 text

abbrev pub PidNames : List ℕ → Type 0
PidNames text = Names is_pid_byte 64 text

abbrev pub MetricNames : List ℕ → Type 0
MetricNames text = Names is_metric_byte 32 text

abbrev pub PropNames : List ℕ → Type 0
PropNames text = Names is_metric_byte 32 text

abbrev pub AneNames : List ℕ → Type 0
AneNames text = Names is_pid_byte 32 text

-- the byte of a PID's name, and the name
abbrev pub PidEntity : ℕ → List ℕ → Type 0
PidEntity byte text = (byte ≡ 0x50) × PidNames text

-- a prefix, or a PID
abbrev pub Entities : List ℕ → Type 0
Entities text = Prefixes text ⊎ Headed PidEntity text

-- the number of a kind of resource
abbrev pub resource_number : ResourceKind → ℕ
resource_number of.Net = 1
resource_number of.Cost = 2
resource_number of.Prop = 3

-- the names of a resource of a kind
abbrev pub ResourceNames : ResourceKind → List ℕ → Type 0
ResourceNames of.Net = NetNames
ResourceNames of.Cost = Pair NetNames MetricNames
ResourceNames of.Prop = NetNames

abbrev pub Resources : List ℕ → Type 0
Resources text = Tagged resource_number ResourceNames text

-- the number of a kind of key
abbrev pub key_number : KeyKind → ℕ
key_number kind.Net = 3
key_number kind.Pid = 4
key_number kind.Prefix = 5
key_number kind.Metric = 6
key_number kind.Cost = 7
key_number kind.Prop = 8
key_number kind.Ane = 9
key_number kind.AneProp = 10
key_number kind.Path = 11
key_number kind.Seq = 12

-- the fields of a key of a kind
abbrev pub Fields : KeyKind → List ℕ → Type 0
Fields kind.Net = NetNames
Fields kind.Pid = Pair NetNames PidNames
Fields kind.Prefix = Pair (Pair NetNames PidNames) Prefixes
Fields kind.Metric = Pair NetNames MetricNames
Fields kind.Cost = Pair (Pair NetNames MetricNames) (Pair PidNames PidNames)
Fields kind.Prop = Pair NetNames (Pair Entities PropNames)
Fields kind.Ane = Pair NetNames AneNames
Fields kind.AneProp = Pair (Pair NetNames AneNames) PropNames
Fields kind.Path = Pair NetNames (Pair PidNames PidNames)
Fields kind.Seq = Resources

-- which values keys of a kind have
abbrev pub shape_of : KeyKind → Shape
shape_of kind.Cost = shape.Amount
shape_of kind.AneProp = shape.Amount
shape_of kind.Prop = shape.Property
shape_of kind.Path = shape.Names
shape_of kind.Seq = shape.Version
shape_of _ = shape.Unit

-- the number of a form of values
abbrev pub form_number : Form → ℕ
form_number form.Deletion = 0
form_number form.Unit = 1
form_number form.Number = 2
form_number form.Text = 3
form_number form.Names = 4

-- no byte
abbrev pub Nothing : List ℕ → Type 0
Nothing text = text ≡ []

-- keys with values of a shape have values of a form; all but versions are deleted
abbrev pub has_form : Shape → Form → Bool
has_form shape.Version form.Deletion = false
has_form _ form.Deletion = true
has_form shape.Unit form.Unit = true
has_form shape.Amount form.Number = true
has_form shape.Property form.Number = true
has_form shape.Property form.Text = true
has_form shape.Names form.Names = true
has_form shape.Version form.Number = true
has_form _ _ = false

-- the range of the numbers of a shape
abbrev pub least_of : Shape → ℕ
least_of shape.Version = 1
least_of _ = 0

abbrev pub most_of : Shape → ℕ
most_of shape.Version = 2 ^ 63 - 1
most_of _ = 2 ^ 53 - 1

-- what a value of a form holds behind its number
abbrev pub FormTexts : Shape → Form → List ℕ → Type 0
FormTexts of form.Deletion = Nothing
FormTexts of form.Unit = Nothing
FormTexts of form.Number = Numbers 8 (least_of of) (most_of of)
FormTexts of form.Text = Counted 2 0 65535 Texts
FormTexts of form.Names = Counted 2 1 64 (λ count. Times count AneNames)

-- the same, where keys have values of the shape
pub record Values (of : Shape) (in_form : Form) (text : List ℕ) : Type 0 where
  pub fits : has_form of in_form ≡ true
  pub body : FormTexts of in_form text

-- what a write of a key of a kind holds behind its kind
abbrev pub Behind : KeyKind → List ℕ → Type 0
Behind at = Pair (Fields at) (Tagged form_number (Values (shape_of at)))

-- the writes that can be stored
abbrev pub Writes : List ℕ → Type 0
Writes text = Tagged key_number Behind text

-- writes behind their number
abbrev pub WriteLists : List ℕ → Type 0
WriteLists text = Counted 4 0 16384 (λ count. Times count Writes) text

-- a batch behind its id's place: the digest, the moment and the writes
abbrev pub AfterId : List ℕ → Type 0
AfterId text = Pair (Fixed 32) (Pair (Numbers 8 0 (2 ^ 64 - 1)) WriteLists) text

-- the batches that can be stored, from the left
abbrev pub BatchTexts : List ℕ → Type 0
BatchTexts text = Pair (One 0x42) (Pair (One 0x01) (Pair (Names is_import_byte 64) AfterId)) text

-- the rows before the batches, from the left
abbrev pub HeadTexts : List ℕ → Type 0
HeadTexts text = Pair (One 0x41) (Pair (One 0x01) (Pair (Names is_letter_or_digit 20) (Numbers 4 2 32))) text
