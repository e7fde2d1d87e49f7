-- What the columns of an import hold: `op`, `net`, `a`, `b`, `c` and `d`, numbered from 1.
use Rattle.std.specs.Prelude.{◌≡◌, ℕ, ◌≤◌, nat_lt, Bool, ◌==◌, ◌&&◌, IsTrue, List, [], ◌∷◌, length, All, Ok, codes}
use Rattle.std.specs.Char.{is_ascii_digit}
use Rattle.std.specs.List.{list_all, slice_split}
use Rattle.std.specs.Str.Parse.{digits_value}
use Rattle.alto_addr.specs.declared.prefix.Prefix.{Prefix}
use Rattle.alto_addr.specs.Text.{IsPrefixText}
use Rattle.alto_names.specs.Name.{IsAneName, named}
use Rattle.alto_rows.specs.Good.{IsAmount}
use Rattle.alto_edits.specs.Edits.{IsPropValue, max_reservable_bandwidth}
use Rattle.alto_edits.specs.declared.edit.PropValue.{PropValue}
use Rattle.alto_edits.specs.declared.edit.PropValue.TheVariants as property
use Rattle.edit_forms.specs.declared.columns.Columns.{Columns}
use Rattle.edit_forms.specs.declared.value_kind.ValueKind.{ValueKind}
use Rattle.edit_forms.specs.declared.value_kind.ValueKind.TheVariants as kind

-- the texts of six columns, in order
abbrev pub texts_of : Columns → List (List ℕ)
texts_of columns =
    columns.op.now ∷ columns.net.now ∷ columns.a.now ∷ columns.b.now ∷ columns.c.now ∷ columns.d.now ∷ []

-- the text writes a name of this alphabet and greatest length
abbrev pub WritesName : (ℕ → Bool) → ℕ → List ℕ → List ℕ → Type 0
WritesName alphabet longest text name = named alphabet longest text ≡ Ok name

-- the text writes this prefix
abbrev pub WritesPrefix : List ℕ → Prefix → Type 0
WritesPrefix text prefix = IsPrefixText text prefix.addr prefix.len

-- one decimal digit or more, and nothing else
abbrev pub is_decimal : List ℕ → Bool
is_decimal text = nat_lt 0 (length text) && list_all is_ascii_digit text

-- 1 to 16 decimal digits, whose number is a cost or a number of a property
pub record WritesAmount (text : List ℕ) (number : ℕ) : Type 0 where
  pub digits : IsTrue (is_decimal text)
  pub few : length text ≤ 16
  pub value : number ≡ digits_value 10 text
  pub amount : IsAmount number

-- the kind of a property's value: `t` for a text, `n` for a number
abbrev pub WritesKind : List ℕ → ValueKind → Type 0
WritesKind text kind.Text = text ≡ codes "t"
WritesKind text kind.Number = text ≡ codes "n"

-- the text writes a property's value of this kind
abbrev pub WritesValue : ValueKind → List ℕ → PropValue → Type 0
WritesValue kind.Text text (property.Text written) = (written ≡ text) × IsPropValue (property.Text written)
WritesValue kind.Number text (property.Number number) = WritesAmount text number
WritesValue _ text value = ⊥

-- the text is the name of the one property of an abstract network element
abbrev pub WritesBandwidth : List ℕ → List ℕ → Type 0
WritesBandwidth text name = (text ≡ max_reservable_bandwidth) × (name ≡ max_reservable_bandwidth)

-- the parts of a text between its spaces
abbrev pub spaced : List ℕ → List (List ℕ)
spaced text = slice_split (λ byte. byte == 0x20) text

-- 1 to 64 names of abstract network elements, with one space between
abbrev pub WritesAnes : List ℕ → List (List ℕ) → Type 0
WritesAnes text anes = (anes ≡ spaced text) × All IsAneName anes × (length anes ≤ 64)
