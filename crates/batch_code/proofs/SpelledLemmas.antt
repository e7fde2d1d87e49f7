-- The grammar has no text but spellings.
use Rattle.std.proofs.Common.{◌≡◌, ℕ, Bool, List, [], ◌∷◌, ◌++◌, length, Option, Some, None, Ok, inl, inr, refl, sym}
use Rattle.std.proofs.Common.{ap, ◌∙◌, append-nil, arith}
use Rattle.std.specs.List.{flat_map}
use Rattle.std.proofs.lemmas.List.Elements.{All-from_recursion}
use Rattle.alto_names.specs.Name.{named, is_net_byte, is_pid_byte, is_metric_byte, IsAneName}
use Rattle.alto_rows.specs.Good.{IsEntity, IsKey, IsResource}
use Rattle.alto_rows.specs.Order.{kind_of}
use Rattle.alto_rows.specs.declared.entity.Entity.{Entity}
use Rattle.alto_rows.specs.declared.entity.Entity.TheVariants as entity
use Rattle.alto_rows.specs.declared.key.Key.{Key}
use Rattle.alto_rows.specs.declared.key.Key.TheVariants as key
use Rattle.alto_rows.specs.declared.resource.Resource.{Resource}
use Rattle.alto_rows.specs.declared.resource.Resource.TheVariants as resource
use Rattle.alto_rows.specs.declared.value.Value.{Value}
use Rattle.alto_rows.specs.declared.value.Value.TheVariants as value
use Rattle.alto_rows.specs.declared.write.Write.{Write}
use Rattle.code_bytes.specs.Stuck.{Pair}
use Rattle.code_bytes.specs.Pieces.{Names, name, number}
use Rattle.code_bytes.proofs.GrammarLemmas.{times_to}
use Rattle.batch_code.specs.Faults.{IsBatch, IsRowZero}
use Rattle.batch_code.specs.Grammar.{AneNames, BatchTexts, Entities, Fields, HeadTexts, ResourceNames, Values, Writes}
use Rattle.batch_code.specs.Grammar.{form_number, key_number, resource_number, shape_of}
use Rattle.batch_code.specs.Spelling.{entity_bytes, fields, resource_bytes, value_bytes, write_bytes}
use Rattle.batch_code.specs.Storable.{IsKeyAt, IsStored}
use Rattle.batch_code.specs.Values.{IsValueOf}
use Rattle.batch_code.specs.declared.kinds.Form.{Form}
use Rattle.batch_code.specs.declared.kinds.Form.TheVariants as form
use Rattle.batch_code.specs.declared.kinds.KeyKind.{KeyKind}
use Rattle.batch_code.specs.declared.kinds.KeyKind.TheVariants as kind
use Rattle.batch_code.specs.declared.kinds.ResourceKind.{ResourceKind}
use Rattle.batch_code.specs.declared.kinds.ResourceKind.TheVariants as of_kind
use Rattle.batch_code.specs.declared.kinds.Shape.{Shape}
use Rattle.batch_code.proofs.ValueLemmas.{deletion_fits, names_fit, number_fits, text_fits, unit_fits}
use Rattle.batch_code.proofs.WriteLemmas.{behind_read}

-- ---- keys

two_names : (first second : ℕ → Bool) (n m : ℕ) (text : List ℕ) → Pair (Names first n) (Names second m) text
    → (a : List ℕ) × (b : List ℕ) × (named first n a ≡ Ok a) × (named second m b ≡ Ok b) × (text ≡ name a ++ name b)
two_names first second n m text is = (
  is.first.value,
  is.second.value,
  is.first.is_name,
  is.second.is_name,
  is.split ∙ ap (λ t. t ++ is.back) is.first.spelled ∙ ap (λ t. name is.first.value ++ t) is.second.spelled,
)

entity_in : (text : List ℕ) → Entities text → (of : Entity) × IsEntity of × (text ≡ entity_bytes of)
entity_in text (inl is) = (entity.Block is.value, is.has_bits, is.spelled)
entity_in text (inr is) = (
  entity.Pid is.second.1.value,
  is.second.1.is_name,
  is.split ∙ ap (λ b. b ∷ is.back) is.second.0 ∙ ap (λ t. 0x50 ∷ t) is.second.1.spelled,
)

resource_by : (at : ResourceKind) (text back : List ℕ) → text ≡ resource_number at ∷ back → ResourceNames at back
    → (of : Resource) × IsResource of × (text ≡ resource_bytes of)
resource_by of_kind.Net text back e is = (resource.Net is.value, is.is_name, e ∙ ap (λ t. 1 ∷ t) is.spelled)
resource_by of_kind.Prop text back e is = (resource.Prop is.value, is.is_name, e ∙ ap (λ t. 3 ∷ t) is.spelled)
resource_by of_kind.Cost text back e is =
    let two = two_names is_net_byte is_metric_byte 24 32 back is in
    (resource.Cost two.0 two.1, (two.2, two.3), e ∙ ap (λ t. 2 ∷ t) two.4)

-- the key of a kind whose fields these are
record HasKey (at : KeyKind) (text : List ℕ) : Type 0 where
  pub of : Key
  pub kind : kind_of of ≡ key_number at
  pub is_key : IsKey of
  pub spelled : text ≡ fields of

key_in : (at : KeyKind) (text : List ℕ) → Fields at text → HasKey at text
key_in kind.Net text is = record { of = key.Net is.value; kind = refl; is_key = is.is_name; spelled = is.spelled }
key_in kind.Pid text is =
    let two = two_names is_net_byte is_pid_byte 24 64 text is in
    record { of = key.Pid two.0 two.1; kind = refl; is_key = (two.2, two.3); spelled = two.4 }
key_in kind.Prefix text is =
    let two = two_names is_net_byte is_pid_byte 24 64 is.front is.first in
    record {
      of = key.Prefix two.0 two.1 is.second.value;
      kind = refl;
      is_key = (two.2, two.3, is.second.has_bits);
      spelled = is.split ∙ ap (λ t. t ++ is.back) two.4 ∙ ap (λ t. (name two.0 ++ name two.1) ++ t) is.second.spelled;
    }
key_in kind.Metric text is =
    let two = two_names is_net_byte is_metric_byte 24 32 text is in
    record { of = key.Metric two.0 two.1; kind = refl; is_key = (two.2, two.3); spelled = two.4 }
key_in kind.Cost text is =
    let one = two_names is_net_byte is_metric_byte 24 32 is.front is.first in
    let two = two_names is_pid_byte is_pid_byte 64 64 is.back is.second in
    record {
      of = key.Cost one.0 one.1 two.0 two.1;
      kind = refl;
      is_key = (one.2, one.3, two.2, two.3);
      spelled = is.split ∙ ap (λ t. t ++ is.back) one.4 ∙ ap (λ t. (name one.0 ++ name one.1) ++ t) two.4;
    }
key_in kind.Prop text is =
    let of = entity_in is.second.front is.second.first in
    let last = is.second.second in
    let behind : is.back ≡ entity_bytes of.0 ++ name last.value =
    is.second.split ∙ ap (λ t. t ++ is.second.back) of.2 ∙ ap (λ t. entity_bytes of.0 ++ t) last.spelled in
    record {
      of = key.Prop is.first.value of.0 last.value;
      kind = refl;
      is_key = (is.first.is_name, of.1, last.is_name);
      spelled = is.split ∙ ap (λ t. t ++ is.back) is.first.spelled ∙ ap (λ t. name is.first.value ++ t) behind;
    }
key_in kind.Ane text is =
    let two = two_names is_net_byte is_pid_byte 24 32 text is in
    record { of = key.Ane two.0 two.1; kind = refl; is_key = (two.2, two.3); spelled = two.4 }
key_in kind.AneProp text is =
    let two = two_names is_net_byte is_pid_byte 24 32 is.front is.first in
    record {
      of = key.AneProp two.0 two.1 is.second.value;
      kind = refl;
      is_key = (two.2, two.3, is.second.is_name);
      spelled = is.split ∙ ap (λ t. t ++ is.back) two.4 ∙ ap (λ t. (name two.0 ++ name two.1) ++ t) is.second.spelled;
    }
key_in kind.Path text is =
    let two = two_names is_pid_byte is_pid_byte 64 64 is.back is.second in
    record {
      of = key.Path is.first.value two.0 two.1;
      kind = refl;
      is_key = (is.first.is_name, two.2, two.3);
      spelled = is.split ∙ ap (λ t. t ++ is.back) is.first.spelled ∙ ap (λ t. name is.first.value ++ t) two.4;
    }
key_in kind.Seq text is =
    let of = resource_by is.tag text is.back is.split is.second in
    record { of = key.Seq of.0; kind = refl; is_key = of.1; spelled = of.2 }

-- ---- values

value_by : (s : Shape) (in_form : Form) (text back : List ℕ) → text ≡ form_number in_form ∷ back → Values s in_form back
    → (v : Option Value) × IsValueOf s v × (text ≡ value_bytes v)
value_by s form.Deletion text back e is = (None, deletion_fits s is.fits, e ∙ ap (λ t. 0 ∷ t) is.body)
value_by s form.Unit text back e is = (Some value.Unit, unit_fits s is.fits, e ∙ ap (λ t. 1 ∷ t) is.body)
value_by s form.Number text back e is = (
  Some (value.Num is.body.value),
  number_fits s is.body.value is.fits is.body.above is.body.below,
  e ∙ ap (λ t. 2 ∷ t) is.body.spelled,
)
value_by s form.Text text back e is =
    let b = is.body in
    let size : length b.back ≡ b.second.value = b.second.body.1 in (
      Some (value.Text b.back),
      text_fits s b.back is.fits b.second.body.0 (omega (arith, size, b.second.below)),
      e ∙ ap (λ t. 3 ∷ t) (b.split ∙ ap (λ t. t ++ b.back) (b.second.spelled ∙ ap (number 2) (sym size))),
    )
value_by s form.Names text back e is =
    let b = is.body in
    let many = times_to IsAneName name AneNames b.second.value b.back (λ one its. (its.value, its.is_name, its.spelled))
    b.second.body in (
      Some (value.Names many.values),
      names_fit s many.values is.fits (All-from_recursion IsAneName many.values many.all)
          (omega (arith, many.many, b.second.above))
          (omega (arith, many.many, b.second.below)),
      e ∙ ap (λ t. 4 ∷ t) (b.split ∙ ap (λ t. t ++ b.back) (b.second.spelled ∙ ap (number 2) (sym many.many))
          ∙ ap (λ t. number 2 (length many.values) ++ t) many.spelled),
    )

-- ---- writes

write_in : (text : List ℕ) → Writes text → (write : Write) × IsStored write × (text ≡ write_bytes write)
write_in text is =
    let behind = is.second in
    let of = key_in is.tag behind.front behind.first in
    let last = behind.second in
    let v = value_by (shape_of is.tag) last.tag behind.back last.back last.split last.second in
    let at : IsKeyAt (key_number is.tag) is.back of.of behind.back =
    record { kind = of.kind; is_key = of.is_key; read = behind.split ∙ ap (λ t. t ++ behind.back) of.spelled } in
    let whole = v.2 ∙ sym (append-nil (value_bytes v.0)) in
    let read = behind_read is.tag of.of v.0 is.back behind.back [] at v.1 whole in (
      record { key = of.of; value = v.0 },
      read.0,
      is.split ∙ read.1
          ∙ append-nil (write_bytes (record { key = of.of; value = v.0 })),
    )

-- ---- batches

pub batch_in : (text : List ℕ) → BatchTexts text → IsBatch text
batch_in text is =
    let one = is.second in
    let two = one.second in
    let after = two.second in
    let last = after.second in
    let list = last.second in
    let many = times_to IsStored write_bytes Writes list.second.value list.back write_in list.second.body in
    let id = two.first.value in
    let moment = last.first.value in
    let list_is : last.back ≡ number 4 (length many.values) ++ flat_map write_bytes many.values =
    list.split ∙ ap (λ t. t ++ list.back) (list.second.spelled ∙ ap (number 4) (sym many.many))
    ∙ ap (λ t. number 4 (length many.values) ++ t) many.spelled in
    let last_is : after.back ≡ number 8 moment ++ (number 4 (length many.values) ++ flat_map write_bytes many.values) =
    last.split ∙ ap (λ t. t ++ last.back) last.first.spelled ∙ ap (λ t. number 8 moment ++ t) list_is in
    let after_is = after.split ∙ ap (λ t. after.front ++ t) last_is in
    let two_is = two.split ∙ ap (λ t. t ++ two.back) two.first.spelled ∙ ap (λ t. name id ++ t) after_is in
    let one_is = one.split ∙ ap (λ t. t ++ one.back) one.first ∙ ap (λ t. 0x01 ∷ t) two_is in (
      record { id = id; digest = after.front; moment = moment; writes = many.values },
      record {
        id = two.first.is_name;
        digest = after.first;
        moment = omega (arith, last.first.below);
        few = omega (arith, many.many, list.second.below);
        writes = All-from_recursion IsStored many.values many.all;
      },
      is.split ∙ ap (λ t. t ++ is.back) is.first ∙ ap (λ t. 0x42 ∷ t) one_is,
    )

pub head_in : (text : List ℕ) → HeadTexts text → IsRowZero text
head_in text is =
    let one = is.second in
    let two = one.second in
    let epoch = two.first in
    let window = two.second in
    let two_is = two.split ∙ ap (λ t. t ++ two.back) epoch.spelled ∙ ap (λ t. name epoch.value ++ t) window.spelled in
    let one_is = one.split ∙ ap (λ t. t ++ one.back) one.first ∙ ap (λ t. 0x01 ∷ t) two_is in (
      epoch.value,
      window.value,
      record { is_epoch = epoch.is_name; least = window.above; most = window.below },
      is.split ∙ ap (λ t. t ++ is.back) is.first ∙ ap (λ t. 0x41 ∷ t) one_is,
    )
