-- The grammar of writes.
use Rattle.std.proofs.Common.{◌≡◌, ℕ, ◌≤◌, true, List, [], ◌∷◌, ◌++◌, length, All, Option, Some, None, refl, sym, ap}
use Rattle.std.proofs.Common.{subst, ◌∙◌, append_assoc, arith}
use Rattle.std.specs.Prelude.{IsUtf8}
use Rattle.std.specs.List.{flat_map}
use Rattle.std.proofs.lemmas.List.Elements.{recursion_from_All}
use Rattle.alto_names.specs.Name.{is_net_byte, is_pid_byte, is_metric_byte, IsAneName}
use Rattle.alto_rows.specs.Good.{IsKey, IsResource}
use Rattle.alto_rows.specs.Order.{kind_of}
use Rattle.alto_rows.specs.declared.key.Key.{Key}
use Rattle.alto_rows.specs.declared.key.Key.TheVariants as key
use Rattle.alto_rows.specs.declared.resource.Resource.{Resource}
use Rattle.alto_rows.specs.declared.resource.Resource.TheVariants as resource
use Rattle.alto_rows.specs.declared.value.Value.{Value}
use Rattle.alto_rows.specs.declared.value.Value.TheVariants as value
use Rattle.alto_rows.specs.declared.write.Write.{Write}
use Rattle.code_bytes.specs.declared.stop.Stop.{Stop}
use Rattle.code_bytes.specs.Stuck.{IsStuck, Stops, Pair, Tagged, Times}
use Rattle.code_bytes.specs.Pieces.{Numbers, Prefixes, name, number, prefix}
use Rattle.code_bytes.proofs.GrammarLemmas.{IsGrammar, counted_first, counted_grammar, counted_next, pair_first}
use Rattle.code_bytes.proofs.GrammarLemmas.{pair_grammar, pair_next, tagged_bad, tagged_free, tagged_none, tagged_on}
use Rattle.code_bytes.proofs.GrammarLemmas.{times_from, times_grammar}
use Rattle.batch_code.specs.Grammar.{NetNames, PidNames, MetricNames, PropNames, AneNames, Behind, Entities, Fields}
use Rattle.batch_code.specs.Grammar.{Resources, Values, WriteLists, Writes, form_number, has_form, key_number, least_of}
use Rattle.batch_code.specs.Grammar.{most_of, shape_of}
use Rattle.batch_code.specs.Spelling.{entity_bytes, fields, resource_bytes, value_bytes, write_bytes}
use Rattle.batch_code.specs.Storable.{IsKeyAt, IsStored, TakesChange}
use Rattle.batch_code.specs.Values.{IsValueOf, shape_at}
use Rattle.batch_code.specs.declared.kinds.Form.TheVariants as form
use Rattle.batch_code.specs.declared.kinds.KeyKind.{KeyKind}
use Rattle.batch_code.specs.declared.kinds.KeyKind.TheVariants as kind
use Rattle.batch_code.specs.declared.kinds.ResourceKind.TheVariants as of_kind
use Rattle.batch_code.specs.declared.kinds.Shape.{Shape}
use Rattle.batch_code.specs.declared.kinds.Shape.TheVariants as shape
use Rattle.batch_code.proofs.KindLemmas.{kind_once, stored_kind}
use Rattle.batch_code.proofs.KeyLemmas.{are_texts, fields_grammar, is_entity, is_text}
use Rattle.batch_code.proofs.ValueLemmas.{values_grammar}

-- ---- kinds

-- the kind of a key that is stored
abbrev kind_at : (of : Key) → 3 ≤ kind_of of → (at : KeyKind) × (kind_of of ≡ key_number at)
kind_at (key.Net net) le = (kind.Net, refl)
kind_at (key.Pid net pid) le = (kind.Pid, refl)
kind_at (key.Prefix net pid block) le = (kind.Prefix, refl)
kind_at (key.Metric net metric) le = (kind.Metric, refl)
kind_at (key.Cost net metric source destination) le = (kind.Cost, refl)
kind_at (key.Prop net entity property) le = (kind.Prop, refl)
kind_at (key.Ane net ane) le = (kind.Ane, refl)
kind_at (key.AneProp net ane property) le = (kind.AneProp, refl)
kind_at (key.Path net source destination) le = (kind.Path, refl)
kind_at (key.Seq of) le = (kind.Seq, refl)
kind_at key.Epoch le = absurd (omega (arith, le))
kind_at key.Window le = absurd (omega (arith, le))

stored_at : (at : KeyKind) (of : Key) → kind_of of ≡ key_number at → 3 ≤ kind_of of
stored_at at of e = subst (λ n. 3 ≤ n) (sym e) (stored_kind at)

-- a kind with the number of a stored key's is its kind
same_kind : (at : KeyKind) (of : Key) (e : kind_of of ≡ key_number at) → (kind_at of (stored_at at of e)).0 ≡ at
same_kind at of e =
    let own = kind_at of (stored_at at of e) in
    kind_once own.0 at (sym own.1 ∙ e)

shape_there : (of : Key) (le : 3 ≤ kind_of of) → shape_of (kind_at of le).0 ≡ shape_at of
shape_there (key.Net net) le = refl
shape_there (key.Pid net pid) le = refl
shape_there (key.Prefix net pid block) le = refl
shape_there (key.Metric net metric) le = refl
shape_there (key.Cost net metric source destination) le = refl
shape_there (key.Prop net entity property) le = refl
shape_there (key.Ane net ane) le = refl
shape_there (key.AneProp net ane property) le = refl
shape_there (key.Path net source destination) le = refl
shape_there (key.Seq of) le = refl
shape_there key.Epoch le = absurd (omega (arith, le))
shape_there key.Window le = absurd (omega (arith, le))

same_shape : (at : KeyKind) (of : Key) → kind_of of ≡ key_number at → shape_of at ≡ shape_at of
same_shape at of e =
    subst (λ (k : KeyKind). shape_of k ≡ shape_at of) (same_kind at of e) (shape_there of (stored_at at of e))

-- a key takes the values of its shape
pub takes_same : (at : Key) (v : Option Value) → (IsValueOf (shape_at at) v → 3 ≤ kind_of at → TakesChange at v)
    × (TakesChange at v → 3 ≤ kind_of at → IsValueOf (shape_at at) v)
takes_same (key.Net net) None = ((λ x le. x), (λ x le. x))
takes_same (key.Net net) (Some value.Unit) = ((λ x le. x), (λ x le. x))
takes_same (key.Net net) (Some (value.Num n)) = ((λ x le. x), (λ x le. x))
takes_same (key.Net net) (Some (value.Text text)) = ((λ x le. x), (λ x le. x))
takes_same (key.Net net) (Some (value.Names anes)) = ((λ x le. x), (λ x le. x))
takes_same (key.Pid net pid) None = ((λ x le. x), (λ x le. x))
takes_same (key.Pid net pid) (Some value.Unit) = ((λ x le. x), (λ x le. x))
takes_same (key.Pid net pid) (Some (value.Num n)) = ((λ x le. x), (λ x le. x))
takes_same (key.Pid net pid) (Some (value.Text text)) = ((λ x le. x), (λ x le. x))
takes_same (key.Pid net pid) (Some (value.Names anes)) = ((λ x le. x), (λ x le. x))
takes_same (key.Prefix net pid block) None = ((λ x le. x), (λ x le. x))
takes_same (key.Prefix net pid block) (Some value.Unit) = ((λ x le. x), (λ x le. x))
takes_same (key.Prefix net pid block) (Some (value.Num n)) = ((λ x le. x), (λ x le. x))
takes_same (key.Prefix net pid block) (Some (value.Text text)) = ((λ x le. x), (λ x le. x))
takes_same (key.Prefix net pid block) (Some (value.Names anes)) = ((λ x le. x), (λ x le. x))
takes_same (key.Metric net metric) None = ((λ x le. x), (λ x le. x))
takes_same (key.Metric net metric) (Some value.Unit) = ((λ x le. x), (λ x le. x))
takes_same (key.Metric net metric) (Some (value.Num n)) = ((λ x le. x), (λ x le. x))
takes_same (key.Metric net metric) (Some (value.Text text)) = ((λ x le. x), (λ x le. x))
takes_same (key.Metric net metric) (Some (value.Names anes)) = ((λ x le. x), (λ x le. x))
takes_same (key.Cost net metric source destination) None = ((λ x le. x), (λ x le. x))
takes_same (key.Cost net metric source destination) (Some value.Unit) = ((λ x le. x), (λ x le. x))
takes_same (key.Cost net metric source destination) (Some (value.Num n)) = ((λ x le. x), (λ x le. x))
takes_same (key.Cost net metric source destination) (Some (value.Text text)) = ((λ x le. x), (λ x le. x))
takes_same (key.Cost net metric source destination) (Some (value.Names anes)) = ((λ x le. x), (λ x le. x))
takes_same (key.Prop net entity property) None = ((λ x le. x), (λ x le. x))
takes_same (key.Prop net entity property) (Some value.Unit) = ((λ x le. x), (λ x le. x))
takes_same (key.Prop net entity property) (Some (value.Num n)) = ((λ x le. x), (λ x le. x))
takes_same (key.Prop net entity property) (Some (value.Text text)) = ((λ x le. x), (λ x le. x))
takes_same (key.Prop net entity property) (Some (value.Names anes)) = ((λ x le. x), (λ x le. x))
takes_same (key.Ane net ane) None = ((λ x le. x), (λ x le. x))
takes_same (key.Ane net ane) (Some value.Unit) = ((λ x le. x), (λ x le. x))
takes_same (key.Ane net ane) (Some (value.Num n)) = ((λ x le. x), (λ x le. x))
takes_same (key.Ane net ane) (Some (value.Text text)) = ((λ x le. x), (λ x le. x))
takes_same (key.Ane net ane) (Some (value.Names anes)) = ((λ x le. x), (λ x le. x))
takes_same (key.AneProp net ane property) None = ((λ x le. x), (λ x le. x))
takes_same (key.AneProp net ane property) (Some value.Unit) = ((λ x le. x), (λ x le. x))
takes_same (key.AneProp net ane property) (Some (value.Num n)) = ((λ x le. x), (λ x le. x))
takes_same (key.AneProp net ane property) (Some (value.Text text)) = ((λ x le. x), (λ x le. x))
takes_same (key.AneProp net ane property) (Some (value.Names anes)) = ((λ x le. x), (λ x le. x))
takes_same (key.Path net source destination) None = ((λ x le. x), (λ x le. x))
takes_same (key.Path net source destination) (Some value.Unit) = ((λ x le. x), (λ x le. x))
takes_same (key.Path net source destination) (Some (value.Num n)) = ((λ x le. x), (λ x le. x))
takes_same (key.Path net source destination) (Some (value.Text text)) = ((λ x le. x), (λ x le. x))
takes_same (key.Path net source destination) (Some (value.Names anes)) = ((λ x le. x), (λ x le. x))
takes_same (key.Seq of) None = ((λ x le. x), (λ x le. x))
takes_same (key.Seq of) (Some value.Unit) = ((λ x le. x), (λ x le. x))
takes_same (key.Seq of) (Some (value.Num n)) = ((λ x le. x), (λ x le. x))
takes_same (key.Seq of) (Some (value.Text text)) = ((λ x le. x), (λ x le. x))
takes_same (key.Seq of) (Some (value.Names anes)) = ((λ x le. x), (λ x le. x))
takes_same key.Epoch v = ((λ x le. absurd (omega (arith, le))), (λ x le. absurd (omega (arith, le))))
takes_same key.Window v = ((λ x le. absurd (omega (arith, le))), (λ x le. absurd (omega (arith, le))))

-- ---- behind the kind

abbrev ValueTexts : KeyKind → List ℕ → Type 0
ValueTexts at text = Tagged form_number (Values (shape_of at)) text

behind_grammar : (at : KeyKind) → IsGrammar (Behind at)
behind_grammar at = pair_grammar (Fields at) (ValueTexts at) (fields_grammar at) (values_grammar (shape_of at))

pub behind_first : (at : KeyKind) (bytes : List ℕ) (why : Stop) → Stops (Fields at) bytes why
    → Stops (Behind at) bytes why
behind_first at bytes why s = pair_first (Fields at) (ValueTexts at) bytes why (values_grammar (shape_of at)) s

net : (text : List ℕ) → IsKey (key.Net text) → NetNames (name text)
net text is = is_text is_net_byte 24 text is

resource_text : (of : Resource) → IsResource of → Resources (resource_bytes of)
resource_text (resource.Net n) is = record { tag = of_kind.Net; back = name n; split = refl; second = net n is }
resource_text (resource.Cost n m) is = record {
  tag = of_kind.Cost;
  back = name n ++ name m;
  split = refl;
  second = are_texts NetNames MetricNames (name n) (name m) (net n is.0) (is_text is_metric_byte 32 m is.1);
}
resource_text (resource.Prop n) is = record { tag = of_kind.Prop; back = name n; split = refl; second = net n is }

fields_there : (of : Key) (le : 3 ≤ kind_of of) → IsKey of → Fields (kind_at of le).0 (fields of)
fields_there (key.Net n) le is = net n is
fields_there (key.Pid n p) le is =
    are_texts NetNames PidNames (name n) (name p) (net n is.0) (is_text is_pid_byte 64 p is.1)
fields_there (key.Prefix n p block) le is =
    are_texts (Pair NetNames PidNames) Prefixes (name n ++ name p) (prefix block)
    (are_texts NetNames PidNames (name n) (name p) (net n is.0) (is_text is_pid_byte 64 p is.1))
    (record { value = block; has_bits = is.2; spelled = refl })
fields_there (key.Metric n m) le is =
    are_texts NetNames MetricNames (name n) (name m) (net n is.0) (is_text is_metric_byte 32 m is.1)
fields_there (key.Cost n m s d) le is =
    are_texts (Pair NetNames MetricNames) (Pair PidNames PidNames) (name n ++ name m) (name s ++ name d)
    (are_texts NetNames MetricNames (name n) (name m) (net n is.0) (is_text is_metric_byte 32 m is.1))
    (are_texts PidNames PidNames (name s) (name d) (is_text is_pid_byte 64 s is.2) (is_text is_pid_byte 64 d is.3))
fields_there (key.Prop n entity p) le is =
    are_texts NetNames (Pair Entities PropNames) (name n) (entity_bytes entity ++ name p) (net n is.0)
    (are_texts Entities PropNames (entity_bytes entity) (name p) (is_entity entity is.1)
    (is_text is_metric_byte 32 p is.2))
fields_there (key.Ane n a) le is =
    are_texts NetNames AneNames (name n) (name a) (net n is.0) (is_text is_pid_byte 32 a is.1)
fields_there (key.AneProp n a p) le is =
    are_texts (Pair NetNames AneNames) PropNames (name n ++ name a) (name p)
    (are_texts NetNames AneNames (name n) (name a) (net n is.0) (is_text is_pid_byte 32 a is.1))
    (is_text is_metric_byte 32 p is.2)
fields_there (key.Path n s d) le is =
    are_texts NetNames (Pair PidNames PidNames) (name n) (name s ++ name d) (net n is.0)
    (are_texts PidNames PidNames (name s) (name d) (is_text is_pid_byte 64 s is.1) (is_text is_pid_byte 64 d is.2))
fields_there (key.Seq of) le is = resource_text of is
fields_there key.Epoch le is = absurd (omega (arith, le))
fields_there key.Window le is = absurd (omega (arith, le))

pub fields_text : (at : KeyKind) (of : Key) → kind_of of ≡ key_number at → IsKey of → Fields at (fields of)
fields_text at of e is =
    subst (λ (k : KeyKind). Fields k (fields of)) (same_kind at of e) (fields_there of (stored_at at of e) is)

pub behind_next : (at : KeyKind) (of : Key) (bytes rest : List ℕ) (why : Stop) → IsKeyAt (key_number at) bytes of rest
    → Stops (ValueTexts at) rest why → Stops (Behind at) bytes why
behind_next at of bytes rest why is s =
    pair_next (Fields at) (ValueTexts at) bytes (fields of) rest why (fields_grammar at)
    (fields_text at of is.kind is.is_key) is.read s

pub behind_read : (at : KeyKind) (of : Key) (v : Option Value) (bytes rest last : List ℕ)
    → IsKeyAt (key_number at) bytes of rest → IsValueOf (shape_of at) v
    → rest ≡ value_bytes v ++ last
    → IsStored (record { key = of; value = v })
    × (key_number at ∷ bytes ≡ write_bytes (record { key = of; value = v }) ++ last)
behind_read at of v bytes rest last is fits e =
    let le = stored_at at of is.kind in (
      record {
        stored = le;
        is_key = is.is_key;
        takes = (takes_same of v).0 (subst (λ s. IsValueOf s v) (same_shape at of is.kind) fits) le;
      },
      ap (λ n. n ∷ bytes) (sym is.kind) ∙ ap (λ t. kind_of of ∷ t) (is.read ∙ ap (λ t. fields of ++ t) e
          ∙ sym (append_assoc (fields of) (value_bytes v) last)),
    )

-- ---- writes

pub writes_grammar : IsGrammar Writes
writes_grammar = record {
  free = tagged_free key_number Behind kind_once (λ at. (behind_grammar at).free);
  text = 3 ∷ (behind_grammar kind.Net).text;
  some = record {
    tag = kind.Net;
    back = (behind_grammar kind.Net).text;
    split = refl;
    second = (behind_grammar kind.Net).some;
  };
}

pub write_none : (bytes : List ℕ) → bytes ≡ [] → IsStuck Writes bytes 0
write_none bytes nil = tagged_none key_number Behind bytes writes_grammar.text writes_grammar.some nil

pub write_bad : (byte : ℕ) (bytes rest : List ℕ) → bytes ≡ byte ∷ rest → ((at : KeyKind) → byte ≡ key_number at → ⊥)
    → IsStuck Writes bytes (length bytes)
write_bad byte bytes rest head not =
    tagged_bad key_number Behind byte bytes rest writes_grammar.text writes_grammar.some
    head (λ tag back e is. not tag e)

pub write_on : (at : KeyKind) (byte : ℕ) (bytes rest : List ℕ) (why : Stop) → bytes ≡ byte ∷ rest → byte ≡ key_number at
    → Stops (Behind at) rest why → Stops Writes bytes why
write_on at byte bytes rest why head e s = tagged_on key_number Behind at byte bytes rest why kind_once head e s

lists_grammar : (count : ℕ) → IsGrammar (Times count Writes)
lists_grammar count = times_grammar count Writes writes_grammar

pub write_lists_grammar : IsGrammar WriteLists
write_lists_grammar = counted_grammar 4 0 16384 (λ count. Times count Writes) (omega arith) (omega arith) lists_grammar

pub lists_first : (bytes : List ℕ) (why : Stop) → Stops (Numbers 4 0 16384) bytes why → Stops WriteLists bytes why
lists_first bytes why s = counted_first 4 0 16384 (λ count. Times count Writes) bytes why lists_grammar s

pub lists_next : (n : ℕ) (bytes rest : List ℕ) (why : Stop) → n ≤ 16384 → bytes ≡ number 4 n ++ rest
    → Stops (Times n Writes) rest why → Stops WriteLists bytes why
lists_next n bytes rest why small e s =
    counted_next 4 0 16384 (λ count. Times count Writes) n bytes rest why (omega arith) (omega arith) small e s

-- ---- what a known write writes

pub nums : (s : Shape) (n : ℕ) → IsValueOf s (Some (value.Num n))
    → (has_form s form.Number ≡ true) × (least_of s ≤ n) × (n ≤ most_of s)
nums shape.Amount n is = (refl, omega arith, is)
nums shape.Property n is = (refl, omega arith, is)
nums shape.Version n is = (refl, is.0, omega (arith, is.1))
nums shape.Unit n is = absurd is
nums shape.Names n is = absurd is

deletions : (s : Shape) → IsValueOf s None → has_form s form.Deletion ≡ true
deletions shape.Unit is = refl
deletions shape.Amount is = refl
deletions shape.Property is = refl
deletions shape.Names is = refl
deletions shape.Version is = absurd is

units : (s : Shape) → IsValueOf s (Some value.Unit) → has_form s form.Unit ≡ true
units shape.Unit is = refl
units shape.Amount is = absurd is
units shape.Property is = absurd is
units shape.Names is = absurd is
units shape.Version is = absurd is

pub texts : (s : Shape) (text : List ℕ) → IsValueOf s (Some (value.Text text))
    → (has_form s form.Text ≡ true) × IsUtf8 text × (length text ≤ 65535)
texts shape.Property text is = (refl, is.0, is.1)
texts shape.Unit text is = absurd is
texts shape.Amount text is = absurd is
texts shape.Names text is = absurd is
texts shape.Version text is = absurd is

pub lists : (s : Shape) (anes : List (List ℕ)) → IsValueOf s (Some (value.Names anes))
    → (has_form s form.Names ≡ true) × All IsAneName anes × (1 ≤ length anes) × (length anes ≤ 64)
lists shape.Names anes is = (refl, is.0, is.1, is.2)
lists shape.Unit anes is = absurd is
lists shape.Amount anes is = absurd is
lists shape.Property anes is = absurd is
lists shape.Version anes is = absurd is

pub value_text : (s : Shape) (v : Option Value) → IsValueOf s v → Tagged form_number (Values s) (value_bytes v)
value_text s None is = record {
  tag = form.Deletion;
  back = [];
  split = refl;
  second = record { fits = deletions s is; body = refl };
}
value_text s (Some value.Unit) is =
    record { tag = form.Unit; back = []; split = refl; second = record { fits = units s is; body = refl } }
value_text s (Some (value.Num n)) is =
    let is_number = nums s n is in
    record {
      tag = form.Number;
      back = number 8 n;
      split = refl;
      second = record {
        fits = is_number.0;
        body = record {
          value = n;
          above = is_number.1;
          below = is_number.2;
          spelled = refl;
        };
      };
    }
value_text s (Some (value.Text text)) is =
    let its = texts s text is in
    record {
      tag = form.Text;
      back = number 2 (length text) ++ text;
      split = refl;
      second = record {
        fits = its.0;
        body = record {
          front = number 2 (length text);
          back = text;
          split = refl;
          first = record { value = length text; above = omega arith; below = its.2; spelled = refl };
          second = record {
            value = length text;
            above = omega arith;
            below = its.2;
            spelled = refl;
            body = (its.1, refl);
          };
        };
      };
    }
value_text s (Some (value.Names anes)) is =
    let its = lists s anes is in
    record {
      tag = form.Names;
      back = number 2 (length anes) ++ flat_map name anes;
      split = refl;
      second = record {
        fits = its.0;
        body = record {
          front = number 2 (length anes);
          back = flat_map name anes;
          split = refl;
          first = record { value = length anes; above = its.2; below = its.3; spelled = refl };
          second = record {
            value = length anes;
            above = its.2;
            below = its.3;
            spelled = refl;
            body = times_from IsAneName name AneNames anes (λ ane is_ane. is_text is_pid_byte 32 ane is_ane)
                (recursion_from_All IsAneName anes its.1);
          };
        };
      };
    }

pub is_write : (write : Write) → IsStored write → Writes (write_bytes write)
is_write write is =
    let at = kind_at write.key is.stored in
    let fits = (takes_same write.key write.value).1 is.takes is.stored in
    record {
      tag = at.0;
      back = fields write.key ++ value_bytes write.value;
      split = ap (λ n. n ∷ (fields write.key ++ value_bytes write.value)) at.1;
      second = record {
        front = fields write.key;
        back = value_bytes write.value;
        split = refl;
        first = fields_text at.0 write.key at.1 is.is_key;
        second = value_text (shape_of at.0)
            write.value (subst (λ s. IsValueOf s write.value) (sym (same_shape at.0 write.key at.1)) fits);
      };
    }
