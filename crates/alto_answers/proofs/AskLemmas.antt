-- A body asks a network for its properties in one way, and what names a declared network is its name.
use Rattle.std.proofs.Common.{◌≡◌, refl, ap, sym, ◌∙◌, subst}
use Rattle.std.specs.Prelude.{ℕ, Bool, true, false, List, ◌∷◌, Some, None, IfSome, Result, Ok, Err, if◌then◌else◌}
use Rattle.serde_json.specs.Data.{Data, Items, no_items, item}
use Rattle.serde_json.specs.Find.{as_str}
use Rattle.alto_names.specs.declared.label.NameFault.{NameFault}
use Rattle.alto_names.specs.Name.{IsNetName, is_net_byte, named}
use Rattle.alto_asks.specs.Asks.{◌>>=◌, required_items, text_in}
use Rattle.alto_asks.specs.declared.fault.AskFault.{AskFault}
use Rattle.alto_rows.specs.declared.entity.Entity.{Entity}
use Rattle.alto_rows.specs.declared.key.Key.TheVariants as key
use Rattle.alto_rows.specs.Rows.{Rows, has_row}
use Rattle.alto_rows.proofs.EntityLemmas.{one_entity}
use Rattle.alto_rows.proofs.PieceLemmas.{named_is}
use Rattle.alto_maps.specs.Shape.{Name}
use Rattle.prop_docs.specs.Ask.{GoesOn, ListRead, ReadsEntities, ReadsList, ReadsPropAsk, ReadsText, asked}
use Rattle.prop_docs.specs.Ask.{entities_field, names_asked}
use Rattle.alto_answers.specs.Queries.{declared_net, net_named}

-- two values of which this holds are one
abbrev pub AtMostOne : {A : Type 0} → (A → Type 0) → Type 0
AtMostOne {A} Holds = (one other : A) → Holds one → Holds other → one ≡ other

text_once : (net : Name) (text : Result Name AskFault) → IsNetName net → AtMostOne (ReadsText net text)
text_once net (Err why) is_net = λ one other h k. h ∙ sym k
text_once net (Ok text) is_net = by
  where
    by : AtMostOne (ReadsText net (Ok text))
    by (Ok one) (Ok other) h k = ap Ok (one_entity net text one other is_net h k)
    by (Ok one) (Err why) h k = absurd (k.0 one h)
    by (Err why) (Ok other) h k = absurd (h.0 other k)
    by (Err why) (Err also) h k = ap Err (h.1 ∙ sym k.1)

goes_once : (first : Result Entity AskFault) (Rest : ListRead → Type 0) → AtMostOne Rest → AtMostOne (GoesOn first Rest)
goes_once (Err why) Rest rest = λ one other h k. h ∙ sym k
goes_once (Ok entity) Rest rest = λ one other h k.
    h.2 ∙ ap (λ (read : ListRead). read >>= λ entities. Ok (entity ∷ entities)) (rest h.0 k.0 h.1 k.1) ∙ sym k.2

entities_once : (net : Name) (items : Items) → IsNetName net → AtMostOne (ReadsEntities net items)
entities_once net no_items is_net = λ one other h k. h ∙ sym k
entities_once net (item value items) is_net = λ one other h k.
    let first : h.0 ≡ k.0 = text_once net (text_in entities_field (as_str value)) is_net h.0 k.0 h.1 k.1 in
    goes_once k.0 (ReadsEntities net items) (entities_once net items is_net) one other
    (subst (λ (read : Result Entity AskFault). GoesOn read (ReadsEntities net items) one) first h.2) k.2

list_once : (net : Name) (items : Result Items AskFault) → IsNetName net → AtMostOne (ReadsList net items)
list_once net (Err why) is_net = λ one other h k. h ∙ sym k
list_once net (Ok items) is_net = entities_once net items is_net

pub prop_ask_once : (net : Name) (ask : Data) → IsNetName net → AtMostOne (ReadsPropAsk net ask)
prop_ask_once net ask is_net = λ one other h k.
    h.whole
    ∙ ap (λ (read : ListRead). read >>= λ some. names_asked ask >>= λ names. Ok (asked some names))
    (list_once net (required_items entities_field ask) is_net h.entities k.entities h.listed k.listed)
    ∙ sym k.whole

declared_is_name : (rows : Rows) (text : List ℕ) (read : Result (List ℕ) NameFault) → named is_net_byte 24 text ≡ read
    → IfSome (declared_net rows read) IsNetName
declared_is_name rows text (Err fault) e = tt
declared_is_name rows text (Ok net) e = by (has_row rows (key.Net net))
  where
    is_net : IsNetName net
    is_net = subst (λ (t : List ℕ). named is_net_byte 24 t ≡ Ok net) (sym (named_is is_net_byte 24 text net e)) e

    by : (b : Bool) → IfSome (if b then Some net else None) IsNetName
    by true = is_net
    by false = tt

-- the declared network that a text names has a name of a network
pub net_named_is_name : (rows : Rows) (text : List ℕ) → IfSome (net_named rows text) IsNetName
net_named_is_name rows text = declared_is_name rows text (named is_net_byte 24 text) refl
