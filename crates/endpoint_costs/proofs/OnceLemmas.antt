-- The body of a request is read in one way.
use Rattle.std.proofs.Common.{◌≡◌, ℕ, ap, sym, ◌∙◌, subst, drop}
use Rattle.std.specs.Prelude.{List, [], ◌∷◌, ◌++◌, Option, Result, Ok, Err, codes}
use Rattle.serde_json.specs.Data.{Data, Items, no_items, item}
use Rattle.serde_json.specs.Find.{as_str, get}
use Rattle.alto_addr.specs.declared.addr.Addr.{Addr}
use Rattle.alto_addr.specs.declared.addr.Addr.TheVariants.{V4, V6}
use Rattle.alto_addr.specs.Text.{IsAddrText}
use Rattle.alto_addr.proofs.Written.{one_address}
use Rattle.alto_asks.specs.Asks.{text_in}
use Rattle.alto_asks.specs.declared.fault.AskFault.{AskFault}
use Rattle.alto_rows.specs.Entities.{WritesTypedAddr, type_tag}
use Rattle.alto_maps.specs.Shape.{Name}
use Rattle.cost_filters.specs.Constraints.{asked_tests}
use Rattle.cost_filters.specs.Fields.{items_at, nested}
use Rattle.cost_filters.specs.Types.{asked_types}
use Rattle.endpoint_costs.specs.Ask.{ReadsAddr, ReadsAddrs, ReadsEnds, ReadsMember, ReadsText, ends_field, if_any}
use Rattle.endpoint_costs.specs.Ask.{object_at}
use Rattle.endpoint_costs.specs.Laws.{AsksOnce}
use Rattle.endpoint_costs.specs.Reading.{Reading, Gives, ◌>>◌, goes, fails}

-- two outcomes of a reading are one
abbrev AtMostOne : {A : Type 0} → Reading A → Type 0
AtMostOne {A} Reads = (one other : Result A AskFault) → Reads one → Reads other → one ≡ other

gives_once : {A : Type 0} (read : Result A AskFault) → AtMostOne (Gives read)
gives_once read one other h k = sym h ∙ k

then_once : {A B : Type 0} (First : Reading A) (Rest : A → Reading B) → AtMostOne First
    → ((value : A) → AtMostOne (Rest value)) → AtMostOne (First >> Rest)
then_once First Rest first rest one other (goes value f r) (goes also g s) =
    let same : Ok value ≡ Ok also = first (Ok value) (Ok also) f g in
    let values : value ≡ also = cc in
    rest also one other (subst (λ v. Rest v one) values r) s
then_once First Rest first rest one other (goes value f r) (fails why g e) =
    let no_way : Ok value ≡ Err why = first (Ok value) (Err why) f g in cc
then_once First Rest first rest one other (fails why f e) (goes value g r) =
    let no_way : Err why ≡ Ok value = first (Err why) (Ok value) f g in cc
then_once First Rest first rest one other (fails why f e) (fails also g d) =
    let same : Err why ≡ Err also = first (Err why) (Err also) f g in
    let faults : why ≡ also = cc in
    e ∙ (ap Err faults ∙ sym d)

-- what is written behind a type stands behind five bytes
behind : (text written : List ℕ) (addr : Addr) → text ≡ type_tag addr ++ written → written ≡ drop 5 text
behind text written (V4 number) e = sym (ap (drop 5) e)
behind text written (V6 number) e = sym (ap (drop 5) e)

-- a text writes one typed address at most
pub one_typed_addr : (text : List ℕ) (one other : Addr) → WritesTypedAddr text one
    → WritesTypedAddr text other → one ≡ other
one_typed_addr text one other h k =
    one_address (drop 5 text) one other (subst (λ t. IsAddrText t one) (behind text h.0 one h.1) h.2)
    (subst (λ t. IsAddrText t other) (behind text k.0 other k.1) k.2)

text_once : (field text : Name) → AtMostOne (ReadsText field text)
text_once field text (Ok one) (Ok other) h k = ap Ok (one_typed_addr text one other h k)
text_once field text (Ok one) (Err why) h k = absurd (k.0 one h)
text_once field text (Err why) (Ok other) h k = absurd (h.0 other k)
text_once field text (Err why) (Err also) h k = ap Err (h.1 ∙ sym k.1)

addr_once : (field : Name) (value : Data) → AtMostOne (ReadsAddr field value)
addr_once field value = then_once _ _ (gives_once (text_in field (as_str value))) (λ text. text_once field text)

addrs_once : (field : Name) (items : Items) → AtMostOne (ReadsAddrs field items)
addrs_once field no_items = gives_once (Ok [])
addrs_once field (item value items) =
    then_once _ _ (addr_once field value)
    (λ addr. then_once _ _ (addrs_once field items) (λ addrs. gives_once (Ok (addr ∷ addrs))))

member_once : (name : Name) (ends : Data) → AtMostOne (ReadsMember name ends)
member_once name ends =
    then_once _ _ (gives_once (items_at ends_field name ends))
    (λ items. then_once _ _ (addrs_once (nested ends_field name) items) (λ addrs. gives_once (Ok (if_any addrs))))

ends_once : (found : Option Data) → AtMostOne (ReadsEnds found)
ends_once found =
    then_once _ _ (gives_once (object_at found))
    (λ ends. then_once _ _ (member_once (codes "srcs") ends)
    (λ srcs. then_once _ _ (member_once (codes "dsts") ends) (λ dsts. gives_once (Ok _))))

pub asks_once : AsksOnce
asks_once rows net ask =
    then_once _ _ (gives_once (asked_types rows net ask))
    (λ asked. then_once _ _ (gives_once (asked_tests rows net asked.types ask))
    (λ tests. then_once _ _ (ends_once (get ends_field ask)) (λ ends. gives_once (Ok _))))
