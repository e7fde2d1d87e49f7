-- Values with one spelling are one value.
use Rattle.std.proofs.Common.{◌≡◌, ℕ, ◌-◌, ◌^◌, ◌≤◌, List, [], ◌∷◌, ◌++◌, length, Option, Some, None, refl, sym, ap}
use Rattle.std.proofs.Common.{◌∙◌, append_assoc, append-nil, arith}
use Rattle.std.specs.Prelude.{⊤}
use Rattle.std.specs.List.{AllByRecursion, flat_map}
use Rattle.std.proofs.lemmas.List.Elements.{recursion_from_All}
use Rattle.alto_addr.specs.declared.addr.Addr.{Addr}
use Rattle.alto_addr.specs.declared.addr.Addr.TheVariants.{V4, V6}
use Rattle.alto_addr.specs.Order.{family_of}
use Rattle.alto_rows.specs.Accepted.{Accepted}
use Rattle.alto_rows.specs.Good.{IsEntity, IsKey}
use Rattle.alto_rows.specs.Order.{kind_of}
use Rattle.alto_rows.specs.declared.entity.Entity.{Entity}
use Rattle.alto_rows.specs.declared.entity.Entity.TheVariants as entity
use Rattle.alto_rows.specs.declared.key.Key.{Key}
use Rattle.alto_rows.specs.declared.key.Key.TheVariants as key
use Rattle.alto_rows.specs.declared.resource.Resource.{Resource}
use Rattle.alto_rows.specs.declared.resource.Resource.TheVariants as resource
use Rattle.alto_rows.specs.declared.value.Value.{Value}
use Rattle.alto_rows.specs.declared.value.Value.TheVariants as value
use Rattle.alto_rows.specs.declared.write.Write.{Write}
use Rattle.code_bytes.specs.Pieces.{name, number, prefix}
use Rattle.code_bytes.proofs.OnceLemmas.{append_once, head_is, name_apart, names_apart, number_apart, prefix_apart}
use Rattle.code_bytes.proofs.OnceLemmas.{tail_is}
use Rattle.batch_code.specs.Faults.{IsBatch, IsFaultOf, IsRowZero}
use Rattle.batch_code.specs.declared.fault.CodeFault.{CodeFault}
use Rattle.batch_code.specs.declared.fault.CodeFault.TheVariants as fault
use Rattle.batch_code.specs.Spelling.{batch_bytes, entity_bytes, fields, head_bytes, resource_bytes, value_bytes}
use Rattle.batch_code.specs.Spelling.{write_bytes}
use Rattle.batch_code.specs.Storable.{IsHead, IsStorable, IsStored}
use Rattle.batch_code.specs.Values.{IsValueOf, shape_at}
use Rattle.batch_code.specs.declared.kinds.Shape.{Shape}
use Rattle.batch_code.proofs.ValueLemmas.{fits_eight}
use Rattle.batch_code.proofs.WriteLemmas.{lists, nums, takes_same, texts}

-- ---- keys

no_pid : (addr : Addr) (r s : List ℕ) → family_of addr ∷ r ≡ 0x50 ∷ s → ⊥
no_pid (V4 n) r s e = absurd cc
no_pid (V6 n) r s e = absurd cc

entity_apart : (a b : Entity) (r s : List ℕ) → IsEntity a → IsEntity b → entity_bytes a ++ r ≡ entity_bytes b ++ s
    → (a ≡ b) × (r ≡ s)
entity_apart (entity.Block p) (entity.Block q) r s one other e =
    let both = prefix_apart p q r s one other e in
    (ap entity.Block both.0, both.1)
entity_apart (entity.Block p) (entity.Pid b) r s one other e = absurd (no_pid p.addr _ _ e)
entity_apart (entity.Pid a) (entity.Block q) r s one other e = absurd (no_pid q.addr _ _ (sym e))
entity_apart (entity.Pid a) (entity.Pid b) r s one other e =
    let both = name_apart a b r s (tail_is _ _ _ _ e) in
    (ap entity.Pid both.0, both.1)

resource_apart : (a b : Resource) (r s : List ℕ) → resource_bytes a ++ r ≡ resource_bytes b ++ s → (a ≡ b) × (r ≡ s)
resource_apart (resource.Net n) (resource.Net m) r s e =
    let both = name_apart n m r s (tail_is _ _ _ _ e) in
    (ap resource.Net both.0, both.1)
resource_apart (resource.Prop n) (resource.Prop m) r s e =
    let both = name_apart n m r s (tail_is _ _ _ _ e) in
    (ap resource.Prop both.0, both.1)
resource_apart (resource.Cost n a) (resource.Cost m b) r s e =
    let both = names_apart n a m b r s (tail_is _ _ _ _ e) in
    ((λ i. resource.Cost (both.0 i) (both.1 i)), both.2)
resource_apart _ _ r s e = absurd cc

fields_apart : (a b : Key) (r s : List ℕ) → kind_of a ≡ kind_of b → 3 ≤ kind_of a → IsKey a → IsKey b
    → fields a ++ r ≡ fields b ++ s
    → (a ≡ b) × (r ≡ s)
fields_apart key.Epoch b r s same le one other e = absurd (omega (arith, le))
fields_apart key.Window b r s same le one other e = absurd (omega (arith, le))
fields_apart (key.Net n) (key.Net m) r s same le one other e =
    let both = name_apart n m r s e in
    (ap key.Net both.0, both.1)
fields_apart (key.Pid n a) (key.Pid m b) r s same le one other e =
    let both = names_apart n a m b r s e in
    ((λ i. key.Pid (both.0 i) (both.1 i)), both.2)
fields_apart (key.Prefix n a p) (key.Prefix m b q) r s same le one other e =
    let names = names_apart n a m b (prefix p ++ r) (prefix q ++ s)
    (sym (append_assoc (name n ++ name a) (prefix p) r) ∙ e ∙ append_assoc (name m ++ name b) (prefix q) s) in
    let both = prefix_apart p q r s one.2 other.2 names.2 in
    ((λ i. key.Prefix (names.0 i) (names.1 i) (both.0 i)), both.1)
fields_apart (key.Metric n a) (key.Metric m b) r s same le one other e =
    let both = names_apart n a m b r s e in
    ((λ i. key.Metric (both.0 i) (both.1 i)), both.2)
fields_apart (key.Cost n a from to) (key.Cost m b from2 to2) r s same le one other e =
    let names = names_apart n a m b ((name from ++ name to) ++ r) ((name from2 ++ name to2) ++ s)
    (sym (append_assoc (name n ++ name a) (name from ++ name to) r) ∙ e
    ∙ append_assoc (name m ++ name b) (name from2 ++ name to2) s) in
    let ends = names_apart from to from2 to2 r s names.2 in
    ((λ i. key.Cost (names.0 i) (names.1 i) (ends.0 i) (ends.1 i)), ends.2)
fields_apart (key.Prop n x a) (key.Prop m y b) r s same le one other e =
    let net = name_apart n m ((entity_bytes x ++ name a) ++ r) ((entity_bytes y ++ name b) ++ s)
    (sym (append_assoc (name n) (entity_bytes x ++ name a) r) ∙ e
    ∙ append_assoc (name m) (entity_bytes y ++ name b) s) in
    let of = entity_apart x y (name a ++ r) (name b ++ s) one.1 other.1
    (sym (append_assoc (entity_bytes x) (name a) r) ∙ net.1 ∙ append_assoc (entity_bytes y) (name b) s) in
    let last = name_apart a b r s of.1 in
    ((λ i. key.Prop (net.0 i) (of.0 i) (last.0 i)), last.1)
fields_apart (key.Ane n a) (key.Ane m b) r s same le one other e =
    let both = names_apart n a m b r s e in
    ((λ i. key.Ane (both.0 i) (both.1 i)), both.2)
fields_apart (key.AneProp n a x) (key.AneProp m b y) r s same le one other e =
    let names = names_apart n a m b (name x ++ r) (name y ++ s)
    (sym (append_assoc (name n ++ name a) (name x) r) ∙ e ∙ append_assoc (name m ++ name b) (name y) s) in
    let last = name_apart x y r s names.2 in
    ((λ i. key.AneProp (names.0 i) (names.1 i) (last.0 i)), last.1)
fields_apart (key.Path n from to) (key.Path m from2 to2) r s same le one other e =
    let net = name_apart n m ((name from ++ name to) ++ r) ((name from2 ++ name to2) ++ s)
    (sym (append_assoc (name n) (name from ++ name to) r) ∙ e ∙ append_assoc (name m) (name from2 ++ name to2) s) in
    let ends = names_apart from to from2 to2 r s net.1 in
    ((λ i. key.Path (net.0 i) (ends.0 i) (ends.1 i)), ends.2)
fields_apart (key.Seq x) (key.Seq y) r s same le one other e =
    let both = resource_apart x y r s e in
    (ap key.Seq both.0, both.1)
fields_apart _ _ r s same le one other e = absurd cc

-- ---- values

-- a value is as small as its bytes can say
abbrev IsSmall : Option Value → Type 0
IsSmall None = ⊤
IsSmall (Some value.Unit) = ⊤
IsSmall (Some (value.Num n)) = n ≤ 2 ^ 64 - 1
IsSmall (Some (value.Text text)) = length text ≤ 65535
IsSmall (Some (value.Names anes)) = length anes ≤ 64

small_of : (s : Shape) (v : Option Value) → IsValueOf s v → IsSmall v
small_of s None is = tt
small_of s (Some value.Unit) is = tt
small_of s (Some (value.Num n)) is = omega (arith, (nums s n is).2, fits_eight s)
small_of s (Some (value.Text text)) is = (texts s text is).2
small_of s (Some (value.Names anes)) is = (lists s anes is).3

flat_apart : (a b : List (List ℕ)) (r s : List ℕ) → length a ≡ length b → flat_map name a ++ r ≡ flat_map name b ++ s
    → (a ≡ b) × (r ≡ s)
flat_apart [] [] r s len e = (refl, e)
flat_apart [] (y ∷ b) r s len e = absurd (omega (arith, len))
flat_apart (x ∷ a) [] r s len e = absurd (omega (arith, len))
flat_apart (x ∷ a) (y ∷ b) r s len e =
    let first = name_apart x y (flat_map name a ++ r) (flat_map name b ++ s)
    (sym (append_assoc (name x) (flat_map name a) r) ∙ e ∙ append_assoc (name y) (flat_map name b) s) in
    let more = flat_apart a b r s (omega (arith, len)) first.1 in
    ((λ i. first.0 i ∷ more.0 i), more.1)

value_apart : (v w : Option Value) (r s : List ℕ) → IsSmall v → IsSmall w → value_bytes v ++ r ≡ value_bytes w ++ s
    → (v ≡ w) × (r ≡ s)
value_apart None None r s one other e = (refl, tail_is _ _ _ _ e)
value_apart None (Some value.Unit) r s one other e = absurd cc
value_apart None (Some (value.Num n)) r s one other e = absurd cc
value_apart None (Some (value.Text text)) r s one other e = absurd cc
value_apart None (Some (value.Names anes)) r s one other e = absurd cc
value_apart (Some value.Unit) (Some value.Unit) r s one other e = (refl, tail_is _ _ _ _ e)
value_apart (Some (value.Num n)) (Some (value.Num m)) r s one other e =
    let both = number_apart 8 (2 ^ 64 - 1) n m r s (omega arith) one other (tail_is _ _ _ _ e) in
    ((λ i. Some (value.Num (both.0 i))), both.1)
value_apart (Some (value.Text a)) (Some (value.Text b)) r s one other e =
    let size = number_apart 2 65535 (length a) (length b) (a ++ r) (b ++ s) (omega arith) one other
    (sym (append_assoc (number 2 (length a)) a r) ∙ tail_is _ _ _ _ e ∙ append_assoc (number 2 (length b)) b s) in
    let both = append_once a b r s size.0 size.1 in
    ((λ i. Some (value.Text (both.0 i))), both.1)
value_apart (Some (value.Names a)) (Some (value.Names b)) r s one other e =
    let size = number_apart 2 64 (length a) (length b) (flat_map name a ++ r) (flat_map name b ++ s)
    (omega arith) one other
    (sym (append_assoc (number 2 (length a)) (flat_map name a) r) ∙ tail_is _ _ _ _ e
    ∙ append_assoc (number 2 (length b)) (flat_map name b) s) in
    let both = flat_apart a b r s size.0 size.1 in
    ((λ i. Some (value.Names (both.0 i))), both.1)
value_apart _ _ r s one other e = absurd cc

-- ---- writes

small_in : (write : Write) → IsStored write → IsSmall write.value
small_in write is =
    small_of (shape_at write.key) write.value ((takes_same write.key write.value).1 is.takes is.stored)

pub write_apart : (one other : Write) (r s : List ℕ) → IsStored one → IsStored other
    → write_bytes one ++ r ≡ write_bytes other ++ s → (one ≡ other) × (r ≡ s)
write_apart one other r s is its e =
    let keys = fields_apart one.key other.key (value_bytes one.value ++ r) (value_bytes other.value ++ s)
    (head_is _ _ _ _ e) is.stored is.is_key its.is_key
    (sym (append_assoc (fields one.key) (value_bytes one.value) r) ∙ tail_is _ _ _ _ e
    ∙ append_assoc (fields other.key) (value_bytes other.value) s) in
    let values = value_apart one.value other.value r s (small_in one is) (small_in other its) keys.1 in
    ((λ i. record { key = keys.0 i; value = values.0 i }), values.1)

writes_once : (a b : List Write) → length a ≡ length b → AllByRecursion IsStored a → AllByRecursion IsStored b
    → flat_map write_bytes a ≡ flat_map write_bytes b → a ≡ b
writes_once [] [] len is its e = refl
writes_once [] (y ∷ b) len is its e = absurd (omega (arith, len))
writes_once (x ∷ a) [] len is its e = absurd (omega (arith, len))
writes_once (x ∷ a) (y ∷ b) len is its e =
    let first = write_apart x y (flat_map write_bytes a) (flat_map write_bytes b) is.0 its.0 e in
    let more = writes_once a b (omega (arith, len)) is.1 its.1 first.1 in
    (λ i. first.0 i ∷ more i)

-- ---- batches

pub batch_once : (one other : Accepted) → IsStorable one → IsStorable other
    → batch_bytes one ≡ batch_bytes other → one ≡ other
batch_once one other is its e =
    let ids = name_apart one.id other.id _ _ (tail_is _ _ _ _ (tail_is _ _ _ _ e)) in
    let digests = append_once one.digest other.digest _ _ (is.digest ∙ sym its.digest) ids.1 in
    let moments = number_apart 8 (2 ^ 64 - 1) one.moment other.moment _ _ (omega arith) (omega (arith, is.moment))
    (omega (arith, its.moment)) digests.1 in
    let sizes = number_apart 4 16384 (length one.writes) (length other.writes) _ _ (omega arith) is.few
    its.few moments.1 in
    let writes = writes_once one.writes other.writes sizes.0 (recursion_from_All IsStored one.writes is.writes)
    (recursion_from_All IsStored other.writes its.writes) sizes.1 in
    (λ i. record { id = ids.0 i; digest = digests.0 i; moment = moments.0 i; writes = writes i })

pub head_once : (epoch other : List ℕ) (window most : ℕ) → IsHead epoch window → IsHead other most
    → head_bytes epoch window ≡ head_bytes other most
    → (epoch ≡ other) × (window ≡ most)
head_once epoch other window most is its e =
    let epochs = name_apart epoch other (number 4 window) (number 4 most) (tail_is _ _ _ _ (tail_is _ _ _ _ e)) in
    let windows = number_apart 4 32 window most [] [] (omega arith) is.most its.most (append-nil (number 4 window)
    ∙ epochs.1 ∙ sym (append-nil (number 4 most))) in
    (epochs.0, windows.0)

-- ---- what was written is read again

pub not_refused : (batch : Accepted) (why : CodeFault) → IsStorable batch → IsFaultOf IsBatch (batch_bytes batch) why
    → why ≡ fault.Memory
not_refused batch (fault.BadAt place) is refused = absurd (refused.0 (batch, is, refl))
not_refused batch fault.Memory is refused = refl

pub head_not_refused : (epoch : List ℕ) (window : ℕ) (why : CodeFault) → IsHead epoch window
    → IsFaultOf IsRowZero (head_bytes epoch window) why → why ≡ fault.Memory
head_not_refused epoch window (fault.BadAt place) is refused = absurd (refused.0 (epoch, window, is, refl))
head_not_refused epoch window fault.Memory is refused = refl
