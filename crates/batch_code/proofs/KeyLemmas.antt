-- The grammar of keys.
use Rattle.std.proofs.Common.{◌≡◌, ℕ, suc, ◌≤◌, inl, inr, Bool, List, [], ◌∷◌, ◌++◌, length, Some, Ok, refl, sym, ap}
use Rattle.std.proofs.Common.{subst, ◌∙◌, arith}
use Rattle.alto_addr.specs.declared.addr.Addr.{Addr}
use Rattle.alto_addr.specs.declared.addr.Addr.TheVariants.{V4, V6}
use Rattle.alto_addr.specs.Order.{family_of}
use Rattle.alto_names.specs.Name.{named, is_net_byte, is_pid_byte, is_metric_byte, is_import_byte}
use Rattle.alto_rows.specs.Good.{IsEntity}
use Rattle.alto_rows.specs.declared.entity.Entity.{Entity}
use Rattle.alto_rows.specs.declared.entity.Entity.TheVariants as entity
use Rattle.batch_code.specs.Spelling.{entity_bytes}
use Rattle.code_bytes.specs.declared.stop.Stop.{Stop}
use Rattle.code_bytes.specs.declared.stop.Stop.TheVariants as stop
use Rattle.code_bytes.specs.Stuck.{left_at, IsStuck, Stops, Headed, Pair}
use Rattle.code_bytes.specs.Pieces.{Names, Prefixes, name}
use Rattle.code_bytes.proofs.OnceLemmas.{head_is}
use Rattle.code_bytes.proofs.StuckLemmas.{IsFree, headed_free, headed_on_stops, other_head, stuck_within, stops_same}
use Rattle.code_bytes.proofs.GrammarLemmas.{IsGrammar, names_grammar, pair_grammar, prefixes_grammar, tagged_bad}
use Rattle.code_bytes.proofs.GrammarLemmas.{tagged_free, tagged_none, tagged_on}
use Rattle.batch_code.specs.Grammar.{NetNames, PidNames, MetricNames, PropNames, AneNames, PidEntity, Entities}
use Rattle.batch_code.specs.Grammar.{resource_number, ResourceNames, Resources, Fields}
use Rattle.batch_code.specs.declared.kinds.KeyKind.{KeyKind}
use Rattle.batch_code.specs.declared.kinds.KeyKind.TheVariants as kind
use Rattle.batch_code.specs.declared.kinds.ResourceKind.{ResourceKind}
use Rattle.batch_code.specs.declared.kinds.ResourceKind.TheVariants as of

-- ---- names

pub net_grammar : IsGrammar NetNames
net_grammar = names_grammar is_net_byte 24 45 refl (omega arith)

pub pid_grammar : IsGrammar PidNames
pid_grammar = names_grammar is_pid_byte 64 45 refl (omega arith)

pub metric_grammar : IsGrammar MetricNames
metric_grammar = names_grammar is_metric_byte 32 45 refl (omega arith)

pub ane_grammar : IsGrammar AneNames
ane_grammar = names_grammar is_pid_byte 32 45 refl (omega arith)

pub import_grammar : IsGrammar (Names is_import_byte 64)
import_grammar = names_grammar is_import_byte 64 33 refl (omega arith)

pub is_text : (alphabet : ℕ → Bool) (longest : ℕ) (value : List ℕ) → named alphabet longest value ≡ Ok value
    → Names alphabet longest (name value)
is_text alphabet longest value e = record { value = value; is_name = e; spelled = refl }

pub are_texts : (First Second : List ℕ → Type 0) (a b : List ℕ) → First a → Second b → Pair First Second (a ++ b)
are_texts First Second a b one other = record { front = a; back = b; split = refl; first = one; second = other }

-- ---- entities

pid_headed_free : IsFree (Headed PidEntity)
pid_headed_free = headed_free PidEntity (λ byte a b r s one other e. pid_grammar.free a b r s one.1 other.1 e)

no_block : (addr : Addr) → 0x50 ≡ family_of addr → ⊥
no_block (V4 n) e = absurd cc
no_block (V6 n) e = absurd cc

apart : (a b r s : List ℕ) → Prefixes a → Headed PidEntity b → a ++ r ≡ b ++ s → ⊥
apart a b r s one other e =
    no_block one.value.addr (sym other.second.0
    ∙ sym (head_is _ _ _ _ (ap (λ t. t ++ r) (sym one.spelled) ∙ e ∙ ap (λ t. t ++ s) other.split)))

entities_free : IsFree Entities
entities_free a b r s (inl one) (inl other) e = prefixes_grammar.free a b r s one other e
entities_free a b r s (inl one) (inr other) e = absurd (apart a b r s one other e)
entities_free a b r s (inr one) (inl other) e = absurd (apart b a s r other one (sym e))
entities_free a b r s (inr one) (inr other) e = pid_headed_free a b r s one other e

pub entities_grammar : IsGrammar Entities
entities_grammar = record { free = entities_free; text = prefixes_grammar.text; some = inl prefixes_grammar.some }

least_block : (bytes : List ℕ) (left : ℕ) → ((rest : List ℕ) → bytes ≡ 0x50 ∷ rest → ⊥) → IsStuck Prefixes bytes left
    → (other : List ℕ) → Entities other
    → (more : ℕ) × (left_at other bytes ≡ Some more) × (left ≤ more)
least_block bytes left not s other (inl is) = s.least other is
least_block [] left not s other (inr is) = (0, ap (λ t. left_at t []) is.split, stuck_within Prefixes [] left s)
least_block (b ∷ rest) left not s other (inr is) = (
  suc (length rest),
  ap (λ t. left_at t (b ∷ rest)) is.split
      ∙ other_head is.byte b is.back rest (λ same. not rest (ap (λ x. x ∷ rest) (sym same ∙ is.second.0))),
  stuck_within Prefixes (b ∷ rest) left s,
)

pub block_stops : (bytes : List ℕ) (why : Stop) → ((rest : List ℕ) → bytes ≡ 0x50 ∷ rest → ⊥) → Stops Prefixes bytes why
    → Stops Entities bytes why
block_stops bytes (stop.Left left) not s =
    record { text = s.text; is_text = inl s.is_text; parts = s.parts; least = least_block bytes left not s }
block_stops bytes stop.Memory not s = tt

to_pid : (rest text : List ℕ) → PidNames text → PidEntity 0x50 text
to_pid rest text is = (refl, is)

least_pid : (rest : List ℕ) (left : ℕ) → IsStuck (Headed PidEntity) (0x50 ∷ rest) left → (other : List ℕ)
    → Entities other
    → (more : ℕ) × (left_at other (0x50 ∷ rest) ≡ Some more) × (left ≤ more)
least_pid rest left s other (inr is) = s.least other is
least_pid rest left s other (inl is) = (
  suc (length rest),
  ap (λ t. left_at t (0x50 ∷ rest)) is.spelled
      ∙ other_head (family_of is.value.addr) 0x50 _ rest (λ same. no_block is.value.addr (sym same)),
  stuck_within (Headed PidEntity) (0x50 ∷ rest) left s,
)

pid_headed : (rest : List ℕ) (why : Stop) → Stops (Headed PidEntity) (0x50 ∷ rest) why
    → Stops Entities (0x50 ∷ rest) why
pid_headed rest (stop.Left left) s =
    record { text = s.text; is_text = inr s.is_text; parts = s.parts; least = least_pid rest left s }
pid_headed rest stop.Memory s = tt

pub pid_stops : (bytes rest : List ℕ) (why : Stop) → bytes ≡ 0x50 ∷ rest → Stops PidNames rest why
    → Stops Entities bytes why
pid_stops bytes rest why head s =
    subst (λ b. Stops Entities b why) (sym head)
    (pid_headed rest why (headed_on_stops PidEntity 0x50 rest
    why (stops_same PidNames (PidEntity 0x50) rest why (to_pid rest) (λ text is. is.1) s)))

-- ---- resources

pub resource_once : (a b : ResourceKind) → resource_number a ≡ resource_number b → a ≡ b
resource_once of.Net of.Net e = refl
resource_once of.Cost of.Cost e = refl
resource_once of.Prop of.Prop e = refl
resource_once _ _ e = absurd cc

names_of_grammar : (at : ResourceKind) → IsGrammar (ResourceNames at)
names_of_grammar of.Net = net_grammar
names_of_grammar of.Cost = pair_grammar NetNames MetricNames net_grammar metric_grammar
names_of_grammar of.Prop = net_grammar

pub some_resource : Resources (1 ∷ net_grammar.text)
some_resource = record { tag = of.Net; back = net_grammar.text; split = refl; second = net_grammar.some }

pub resources_grammar : IsGrammar Resources
resources_grammar = record {
  free = tagged_free resource_number ResourceNames resource_once (λ at. (names_of_grammar at).free);
  text = 1 ∷ net_grammar.text;
  some = some_resource;
}

pub resource_none : (bytes : List ℕ) → bytes ≡ [] → IsStuck Resources bytes 0
resource_none bytes nil = tagged_none resource_number ResourceNames bytes _ some_resource nil

pub resource_bad : (byte : ℕ) (bytes rest : List ℕ) → bytes ≡ byte ∷ rest
    → ((at : ResourceKind) → byte ≡ resource_number at → ⊥) → IsStuck Resources bytes (length bytes)
resource_bad byte bytes rest head not = tagged_bad resource_number ResourceNames byte bytes rest _ some_resource
    head (λ tag back e is. not tag e)

pub resource_on : (at : ResourceKind) (byte : ℕ) (bytes rest : List ℕ) (why : Stop) → bytes ≡ byte ∷ rest
    → byte ≡ resource_number at → Stops (ResourceNames at) rest why
    → Stops Resources bytes why
resource_on at byte bytes rest why head e s =
    tagged_on resource_number ResourceNames at byte bytes rest why resource_once head e s

-- ---- fields

pub fields_grammar : (at : KeyKind) → IsGrammar (Fields at)
fields_grammar kind.Net = net_grammar
fields_grammar kind.Pid = pair_grammar NetNames PidNames net_grammar pid_grammar
fields_grammar kind.Prefix = pair_grammar (Pair NetNames PidNames)
    Prefixes (pair_grammar NetNames PidNames net_grammar pid_grammar) prefixes_grammar
fields_grammar kind.Metric = pair_grammar NetNames MetricNames net_grammar metric_grammar
fields_grammar kind.Cost =
    pair_grammar (Pair NetNames MetricNames) (Pair PidNames PidNames)
    (pair_grammar NetNames MetricNames net_grammar metric_grammar)
    (pair_grammar PidNames PidNames pid_grammar pid_grammar)
fields_grammar kind.Prop =
    pair_grammar NetNames (Pair Entities PropNames)
    net_grammar (pair_grammar Entities PropNames entities_grammar metric_grammar)
fields_grammar kind.Ane = pair_grammar NetNames AneNames net_grammar ane_grammar
fields_grammar kind.AneProp =
    pair_grammar (Pair NetNames AneNames) PropNames (pair_grammar NetNames AneNames net_grammar ane_grammar)
    metric_grammar
fields_grammar kind.Path = pair_grammar NetNames (Pair PidNames PidNames)
    net_grammar (pair_grammar PidNames PidNames pid_grammar pid_grammar)
fields_grammar kind.Seq = resources_grammar

-- what a known entity writes
pub is_entity : (value : Entity) → IsEntity value → Entities (entity_bytes value)
is_entity (entity.Block block) bits = inl (record { value = block; has_bits = bits; spelled = refl })
is_entity (entity.Pid pid) is =
    inr (record { byte = 0x50; back = name pid; split = refl; second = (refl, is_text is_pid_byte 64 pid is) })
