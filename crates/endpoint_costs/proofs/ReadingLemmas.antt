-- What is read one after another is read in one way, and items are read from the first to the last.
use Rattle.std.proofs.Common.{◌≡◌, ℕ, refl, ap, sym, ◌∙◌, ◌+◌, ◌<◌, length, get_or, drop, drop-cons, add-one, subst}
use Rattle.std.proofs.Common.{append_assoc, append-nil}
use Rattle.std.specs.Prelude.{◌↔◌, suc, List, [], ◌∷◌, ◌++◌, Option, Some, None, Result, Ok, Err}
use Rattle.json_tree.specs.declared.tree.Tree.{Tree}
use Rattle.json_tree.specs.Tree.{data_of, items_data}
use Rattle.serde_json.specs.Data.{Data, Items, item}
use Rattle.serde_json.specs.Find.{get}
use Rattle.alto_addr.specs.declared.addr.Addr.{Addr}
use Rattle.alto_asks.specs.Asks.{◌>>=◌}
use Rattle.alto_asks.specs.declared.fault.AskFault.{AskFault}
use Rattle.alto_rows.specs.Entities.{WritesTypedAddr}
use Rattle.alto_rows.specs.Rows.{Rows}
use Rattle.alto_maps.specs.Shape.{Name}
use Rattle.endpoint_costs.specs.Reading.{goes, fails}
use Rattle.cost_filters.specs.declared.types.CostType.{CostType}
use Rattle.cost_filters.specs.Constraints.{TestsData, asked_tests}
use Rattle.cost_filters.specs.Fields.{items_at, nested}
use Rattle.cost_filters.specs.Types.{AskedTypesData, asked_types}
use Rattle.endpoint_costs.specs.Ask.{EndAskData, EndsData, ReadsAddr, ReadsAddrs, ReadsEndAsk, ReadsEnds, ReadsMember}
use Rattle.endpoint_costs.specs.Ask.{asked_by, ends_field, if_any}

-- ---- items

-- whatever the items from a place on are read as, all are read as these addresses and that
abbrev pub ReadSoFar : Name → List Tree → ℕ → List Addr → Type 0
ReadSoFar field items i addrs =
    (rest : Result (List Addr) AskFault) → ReadsAddrs field (items_data (drop i items)) rest
    → ReadsAddrs field (items_data items) (rest >>= λ more. Ok (addrs ++ more))

-- an address before the rest, behind those so far
joined : (rest : Result (List Addr) AskFault) (addrs : List Addr) (addr : Addr)
    → ((rest >>= λ more. Ok (addr ∷ more)) >>= λ more. Ok (addrs ++ more))
    ≡ (rest >>= λ more. Ok ((addrs ++ addr ∷ []) ++ more))
joined (Ok more) addrs addr = ap (λ (all : List Addr). Ok all) (sym (append_assoc addrs (addr ∷ []) more))
joined (Err why) addrs addr = refl

-- an item before others
item_first : (field : Name) (value : Data) (items : Items) (addr : Addr) (rest : Result (List Addr) AskFault)
    → ReadsAddr field value (Ok addr) → ReadsAddrs field items rest
    → ReadsAddrs field (item value items) (rest >>= λ more. Ok (addr ∷ more))
item_first field value items addr (Ok more) h k = goes addr h (goes more k refl)
item_first field value items addr (Err why) h k = goes addr h (fails why k refl)

-- an item that is an address
pub read_more : (field : Name) (items : List Tree) (i : ℕ) (tree : Tree) (addrs later : List Addr) (addr : Addr)
    → i < length items → tree ≡ get_or items i tree → later ≡ addrs ++ addr ∷ []
    → ReadsAddr field (data_of tree) (Ok addr) → ReadSoFar field items i addrs → ReadSoFar field items (i + 1) later
read_more field items i tree addrs later addr within is pushed reads so_far rest h =
    subst (λ all. ReadsAddrs field (items_data items) all) (joined rest addrs addr
    ∙ ap (λ all. rest >>= λ more. Ok (all ++ more)) (sym pushed))
    (so_far (rest >>= λ more. Ok (addr ∷ more))
    (rw (drop-cons items i tree within, ← is) (item_first field (data_of tree) (items_data (drop (suc i) items)) addr
    rest reads (rw (add-one i) at h))))

-- an item that is none
pub read_fault : (field : Name) (items : List Tree) (i : ℕ) (tree : Tree) (addrs : List Addr) (why : AskFault)
    → i < length items → tree ≡ get_or items i tree
    → ReadsAddr field (data_of tree) (Err why) → ReadSoFar field items i addrs
    → ReadsAddrs field (items_data items) (Err why)
read_fault field items i tree addrs why within is reads so_far =
    so_far (Err why) (rw (drop-cons items i tree within, ← is) (fails why reads refl))

-- no item is left
pub read_all : (field : Name) (items : List Tree) (i : ℕ) (addrs : List Addr) → drop i items ≡ []
    → ReadSoFar field items i addrs → ReadsAddrs field (items_data items) (Ok addrs)
read_all field items i addrs none so_far =
    subst (λ all. ReadsAddrs field (items_data items) (Ok all)) (append-nil addrs) (so_far (Ok []) (rw none refl))

-- ---- a text

-- what is read of a text, as bytes, is what it writes
pub text_writes : (text bytes : List ℕ) (read : Option Addr) (addr : Addr) → bytes ≡ text
    → ((addr : Addr) → WritesTypedAddr bytes addr ↔ (read ≡ Some addr)) → read ≡ Some addr
    → WritesTypedAddr text addr
text_writes text bytes read addr is told found = subst (λ t. WritesTypedAddr t addr) is ((told addr).1 found)

-- and where nothing is, it writes nothing
pub text_writes_none : (text bytes : List ℕ) (read : Option Addr) → bytes ≡ text
    → ((addr : Addr) → WritesTypedAddr bytes addr ↔ (read ≡ Some addr)) → read ≡ None
    → (addr : Addr) → ¬ (WritesTypedAddr text addr)
text_writes_none text bytes read is told none addr writes =
    let some : read ≡ Some addr = (told addr).0 (subst (λ t. WritesTypedAddr t addr) (sym is) writes) in
    let no_way : None ≡ Some addr = sym none ∙ some in
    cc

-- ---- a member of the object

-- a member without a fault, as its addresses
pub member_reads : (name path : Name) (ends : Data) (items : Items) (addrs : List Addr) (found : Option (List Addr))
    → items_at ends_field name ends ≡ Ok items
    → path ≡ nested ends_field name → ReadsAddrs path items (Ok addrs) → found ≡ if_any addrs
    → ReadsMember name ends (Ok found)
member_reads name path ends items addrs found listed is reads made =
    goes items listed (goes addrs (subst (λ p. ReadsAddrs p items (Ok addrs)) is reads) (ap Ok (sym made)))

-- one whose items have a fault
pub member_fails : (name path : Name) (ends : Data) (items : Items) (why : AskFault)
    → items_at ends_field name ends ≡ Ok items → path ≡ nested ends_field name
    → ReadsAddrs path items (Err why) → ReadsMember name ends (Err why)
member_fails name path ends items why listed is reads =
    goes items listed (fails why (subst (λ p. ReadsAddrs p items (Err why)) is reads) refl)

-- ---- a whole body

-- one whose tests have a fault
pub tests_fail : (rows : Rows) (net : Name) (ask : Data) (asked : AskedTypesData) (types : List CostType)
    (why : AskFault) → asked_types rows net ask ≡ Ok asked → types ≡ asked.types
    → asked_tests rows net types ask ≡ Err why → ReadsEndAsk rows net ask (Err why)
tests_fail rows net ask asked types why named is fault =
    goes asked named (fails why (subst (λ t. asked_tests rows net t ask ≡ Err why) is fault) refl)

-- one whose ends have a fault
pub ends_fail : (rows : Rows) (net : Name) (ask : Data) (asked : AskedTypesData) (types : List CostType)
    (tests : TestsData) (why : AskFault) → asked_types rows net ask ≡ Ok asked
    → types ≡ asked.types → asked_tests rows net types ask ≡ Ok tests → ReadsEnds (get ends_field ask) (Err why)
    → ReadsEndAsk rows net ask (Err why)
ends_fail rows net ask asked types tests why named is tested fault =
    goes asked named (goes tests (subst (λ t. asked_tests rows net t ask ≡ Ok tests) is tested) (fails why fault refl))

-- one without a fault
pub ask_reads : (rows : Rows) (net : Name) (ask : Data) (asked : AskedTypesData) (types : List CostType)
    (tests : TestsData) (ends : EndsData) (read : EndAskData)
    → asked_types rows net ask ≡ Ok asked → types ≡ asked.types → asked_tests rows net types ask ≡ Ok tests
    → ReadsEnds (get ends_field ask) (Ok ends) → asked_by asked tests ends ≡ read
    → ReadsEndAsk rows net ask (Ok read)
ask_reads rows net ask asked types tests ends read named is tested given made =
    goes asked named (goes tests (subst (λ t. asked_tests rows net t ask ≡ Ok tests) is tested)
    (goes ends given (ap Ok made)))
