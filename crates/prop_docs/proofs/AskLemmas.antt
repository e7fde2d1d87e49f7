-- Items that are read one after another.
use Rattle.std.proofs.Common.{◌≡◌, ℕ, refl, ap, sym, ◌∙◌, ◌+◌, ◌<◌, length, get_or, drop, drop-cons, add-one, subst}
use Rattle.std.proofs.Common.{append_assoc, append-nil}
use Rattle.std.specs.Prelude.{List, [], ◌∷◌, ◌++◌, Result, Ok, Err}
use Rattle.serde_json.specs.Find.{as_str}
use Rattle.json_tree.specs.declared.tree.Tree.{Tree}
use Rattle.json_tree.specs.Tree.{data_of, items_data}
use Rattle.alto_asks.specs.Asks.{◌>>=◌, text_in}
use Rattle.alto_asks.specs.declared.fault.AskFault.{AskFault}
use Rattle.alto_rows.specs.declared.entity.Entity.{Entity}
use Rattle.alto_maps.specs.Shape.{Name}
use Rattle.prop_docs.specs.Ask.{ReadsEntities, ReadsText, entities_field}

-- whatever the items from a place on are read as, all are read as these entities and that
abbrev pub ReadSoFar : Name → List Tree → ℕ → List Entity → Type 0
ReadSoFar net items i entities =
    (rest : Result (List Entity) AskFault) → ReadsEntities net (items_data (drop i items)) rest
    → ReadsEntities net (items_data items) (rest >>= λ more. Ok (entities ++ more))

-- what an item is read as
abbrev pub ReadsItem : Name → Tree → Result Entity AskFault → Type 0
ReadsItem net item read = ReadsText net (text_in entities_field (as_str (data_of item))) read

-- an entity before the rest, behind those so far
joined : (rest : Result (List Entity) AskFault) (entities : List Entity) (entity : Entity)
    → ((rest >>= λ more. Ok (entity ∷ more)) >>= λ more. Ok (entities ++ more))
    ≡ (rest >>= λ more. Ok ((entities ++ entity ∷ []) ++ more))
joined (Ok more) entities entity = ap (λ (all : List Entity). Ok all) (sym (append_assoc entities (entity ∷ []) more))
joined (Err why) entities entity = refl

-- an item that is an entity
pub read_more : (net : Name) (items : List Tree) (i : ℕ) (item : Tree) (entities later : List Entity) (entity : Entity)
    → i < length items → item ≡ get_or items i item → later ≡ entities ++ entity ∷ []
    → ReadsItem net item (Ok entity) → ReadSoFar net items i entities → ReadSoFar net items (i + 1) later
read_more net items i item entities later entity within is pushed reads so_far rest h =
    subst (λ all. ReadsEntities net (items_data items) all) (joined rest entities entity
    ∙ ap (λ all. rest >>= λ more. Ok (all ++ more)) (sym pushed))
    (so_far (rest >>= λ more. Ok (entity ∷ more))
    (rw (drop-cons items i item within, ← is) (Ok entity, reads, (rest, rw (add-one i) at h, refl))))

-- an item that is none
pub read_fault : (net : Name) (items : List Tree) (i : ℕ) (item : Tree) (entities : List Entity) (why : AskFault)
    → i < length items → item ≡ get_or items i item
    → ReadsItem net item (Err why) → ReadSoFar net items i entities → ReadsEntities net (items_data items) (Err why)
read_fault net items i item entities why within is reads so_far =
    so_far (Err why) (rw (drop-cons items i item within, ← is) (Err why, reads, refl))

-- no item is left
pub read_all : (net : Name) (items : List Tree) (i : ℕ) (entities : List Entity) → drop i items ≡ []
    → ReadSoFar net items i entities → ReadsEntities net (items_data items) (Ok entities)
read_all net items i entities none so_far =
    subst (λ all. ReadsEntities net (items_data items) (Ok all)) (append-nil entities) (so_far (Ok []) (rw none refl))
