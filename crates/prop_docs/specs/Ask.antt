-- What a client may ask of a property map (RFC 9240, section 8.3): some entities, and some of their properties.
use Rattle.std.specs.Prelude.{◌≡◌, List, [], ◌∷◌, Result, Ok, Err, codes}
use Rattle.serde_json.specs.Data.{Data, Items, no_items, item}
use Rattle.serde_json.specs.Find.{as_str}
use Rattle.alto_asks.specs.Asks.{◌>>=◌, required_items, text_in, texts_of, wrong_text}
use Rattle.alto_asks.specs.declared.fault.AskFault.{AskFault}
use Rattle.alto_rows.specs.declared.entity.Entity.{Entity}
use Rattle.alto_rows.specs.Entities.{WritesEntity}
use Rattle.alto_maps.specs.Shape.{Name}

-- what is asked for: entities and names of properties; no entity asks for all, and so does no name
pub record PropAskData : Type 0 where
  pub entities : List Entity
  pub properties : List Name

-- the field that lists entities
abbrev pub entities_field : Name
entities_field = codes "entities"

-- the field that lists names of properties
abbrev pub properties_field : Name
properties_field = codes "properties"

-- what a text is read as: the entity that it writes, or the fault that it writes none
abbrev pub ReadsText : Name → Result Name AskFault → Result Entity AskFault → Type 0
ReadsText net (Err why) read = read ≡ Err why
ReadsText net (Ok text) (Ok entity) = WritesEntity net text entity
ReadsText net (Ok text) (Err why) =
    ((entity : Entity) → ¬ (WritesEntity net text entity)) × (why ≡ wrong_text entities_field text)

-- what a list is read as
abbrev pub ListRead : Type 0
ListRead = Result (List Entity) AskFault

-- what a list is read as of which this is read first, and then the rest
abbrev pub GoesOn : Result Entity AskFault → (ListRead → Type 0) → ListRead → Type 0
GoesOn (Err why) Rest read = read ≡ Err why
GoesOn (Ok entity) Rest read =
    (rest : ListRead) × Rest rest × (read ≡ (rest >>= λ entities. Ok (entity ∷ entities)))

-- what items are read as: the entities that they write, or the fault of the first that writes none
abbrev pub ReadsEntities : Name → Items → ListRead → Type 0
ReadsEntities net no_items read = read ≡ Ok []
ReadsEntities net (item value items) read =
    (first : Result Entity AskFault) × ReadsText net (text_in entities_field (as_str value)) first
    × GoesOn first (ReadsEntities net items) read

-- what the field of entities is read as
abbrev pub ReadsList : Name → Result Items AskFault → ListRead → Type 0
ReadsList net (Err why) read = read ≡ Err why
ReadsList net (Ok items) read = ReadsEntities net items read

-- the names in the field of properties, or its first fault
abbrev pub names_asked : Data → Result (List Name) AskFault
names_asked ask = required_items properties_field ask >>= λ items. texts_of properties_field items

-- what is asked for by these entities and names
abbrev pub asked : List Entity → List Name → PropAskData
asked entities names = record { entities = entities; properties = names }

-- what the body of a request asks for, or its first fault
pub record ReadsPropAsk (net : Name) (ask : Data) (read : Result PropAskData AskFault) : Type 0 where
  pub entities : ListRead
  pub listed : ReadsList net (required_items entities_field ask) entities
  pub whole : read ≡ (entities >>= λ some. names_asked ask >>= λ names. Ok (asked some names))
