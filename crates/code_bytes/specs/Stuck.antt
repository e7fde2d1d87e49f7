-- How far bytes go along with the texts of a grammar.
use Rattle.std.specs.Prelude.{◌≡◌, ℕ, zero, suc, ◌≤◌, ◌==◌, if◌then◌else◌, Option, Some, None, ⊤}
use Rattle.std.specs.Prelude.{List, [], ◌∷◌, ◌++◌, length}
use Rattle.code_bytes.specs.declared.stop.Stop.{Stop}
use Rattle.code_bytes.specs.declared.stop.Stop.TheVariants as stop

-- how many bytes are left where they part from the text: none where they begin with all of it
abbrev pub left_at : List ℕ → List ℕ → Option ℕ
left_at [] bytes = None
left_at (a ∷ text) [] = Some 0
left_at (a ∷ text) (b ∷ bytes) = if a == b then left_at text bytes else Some (suc (length bytes))

-- the bytes begin with no text of the grammar: `left` are left behind the longest prefix of them that begins one
pub record IsStuck (Text : List ℕ → Type 0) (bytes : List ℕ) (left : ℕ) : Type 0 where
  pub text : List ℕ
  pub is_text : Text text
  pub parts : left_at text bytes ≡ Some left
  pub least : (other : List ℕ) → Text other → (more : ℕ) × (left_at other bytes ≡ Some more) × (left ≤ more)

-- the bytes begin with no text of the grammar
abbrev pub IsOutside : (List ℕ → Type 0) → List ℕ → Type 0
IsOutside Text bytes = (text rest : List ℕ) → Text text → bytes ≡ text ++ rest → ⊥

-- where a reader stops: out of memory, or where the bytes leave the grammar
abbrev pub Stops : (List ℕ → Type 0) → List ℕ → Stop → Type 0
Stops Text bytes (stop.Left left) = IsStuck Text bytes left
Stops Text bytes stop.Memory = ⊤

-- a text of one grammar, and then one of a grammar that depends on it
pub record Chain (First : List ℕ → Type 0) (Next : List ℕ → List ℕ → Type 0) (text : List ℕ) : Type 0 where
  pub front : List ℕ
  pub back : List ℕ
  pub split : text ≡ front ++ back
  pub first : First front
  pub second : Next front back

-- a byte, and then a text of a grammar that depends on it
pub record Headed (Next : ℕ → List ℕ → Type 0) (text : List ℕ) : Type 0 where
  pub byte : ℕ
  pub back : List ℕ
  pub split : text ≡ byte ∷ back
  pub second : Next byte back

-- the byte of a tag, and then a text of the tag's grammar
pub record Tagged {T : Type 0} (byte_of : T → ℕ) (Next : T → List ℕ → Type 0) (text : List ℕ) : Type 0 where
  pub tag : T
  pub back : List ℕ
  pub split : text ≡ byte_of tag ∷ back
  pub second : Next tag back

-- a text of one grammar, and then one of another
abbrev pub Pair : (List ℕ → Type 0) → (List ℕ → Type 0) → List ℕ → Type 0
Pair First Second text = Chain First (λ _. Second) text

-- so many texts of one grammar
unfoldable pub Times : ℕ → (List ℕ → Type 0) → List ℕ → Type 0
Times zero Text text = text ≡ []
Times (suc count) Text text = Pair Text (Times count Text) text
