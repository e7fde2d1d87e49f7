-- The text of a document in parts.
use Rattle.std.specs.Prelude.{ℕ, Bool, true, false, List, [], ◌∷◌, ◌++◌, Option, Some, None, codes, map}
use Rattle.std.specs.List.{flat_map}
use Rattle.doc_pieces.specs.Pieces.{Piece}

-- the bytes of parts, one behind another
abbrev pub whole : List (List ℕ) → List ℕ
whole parts = flat_map (λ (part : List ℕ). part) parts

-- a part, if it is there
abbrev pub if_any : Option (List ℕ) → List (List ℕ)
if_any (Some part) = part ∷ []
if_any None = []

-- the texts of groups behind others
abbrev pub behind : List Piece → List (List ℕ)
behind groups = map (λ (piece : Piece). codes "," ++ piece.1) groups

-- the texts of groups, each behind a comma, or each but the first
abbrev pub texts : Bool → List Piece → List (List ℕ)
texts true groups = behind groups
texts false [] = []
texts false (piece ∷ groups) = piece.1 ∷ behind groups
