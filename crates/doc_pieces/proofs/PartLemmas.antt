-- The parts of a text make it.
use Rattle.std.proofs.Common.{◌≡◌, ℕ, refl, ap, sym, ◌∙◌, append_assoc, append-nil}
use Rattle.std.specs.Prelude.{List, false, [], ◌∷◌, ◌++◌, codes}
use Rattle.std.specs.List.{flat_map}
use Rattle.doc_pieces.specs.Parts.{behind, texts, whole}
use Rattle.doc_pieces.specs.Pieces.{Piece, joined}

-- groups behind others, with what stands behind them
whole-behind : (groups : List Piece) (ending : List ℕ)
    → whole (behind groups ++ ending ∷ []) ≡ flat_map (λ (piece : Piece). codes "," ++ piece.1) groups ++ ending
whole-behind [] ending = append-nil ending
whole-behind (piece ∷ groups) ending =
    ap (λ more. codes "," ++ piece.1 ++ more) (whole-behind groups ending)
    ∙ sym (append_assoc (codes "," ++ piece.1) (flat_map (λ (piece : Piece). codes "," ++ piece.1) groups) ending)

-- all groups, with what stands round them
whole-groups : (beginning ending : List ℕ) (first : Piece) (rest : List Piece)
    → beginning ++ (first.1 ++ whole (behind rest ++ ending ∷ [])) ≡ beginning ++ joined (first ∷ rest) ++ ending
whole-groups beginning ending first rest =
    ap (λ more. beginning ++ (first.1 ++ more)) (whole-behind rest ending) ∙ simp append_assoc refl

pub whole-parts : (beginning ending : List ℕ) (groups : List Piece)
    → whole (beginning ∷ [] ++ texts false groups ++ ending ∷ []) ≡ beginning ++ joined groups ++ ending
whole-parts beginning ending [] = simp append_assoc (simp append-nil refl)
whole-parts beginning ending (first ∷ rest) = whole-groups beginning ending first rest
