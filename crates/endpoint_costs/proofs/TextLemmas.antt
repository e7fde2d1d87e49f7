-- The text of the costs between addresses.
use Rattle.std.proofs.Common.{◌≡◌, refl, ap, sym, append_assoc}
use Rattle.std.specs.Prelude.{ℕ, List, [], ◌∷◌, ◌++◌, codes}
use Rattle.json.specs.Print.{quoted}
use Rattle.serde_json.specs.Data.{Data}
use Rattle.serde_json.specs.Written.{compact_text}
use Rattle.json_tree.specs.Document.{object_of, with_member}
use Rattle.doc_pieces.proofs.PlainLemmas.{plain_text}

-- how it begins
pub section_opened : 123 ∷ (34 ∷ (codes "endpoint-cost-map" ++ 34 ∷ 58 ∷ []))
    ≡ 123 ∷ (quoted (codes "endpoint-cost-map") ++ 58 ∷ [])
section_opened =
    ap (λ (text : List ℕ). 123 ∷ ((34 ∷ (text ++ 34 ∷ [])) ++ 58 ∷ []))
    (sym (plain_text (codes "endpoint-cost-map") refl))

-- the groups, and behind them the meta
pub document_text : (groups value : Data) (opened section comma meta whole : List ℕ)
    → opened ≡ 123 ∷ (quoted (codes "endpoint-cost-map") ++ 58 ∷ [])
    → section ≡ opened ++ compact_text groups
    → comma ≡ section ++ 44 ∷ []
    → meta ≡ comma ++ (quoted (codes "meta") ++ 58 ∷ compact_text value)
    → whole ≡ meta ++ 125 ∷ []
    → whole ≡ compact_text (object_of ((codes "meta", value) ∷ (codes "endpoint-cost-map", groups) ∷ []))
unfolding with_member
document_text groups value opened section comma meta whole a b c d e = rw (e, d, c, b, a) (simp append_assoc refl)
