use Rattle.std.proofs.Common.{◌≡◌, ℕ, List, [], ◌∷◌, ◌++◌, ◌+◌, append-nil, length, map, ap, ◌∙◌, arith}
use Rattle.std.proofs.lemmas.List.{length-append}
use Rattle.base_code.specs.Examples.{base_behind_i1, first_of_i1, receipts_of_i1, rows_of_i1}
use Rattle.base_code.specs.Pieces.{base_pieces, parts}
use Rattle.base_code.proofs.laws.base_of_i1.Goals as goal

pieces : (digest : List ℕ) → base_pieces (base_behind_i1 digest) ≡ first_of_i1 ∷ receipts_of_i1 digest ∷ rows_of_i1 ∷ []
unfolding base_pieces parts
pieces digest = ap (λ t. first_of_i1 ∷ (0x44 ∷ 0x01 ∷ 0x00 ∷ 0x01 ∷ 0x02 ∷ 0x69 ∷ 0x31 ∷ t) ∷ rows_of_i1 ∷ [])
    (append-nil (digest ++ (0 ∷ 0 ∷ 0 ∷ 0 ∷ 0 ∷ 0 ∷ 0 ∷ 100 ∷ [])))

size : (digest : List ℕ) → length digest ≡ 32 → length (receipts_of_i1 digest) ≡ 47
size digest e =
    let tail : List ℕ = 0 ∷ 0 ∷ 0 ∷ 0 ∷ 0 ∷ 0 ∷ 0 ∷ 100 ∷ [] in
    let behind : length (digest ++ tail) ≡ 40 = length-append digest tail ∙ ap (λ n. n + 8) e in
    omega (arith, behind)

pub returns-clause-pieces : goal.returns-clause-pieces
returns-clause-pieces c digest = pieces digest

pub returns-clause-sizes : goal.returns-clause-sizes
returns-clause-sizes c digest e = ap (map length) (pieces digest) ∙ ap (λ n. 14 ∷ n ∷ 46 ∷ []) (size digest e)
