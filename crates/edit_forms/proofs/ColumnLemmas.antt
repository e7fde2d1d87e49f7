-- Columns that hold nothing, by the place of the first that holds something.
use Rattle.std.proofs.Common.{◌≡◌, ◌==◌, ℕ, ◌+◌, suc, Bool, cond, not, List, [], ◌∷◌, length, map, Option, Some, None}
use Rattle.std.proofs.Common.{Result, Ok, Err, Bor, refl, sym, subst, arith}
use Rattle.std.proofs.lemmas.Bool.{ne_eqb}
use Rattle.std.specs.List.{position_from}
use Rattle.alto_edits.specs.declared.edit.Edit.{Edit}
use Rattle.edit_forms.specs.Table.{unless_filled}

-- what was made, or the column at this place after the first
abbrev pub unless_at : ℕ → Edit → Option ℕ → Result Edit ℕ
unless_at first made None = Ok made
unless_at first made (Some place) = Err (first + place)

-- the text holds something
abbrev pub is_filled : Bor (List ℕ) → Bool
is_filled text = not (length text.now == 0)

-- one text more at the front
filled_next : (first k : ℕ) (bytes : List ℕ) (texts : List (Bor (List ℕ))) (made : Edit)
    → unless_filled (first + (k + 1)) (map (λ text. text.now) texts) made
    ≡ unless_at first made (position_from is_filled (k + 1) texts)
    → unless_filled (first + k) (bytes ∷ map (λ text. text.now) texts) made
    ≡ unless_at first made (cond (not (length bytes == 0)) (Some k) (position_from is_filled (k + 1) texts))
filled_next first k [] texts made more =
    let next : first + (k + 1) ≡ suc (first + k) = omega arith in
    subst (λ (column : ℕ). unless_filled column (map (λ text. text.now) texts) made
    ≡ unless_at first made (position_from is_filled (k + 1) texts)) next more
filled_next first k (byte ∷ rest) texts made more = rw (ne_eqb (suc (length rest)) 0 (λ z. cc z)) refl

unless_filled-position : (first k : ℕ) (texts : List (Bor (List ℕ))) (made : Edit)
    → unless_filled (first + k) (map (λ text. text.now) texts) made
    ≡ unless_at first made (position_from is_filled k texts)
unless_filled-position first k [] made = refl
unless_filled-position first k (text ∷ texts) made =
    filled_next first k text.now texts made (unless_filled-position first (k + 1) texts made)

pub unless_filled-first : (first : ℕ) (texts : List (Bor (List ℕ))) (made : Edit) (found : Option ℕ)
    → found ≡ position_from is_filled 0 texts
    → unless_at first made found ≡ unless_filled first (map (λ text. text.now) texts) made
unless_filled-first first texts made found e =
    let same : first + 0 ≡ first = omega arith in
    rw e (subst (λ (column : ℕ). unless_at first made (position_from is_filled 0 texts)
    ≡ unless_filled column (map (λ text. text.now) texts) made) same (sym (unless_filled-position first 0 texts made)))
