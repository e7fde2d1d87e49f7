-- The parts of a text between its spaces.
use Rattle.std.proofs.Common.{◌≡◌, ◌≢◌, ◌==◌, ℕ, zero, suc, ◌+◌, ◌≤◌, Bool, true, false, cond, List, [], ◌∷◌, ◌++◌}
use Rattle.std.proofs.Common.{length, take, drop, All, Option, Some, None, Bor, Ok, Err, refl, sym, ◌∙◌, append_assoc}
use Rattle.std.proofs.Common.{subst, arith, tests, nat_lt}
use Rattle.std.specs.Prelude.{MatchOption}
use Rattle.std.specs.List.{position_from, position_or_len, onto_first}
use Rattle.std.proofs.Math.ListN.{length-append}
use Rattle.std.proofs.lemmas.Iterator.Adapters.{position_from-zero}
use Rattle.std.proofs.lemmas.List.Splits.{slice_split_first, length-slice_split}
use Rattle.alto_names.specs.Name.{IsAneName, named, is_pid_byte}
use Rattle.edit_forms.specs.declared.columns.ColumnFault.{ColumnFault}
use Rattle.edit_forms.specs.declared.columns.ColumnFault.TheVariants.{Bad, Memory}
use Rattle.edit_forms.specs.Answers.{IsValue}
use Rattle.edit_forms.specs.Columns.{WritesAnes, WritesName, spaced}

-- a space
abbrev is_space : ℕ → Bool
is_space byte = byte == 0x20

one_part : (byte : ℕ) (text : List ℕ) (k : ℕ) (is : Bool)
    → cond is (Some k) (position_from is_space (k + 1) text) ≡ None
    → (position_from is_space (k + 1) text ≡ None → spaced text ≡ text ∷ [])
    → cond is ([] ∷ spaced text) (onto_first byte (spaced text)) ≡ (byte ∷ text) ∷ []
one_part byte text k true h more = cc h
one_part byte text k false h more = rw (more h) refl

-- a text without a space is its one part
pub no_space : (text : List ℕ) (k : ℕ) → position_from is_space k text ≡ None → spaced text ≡ text ∷ []
no_space [] k h = refl
no_space (byte ∷ text) k h = one_part byte text k (is_space byte) h (no_space text (k + 1))

at_place : (below : Bool) (first place : ℕ) → cond below (Some first) None ≡ Some place
    → (below ≡ true) × (first ≡ place)
at_place true first place h = (refl, cc h)
at_place false first place h = cc h

-- the first part ends at the first space
pub first_space : (text : List ℕ) (place : ℕ) → position_from is_space 0 text ≡ Some place
    → spaced text ≡ take place text ∷ spaced (drop (place + 1) text)
first_space text place h =
    let found = at_place (nat_lt (position_or_len is_space text) (length text)) (position_or_len is_space text)
    place (position_from-zero is_space text ∙ h) in
    let parts = slice_split_first is_space text 0 (grind (arith, tests, found.0)) in
    subst (λ (at : ℕ). spaced text ≡ take at text ∷ spaced (drop (at + 1) text)) found.1 parts

-- the parts of what is left
abbrev pub parts_left : Option (Bor (List ℕ)) → List (List ℕ)
parts_left None = []
parts_left (Some rest) = spaced rest.now

-- there is one part at least
pub some_part : (text : List ℕ) → 1 ≤ length (spaced text)
some_part text = omega (arith, length-slice_split is_space text)

-- where 64 parts stand before others there are too many
pub too_many : (text rest : List ℕ) (names : List (List ℕ)) → spaced text ≡ names ++ spaced rest → length names ≡ 64
    → (anes : List (List ℕ)) → ¬ (WritesAnes text anes)
too_many text rest names parts many anes writes =
    let all : length anes ≡ length names + length (spaced rest) =
    rw (writes.0, parts) (length-append names (spaced rest)) in
    absurd (omega (arith, all, many, writes.2, some_part rest))

all_middle : (names rest : List (List ℕ)) (first : List ℕ) → All IsAneName (names ++ first ∷ rest) → IsAneName first
all_middle [] rest first all = all zero [] (omega arith)
all_middle (name ∷ names) rest first all = all_middle names rest first (λ k d within. all (suc k) d (omega arith))

-- where a part is no name the text writes no names
bad_part : (text first : List ℕ) (names rest : List (List ℕ)) → spaced text ≡ names ++ first ∷ rest
    → ((name : List ℕ) → named is_pid_byte 32 first ≢ Ok name) → (anes : List (List ℕ)) → ¬ (WritesAnes text anes)
bad_part text first names rest parts bad anes writes =
    bad first (all_middle names rest first (rw parts at (rw writes.0 at writes.1)))

-- the fault of a part is that of the names
pub part_fault : (column : ℕ) (text first : List ℕ) (names rest : List (List ℕ)) (fault : ColumnFault)
    → spaced text ≡ names ++ first ∷ rest → IsValue column (WritesName is_pid_byte 32 first) (Err fault)
    → IsValue column (WritesAnes text) (Err fault)
part_fault column text first names rest (Bad at) parts h = (h.0, bad_part text first names rest parts h.1)
part_fault column text first names rest Memory parts h = tt

-- the first part of what is left, and those behind it
pub cut_parts : (rest first : List ℕ) (more : Option (Bor (List ℕ)))
    → MatchOption more (spaced rest ≡ first ∷ []) (λ more. spaced rest ≡ first ∷ spaced more.now)
    → spaced rest ≡ first ∷ parts_left more
cut_parts rest first None h = h
cut_parts rest first (Some more) h = h

-- a part that is a name goes to the names so far
pub part_more : (text rest first name : List ℕ) (names now : List (List ℕ)) (more : Option (Bor (List ℕ)))
    → spaced text ≡ names ++ spaced rest → spaced rest ≡ first ∷ parts_left more → first ≡ name
    → now ≡ names ++ name ∷ []
    → spaced text ≡ now ++ parts_left more
part_more text rest first name names now more parts next same pushed =
    rw (parts, next, same, pushed) (sym (append_assoc names (name ∷ []) (parts_left more)))
