-- How a drill's book grows import by import.
use Rattle.std.proofs.Common.{◌≡◌, ℕ, zero, suc, ◌+◌, ◌-◌, ◌*◌, ◌≤◌, ◌==◌, Bool, true, false, List, [], ◌∷◌, ◌++◌, map}
use Rattle.std.proofs.Common.{if◌then◌else◌, codes, refl, ap, sym, ◌∙◌, arith}
use Rattle.std.proofs.lemmas.Bool.Decides.{nat_tests}
use Rattle.std.proofs.lemmas.List.FromFn.{map-range_with_len_more}
use Rattle.std.specs.List.{range_with_len}
use Rattle.alto_book.specs.Acceptance.{accept}
use Rattle.alto_book.specs.Book.{Book, opening_book}
use Rattle.alto_book.specs.Import.{Import}
use Rattle.alto_drill.specs.Draws.{next_state, state_after}
use Rattle.alto_drill.specs.Imports.{book_after, drill_book, drill_import, import_from}

-- the state after draws, and more after those
state_after-more : (x m n : ℕ) → state_after (state_after x m) n ≡ state_after x (m + n)
unfolding state_after
state_after-more x m zero = let same : m ≡ m + 0 = omega arith in ap (state_after x) same
state_after-more x m (suc n) =
    let one_more : suc (m + n) ≡ m + suc n = omega arith in
    ap next_state (state_after-more x m n) ∙ ap (state_after x) one_more

-- where the generator stands before the next import
pub next_start : (number k : ℕ) → 1 ≤ k
    → (if k == 1 then state_after number (6 * (k - 2)) else state_after (state_after number (6 * (k - 2))) 6)
    ≡ state_after number (6 * (k + 1 - 2))
next_start number k some = by (k == 1) refl
  where
    by : (b : Bool) → (k == 1) ≡ b
        → (if b then state_after number (6 * (k - 2)) else state_after (state_after number (6 * (k - 2))) 6)
        ≡ state_after number (6 * (k + 1 - 2))
    by true e =
        let one : k ≡ 1 = grind (arith, nat_tests) in
        let none : 6 * (k - 2) ≡ 6 * (k + 1 - 2) = omega (arith, one) in
        ap (state_after number) none
    by false e =
        let more : 2 ≤ k = grind (arith, nat_tests) in
        let six : 6 * (k - 2) + 6 ≡ 6 * (k + 1 - 2) = omega (arith, more) in
        state_after-more number (6 * (k - 2)) 6 ∙ ap (state_after number) six

after_append : (book : Book) (imports : List Import) (import : Import)
    → book_after book (imports ++ import ∷ []) ≡ (accept (book_after book imports) import 0).book
after_append book [] import = refl
after_append book (first ∷ imports) import = after_append (accept book first 0).book imports import

-- the book before the first import
pub drill_book-none : (number : ℕ) → drill_book number 0 ≡ opening_book (codes "drill") 8
unfolding drill_book
drill_book-none number = refl

-- the book after one import more
pub drill_book-more : (number k : ℕ) → 1 ≤ k
    → drill_book number k ≡ (accept (drill_book number (k - 1)) (drill_import number k) 0).book
unfolding drill_book
drill_book-more number k some =
    let whole : k ≡ k - 1 + 1 = omega arith in
    let last : 1 + (k - 1) ≡ k = omega arith in
    ap (λ n. book_after (opening_book (codes "drill") 8) (map (drill_import number) (range_with_len 1 n))) whole
    ∙ ap (book_after (opening_book (codes "drill") 8)) (map-range_with_len_more (drill_import number) 1 (k - 1) k last)
    ∙ after_append (opening_book (codes "drill") 8) (map (drill_import number) (range_with_len 1 (k - 1)))
    (drill_import number k)

-- the import that the generator makes from where it stands
drill_import-from : (number k x : ℕ) → x ≡ state_after number (6 * (k - 2)) → import_from x k ≡ drill_import number k
unfolding drill_import
drill_import-from number k x stands = ap (λ x. import_from x k) stands

-- one round of making the book
pub drill_goes_on : (number k x : ℕ) (before after : Book) (import : Import) → 1 ≤ k
    → x ≡ state_after number (6 * (k - 2))
    → before ≡ drill_book number (k - 1) → import ≡ import_from x k → after ≡ (accept before import 0).book
    → after ≡ drill_book number (k + 1 - 1)
drill_goes_on number k x before after import some stands was made accepted =
    let same : k ≡ k + 1 - 1 = omega arith in
    accepted ∙ ap (λ (b : Book). (accept b import 0).book) was
    ∙ ap (λ (i : Import). (accept (drill_book number (k - 1)) i 0).book) (made ∙ drill_import-from number k x stands)
    ∙ sym (drill_book-more number k some) ∙ ap (drill_book number) same

-- before the first draw
pub state_after-none : (x : ℕ) → x ≡ state_after x 0
unfolding state_after
state_after-none x = refl
