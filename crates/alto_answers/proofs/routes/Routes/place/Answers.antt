use Rattle.std.proofs.Common.{◌≡◌, ◌==◌, ◌<◌, ℕ, true, false, List, length, Option, None, arith}
use Rattle.std.specs.Str.{IsUtf8, IsValidUpTo}
use Rattle.std.specs.Str.Lossy.{utf8_valid_len}
use Rattle.std.specs.Option.{option_map}
use Rattle.std.proofs.lemmas.Str.{utf8_valid_len-IsUtf8, utf8_valid_len-IsValidUpTo}
use Rattle.std.proofs.lemmas.Bool.Decides.{nat_tests}
use Rattle.matchit.specs.Router.{RouteOf}
use Rattle.matchit.specs.Rows.{RowsOf}
use Rattle.matchit.specs.Seek.{first}
use Rattle.alto_answers.specs.declared.route.Place.{Place}
use Rattle.alto_answers.specs.declared.route.Side.{Side}
use Rattle.alto_answers.specs.Routes.{router_of, place_of}
use Rattle.alto_answers.proofs.routes.Routes.place.Goals as goal

whole : (n m : ℕ) → n ≡ m → (n == m) ≡ true
whole n m e = grind (arith, nat_tests)

cut : (n m : ℕ) → n < m → (n == m) ≡ false
cut n m e = grind (arith, nat_tests)

place_of-text : (of : Side) (path : List ℕ) → IsUtf8 path
    → option_map (λ route. route.value) (first (router_of of) path) ≡ place_of of path
unfolding place_of
place_of-text of path text = rw (whole _ _ (utf8_valid_len-IsUtf8 path text))

place_of-bytes : (of : Side) (path : List ℕ) (n : ℕ) → IsValidUpTo path n → None ≡ place_of of path
unfolding place_of
place_of-bytes of path n valid =
    let lt : utf8_valid_len path < length path = omega (arith, utf8_valid_len-IsValidUpTo path n valid, valid.short) in
    rw (cut _ _ lt)

found_at : (of side : Side) (router : RowsOf (RouteOf Place)) (path text : List ℕ) (to : Option Place)
    → to ≡ option_map (λ route. route.value) (first router text) → router ≡ router_of side → side ≡ of → text ≡ path
    → IsUtf8 path → to ≡ place_of of path
found_at of side router path text to found routed same read valid =
    rw (found, routed, same, read) (place_of-text of path valid)

pub returns-in-Ok : goal.returns-in-Ok
returns-in-Ok c = found_at _ _ _ _ _ _ c.found.ensures c.self.invariant c.self.view_is c.in-Ok.ensures.cases.0
    c.in-Ok.ensures.cases.1

pub returns-in-Err : goal.returns-in-Err
returns-in-Err c = place_of-bytes _ _ _ c.in-Err.ensures.cases.1
