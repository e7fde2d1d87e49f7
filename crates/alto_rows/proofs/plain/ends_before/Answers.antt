-- All rows are before a key where the last one is.
use Rattle.std.proofs.Common.{◌∙◌, sym, get_or, rules}
use Rattle.alto_rows.specs.Order.{key_cmp}
use Rattle.alto_rows.proofs.PlaceLemmas.{less_tests, place_behind_last}
use Rattle.alto_rows.proofs.plain.ends_before.Goals as goal

pub returns-in-Some : goal.returns-in-Some
returns-in-Some c =
    let rows = c.args.rows.now in
    let row = c.index-rows-last.result in
    λ t. place_behind_last rows c.in-Some.last row c.args.key.now c.requires (search rules) (search rules)
    (less_tests (key_cmp (get_or rows c.in-Some.last row).0 c.args.key.now) (sym c.is_before.ensures ∙ t))
