use Rattle.std.proofs.Common.{◌≡◌, arith, rules, tests}
use Rattle.std.specs.List.{list_all}
use Rattle.std.proofs.lemmas.Iterator.{YieldsList-from_slice}
use Rattle.std.proofs.lemmas.Iterator.Search.{all_from_yields_List}
use Rattle.std.proofs.lemmas.Bool.Decides.{nat_tests}
use Rattle.alto_answers.specs.Authority.{is_address_byte, is_address}
use Rattle.alto_answers.proofs.authority.is_address.Goals as goal

pub returns-then-text-le45 : goal.returns-then-text-le45
unfolding is_address
returns-then-text-le45 c =
    let xs = c.args.text.now in
    let all : c.all.result ≡ list_all is_address_byte xs =
    all_from_yields_List is_address_byte _ _ c.all.result c.all.ensures.ran
    (YieldsList-from_slice xs c.iter.ensures.rest)
    (λ x b q k. search (rules, tests)) in
    grind (arith, nat_tests, all)
