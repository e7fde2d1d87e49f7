use Rattle.std.proofs.Common.{◌≡◌, arith, rules, tests}
use Rattle.std.specs.List.{list_all}
use Rattle.std.proofs.lemmas.Iterator.{YieldsList-from_slice}
use Rattle.std.proofs.lemmas.Iterator.Search.{all_from_yields_List}
use Rattle.std.proofs.lemmas.Bool.Decides.{nat_tests}
use Rattle.alto_answers.specs.Authority.{is_host_byte, is_name}
use Rattle.alto_answers.proofs.authority.is_name.Goals as goal

pub returns-then-not-is_empty : goal.returns-then-not-is_empty
unfolding is_name
returns-then-not-is_empty c =
    let xs = c.args.text.now in
    let all : c.all.result ≡ list_all is_host_byte xs =
    all_from_yields_List is_host_byte _ _ c.all.result c.all.ensures.ran (YieldsList-from_slice xs c.iter.ensures.rest)
    (λ x b q k. search (rules, tests)) in
    grind (arith, nat_tests, all)
