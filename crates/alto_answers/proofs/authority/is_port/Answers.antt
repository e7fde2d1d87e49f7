use Rattle.std.proofs.Common.{◌≡◌, arith, rules, tests}
use Rattle.std.specs.List.{list_all}
use Rattle.std.proofs.lemmas.Iterator.{YieldsList-from_slice}
use Rattle.std.proofs.lemmas.Iterator.Search.{all_from_yields_List}
use Rattle.std.proofs.lemmas.Bool.Decides.{nat_tests}
use Rattle.std.specs.Char.{is_ascii_digit}
use Rattle.alto_answers.specs.Authority.{is_port}
use Rattle.alto_answers.proofs.authority.is_port.Goals as goal

pub returns-then-text-le5 : goal.returns-then-text-le5
unfolding is_port
returns-then-text-le5 c =
    let xs = c.args.text.now in
    let all : c.all.result ≡ list_all is_ascii_digit xs =
    all_from_yields_List is_ascii_digit _ _ c.all.result c.all.ensures.ran
    (YieldsList-from_slice xs c.iter.ensures.rest)
    (λ x b q k. search (rules, tests)) in
    grind (arith, nat_tests, all)
