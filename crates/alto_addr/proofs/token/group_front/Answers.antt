-- A front is the longest where the next byte makes it no token.
use Rattle.std.proofs.Common.{◌≡◌, ◌+◌, false, take, sym, ◌∙◌, suc, add-one, arith}
use Rattle.alto_addr.specs.Tokens.{IsGroup, group_test}
use Rattle.alto_addr.proofs.Tokens.{IsToken-IsGroup, IsTokenFront-stop}
use Rattle.alto_addr.proofs.TokenTests.{group_tested, group_refused}
use Rattle.alto_addr.proofs.token.group_front.Goals as goal

pub returns-then-not-is_group : goal.returns-then-not-is_group
returns-then-not-is_group c =
    let e : group_test (take (c.loop-n.n + 1) c.args.text.now) ≡ false = sym c.is_group.ensures
    ∙ c.if-not-is_group.true in
    IsTokenFront-stop IsGroup IsToken-IsGroup c.args.text.now c.loop-n.n (omega arith) c.loop-n.invariant
    (λ less. group_refused (take (suc c.loop-n.n) c.args.text.now) (rw add-one at e))

pub loop-n-preserved : goal.loop-n-preserved
loop-n-preserved c = λ some.
    group_tested (take (c.loop-n.n + 1) c.args.text.now) (sym c.is_group.ensures ∙ c.if-not-is_group.false)
