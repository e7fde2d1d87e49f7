-- A front is the longest where the next byte makes it no token.
use Rattle.std.proofs.Common.{◌≡◌, ◌+◌, false, take, sym, ◌∙◌, suc, add-one, arith}
use Rattle.alto_addr.specs.Tokens.{IsDecimal, decimal_test}
use Rattle.alto_addr.proofs.Tokens.{IsToken-IsDecimal, IsTokenFront-stop}
use Rattle.alto_addr.proofs.TokenTests.{decimal_tested, decimal_refused}
use Rattle.alto_addr.proofs.token.decimal_front.Goals as goal

pub returns-then-not-is_decimal : goal.returns-then-not-is_decimal
returns-then-not-is_decimal c =
    let e : decimal_test c.args.limit (take (c.loop-n.n + 1) c.args.text.now) ≡ false = sym c.is_decimal.ensures
    ∙ c.if-not-is_decimal.true in
    IsTokenFront-stop (IsDecimal c.args.limit) (IsToken-IsDecimal c.args.limit c.requires.within) c.args.text.now
    c.loop-n.n (omega arith) c.loop-n.invariant
    (λ less. decimal_refused c.args.limit c.requires.above c.requires.within (take (suc c.loop-n.n) c.args.text.now)
    (rw add-one at e))

pub loop-n-preserved : goal.loop-n-preserved
loop-n-preserved c = λ some.
    decimal_tested c.args.limit c.requires.above c.requires.within (take (c.loop-n.n + 1) c.args.text.now)
    (sym c.is_decimal.ensures ∙ c.if-not-is_decimal.false)
