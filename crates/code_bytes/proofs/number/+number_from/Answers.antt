-- Byte by byte.
use Rattle.std.proofs.Common.{◌≡◌, suc, ◌-◌, ◌∷◌, ap, sym, ◌∙◌, arith}
use Rattle.std.proofs.lemmas.Bool.{false≢true}
use Rattle.std.proofs.lemmas.Result.{IfOk-weaker, MatchResult-weaker}
use Rattle.code_bytes.proofs.NumberLemmas.{bad_at, fits_more, none_at, on_at, read_at}
use Rattle.code_bytes.proofs.number.+number_from.Goals as goal

pub overflow_mul-next : goal.overflow_mul-next
overflow_mul-next t c =
    let e : c.args.count ≡ suc (c.args.count - 1) = omega arith in
    omega (
      arith,
      fits_more c.args.count (c.args.count - 1) c.args.before c.args.most e c.ranges.most.fits
          c.requires.begins.1,
    )

pub overflow_add-next : goal.overflow_add-next
overflow_add-next t c =
    let e : c.args.count ≡ suc (c.args.count - 1) = omega arith in
    omega (
      arith,
      fits_more c.args.count (c.args.count - 1) c.args.before c.args.most e c.ranges.most.fits
          c.requires.begins.1,
      c.from.ensures,
      c.in-Some.ensures.1,
    )

pub returns-in_default-clause-stops : goal.returns-in_default-clause-stops
returns-in_default-clause-stops t c =
    none_at c.args.count (c.args.count - 1) c.args.before c.args.least c.args.most c.args.bytes.now (omega arith)
    c.requires.some c.requires.begins c.in_default.ensures

pub returns-then-not-begins-clause-stops : goal.returns-then-not-begins-clause-stops
returns-then-not-begins-clause-stops t c =
    let head : c.args.bytes.now ≡ c.from.result ∷ c.in-Some.rest.now = c.in-Some.ensures.0
    ∙ ap (λ b. b ∷ c.in-Some.rest.now) (sym c.from.ensures) in
    bad_at c.args.count (c.args.count - 1) c.args.before c.args.least c.args.most c.from.result c.args.bytes.now
    c.in-Some.rest.now (omega arith) c.requires.some
    c.requires.begins head (λ begins. false≢true (c.if-not-begins.ensures.1 begins))

pub returns-clause-ok : goal.returns-clause-ok
returns-clause-ok t c =
    let head : c.args.bytes.now ≡ c.from.result ∷ c.in-Some.rest.now = c.in-Some.ensures.0
    ∙ ap (λ b. b ∷ c.in-Some.rest.now) (sym c.from.ensures) in
    IfOk-weaker c.number_from.result _ _ (λ x p.
    let both = read_at c.args.count (c.args.count - 1) c.args.before x.0 c.from.result c.args.bytes.now
    c.in-Some.rest.now x.1.now (omega arith)
    (omega (arith, c.from.ensures, c.in-Some.ensures.1)) head p.2 p.3 in
    (p.0, p.1, both.0, both.1)) c.number_from.ensures.ok

pub returns-clause-stops : goal.returns-clause-stops
returns-clause-stops t c =
    let head : c.args.bytes.now ≡ c.from.result ∷ c.in-Some.rest.now = c.in-Some.ensures.0
    ∙ ap (λ b. b ∷ c.in-Some.rest.now) (sym c.from.ensures) in
    MatchResult-weaker c.number_from.result c.number_from.ensures.stops (λ x p. p) (λ why p.
    on_at c.args.count (c.args.count - 1) c.args.before c.args.least c.args.most c.from.result c.args.bytes.now
    c.in-Some.rest.now why (omega arith)
    (omega (arith, c.from.ensures, c.in-Some.ensures.1)) head p)
