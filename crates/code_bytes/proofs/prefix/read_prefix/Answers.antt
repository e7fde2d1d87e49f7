use Rattle.std.proofs.Common.{◌≡◌, ◌∷◌, ap, ◌∙◌}
use Rattle.std.proofs.lemmas.Result.{MatchResult-weaker}
use Rattle.code_bytes.proofs.PrefixLemmas.{family_bad, family_none, family_on}
use Rattle.code_bytes.proofs.prefix.read_prefix.Goals as goal

pub returns-in_default-clause-stops : goal.returns-in_default-clause-stops
returns-in_default-clause-stops c = family_none c.args.bytes.now c.in_default.ensures

pub returns-then-family-eq4-clause-stops : goal.returns-then-family-eq4-clause-stops
returns-then-family-eq4-clause-stops c =
    let head : c.args.bytes.now ≡ 4 ∷ c.in-Some.rest.now = c.in-Some.ensures.0
    ∙ ap (λ b. b ∷ c.in-Some.rest.now) c.if-family-eq4.true in
    MatchResult-weaker c.read_v4.result c.read_v4.ensures.stops (λ x p. p)
    (λ why p. family_on 4 c.args.bytes.now c.in-Some.rest.now why head p)

pub returns-then-family-eq6-clause-stops : goal.returns-then-family-eq6-clause-stops
returns-then-family-eq6-clause-stops c =
    let head : c.args.bytes.now ≡ 6 ∷ c.in-Some.rest.now = c.in-Some.ensures.0
    ∙ ap (λ b. b ∷ c.in-Some.rest.now) c.if-family-eq6.true in
    MatchResult-weaker c.read_v6.result c.read_v6.ensures.stops (λ x p. p)
    (λ why p. family_on 6 c.args.bytes.now c.in-Some.rest.now why head p)

pub returns-clause-stops : goal.returns-clause-stops
returns-clause-stops c =
    family_bad c.in-Some.family c.args.bytes.now c.in-Some.rest.now c.in-Some.ensures.0 c.if-family-eq4.false
    c.if-family-eq6.false
