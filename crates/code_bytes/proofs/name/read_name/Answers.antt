use Rattle.std.proofs.Common.{◌≡◌, ◌∷◌, ap, refl, sym, ◌∙◌}
use Rattle.std.proofs.lemmas.Bool.{false≢true}
use Rattle.std.proofs.lemmas.Result.{err_from_is_err_and}
use Rattle.code_bytes.proofs.NameLemmas.{name_bad, name_none, name_on}
use Rattle.code_bytes.proofs.name.read_name.Goals as goal

pub returns-in_default-clause-stops : goal.returns-in_default-clause-stops
returns-in_default-clause-stops g c =
    name_none g.K.Kind.alphabet g.K.Kind.LONGEST g.K.Kind.LEAST c.args.bytes.now g.met.K.Kind.has_least
    g.met.K.Kind.has_room c.in_default.ensures

pub returns-then-not-is_length-clause-stops : goal.returns-then-not-is_length-clause-stops
returns-then-not-is_length-clause-stops g c =
    let head : c.args.bytes.now ≡ c.from-length.result ∷ c.in-Some.rest.now = c.in-Some.ensures.0
    ∙ ap (λ b. b ∷ c.in-Some.rest.now) (sym c.from-length.ensures) in
    name_bad g.K.Kind.alphabet g.K.Kind.LONGEST g.K.Kind.LEAST c.from-length.result c.args.bytes.now c.in-Some.rest.now
    g.met.K.Kind.has_least g.met.K.Kind.has_room head
    (λ fits. false≢true (c.if-not-is_length.ensures.1 fits))

pub returns-in_err-text-clause-stops : goal.returns-in_err-text-clause-stops
returns-in_err-text-clause-stops g c =
    let head : c.args.bytes.now ≡ c.from-length.result ∷ c.in-Some.rest.now = c.in-Some.ensures.0
    ∙ ap (λ b. b ∷ c.in-Some.rest.now) (sym c.from-length.ensures) in
    let p = err_from_is_err_and c.from_residual.result c.from_residual.ensures.1 in
    rw (p.1, p.2) (name_on g.K.Kind.alphabet g.K.Kind.LONGEST c.from-length.result c.args.bytes.now c.in-Some.rest.now
    c.in_err-text.field-0.0 head
    (c.if-not-is_length.ensures.0 refl) c.in_err-text.ensures.stops)
