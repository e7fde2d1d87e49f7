use Rattle.std.proofs.Common.{◌≡◌, ◌++◌, ◌∙◌, ap, refl, min, length, sym, arith}
use Rattle.std.proofs.lemmas.Result.{on_ok_weaker, on_err_weaker}
use Rattle.alto_http.specs.Link.{followed_by}
use Rattle.alto_http.proofs.Ahead.{body_whole, body_cut, joined_short}
use Rattle.alto_http.proofs.receive.fill_body.Goals as goal

pub returns-clause-ok : goal.returns-clause-ok
returns-clause-ok g c =
    let n = c.hand_over-ahead.result in
    let ahead = c.args.intake.now in
    let into = c.read_full.new.into in
    let count : n ≡ min (length ahead) (length into) = omega (arith, c.read_full.auto.into) in
    on_ok_weaker c.read_full.result
    (λ given. body_whole ahead into _ _ n count (c.read_full.ensures.front ∙ c.hand_over-ahead.ensures.handed) given
    ∙ ap (λ xs. followed_by (into ++ xs) (g.L.Link.left c.read_full.new.link)) (sym c.hand_over-ahead.ensures.rest))
    c.read_full.ensures.ok

pub returns-clause-err : goal.returns-clause-err
returns-clause-err g c =
    let n = c.hand_over-ahead.result in
    let ahead = c.args.intake.now in
    let into = c.read_full.new.into in
    let count : n ≡ min (length ahead) (length into) = omega (arith, c.read_full.auto.into) in
    on_err_weaker c.read_full.result
    (λ t. (
      ahead ++ t.0,
      body_cut ahead into t.0 _ _ n count t.1 t.2
          ∙ ap (λ xs. followed_by ((ahead ++ t.0) ++ xs) (g.L.Link.left c.read_full.new.link))
          (sym c.hand_over-ahead.ensures.rest),
    ))
    c.read_full.ensures.err

pub returns-clause-short : goal.returns-clause-short
returns-clause-short g c =
    let n = c.hand_over-ahead.result in
    let ahead = c.args.intake.now in
    let into = c.read_full.new.into in
    let count : n ≡ min (length ahead) (length into) = omega (arith, c.read_full.auto.into) in
    on_err_weaker c.read_full.result
    (λ t. (
      ahead ++ t.0,
      record { piece = t.0; behind = refl; given = t.2 },
      joined_short ahead t.0 into n count t.1,
    ))
    c.read_full.ensures.err
