use Rattle.std.proofs.Common.{◌≡◌, [], ◌∷◌, ◌++◌, ◌+◌, ◌-◌, inl, inr, length, refl, sym, ap, ◌∙◌, arith, length-append}
use Rattle.std.proofs.Common.{append-nil}
use Rattle.std.proofs.lemmas.Result.{err_from_is_err_and}
use Rattle.json_tree.specs.Pointer.{pointer_text}
use Rattle.json_tree.proofs.PointerLemmas.{fault_of_token}
use Rattle.json_tree.proofs.pointer.reading.read_tokens.Goals as goal

pub overflow_sub-start : goal.overflow_sub-start
overflow_sub-start c = omega (
  arith,
  ap length c.loop-token.invariant.parts,
  length-append (pointer_text c.loop-token.names.items) (47 ∷ c.loop-token.rest.now),
)

pub overflow_sub-start-2 : goal.overflow_sub-start-2
overflow_sub-start-2 c = omega (
  arith,
  ap length c.loop-token.invariant.parts,
  length-append (pointer_text c.loop-token.names.items) (47 ∷ c.loop-token.rest.now),
)

pub read_token-requires-2-clause-fits : goal.read_token-requires-2-clause-fits
read_token-requires-2-clause-fits c =
    omega (
      arith,
      c.requires,
      ap length c.loop-token.invariant.parts,
      length-append (pointer_text c.loop-token.names.items) (47 ∷ c.loop-token.rest.now),
    )

pub returns-in_err-read_token-clause-err : goal.returns-in_err-read_token-clause-err
returns-in_err-read_token-clause-err c =
    let l = c.loop-token in
    let p = err_from_is_err_and c.from_residual.result c.from_residual.ensures.1 in
    let start : length c.args.tokens.now - length l.rest.now + 1 ≡ length (pointer_text l.names.items) + 1 =
    omega (arith, ap length l.invariant.parts, length-append (pointer_text l.names.items) (47 ∷ l.rest.now)) in
    rw (p.1, p.2) (fault_of_token c.args.tokens.now c.in-Some.token.now (47 ∷ c.in-Some.behind.now) l.names.items _ _
    (l.invariant.parts ∙ ap (λ s. pointer_text l.names.items ++ 47 ∷ s) c.in-Some.ensures.0)
    (inr (c.in-Some.behind.now, refl)) start c.in_err-read_token.ensures.err)

pub returns-in_err-read_token-2-clause-err : goal.returns-in_err-read_token-2-clause-err
returns-in_err-read_token-2-clause-err c =
    let l = c.loop-token in
    let p = err_from_is_err_and c.from_residual-in_err-read_token-2.result
    c.from_residual-in_err-read_token-2.ensures.1 in
    let start : length c.args.tokens.now - length l.rest.now + 1 ≡ length (pointer_text l.names.items) + 1 =
    omega (arith, ap length l.invariant.parts, length-append (pointer_text l.names.items) (47 ∷ l.rest.now)) in
    rw (p.1, p.2) (fault_of_token c.args.tokens.now l.rest.now [] l.names.items _ _
    (l.invariant.parts ∙ ap (λ s. pointer_text l.names.items ++ 47 ∷ s) (sym (append-nil l.rest.now))) (inl refl) start
    c.in_err-read_token-2.ensures.err)
