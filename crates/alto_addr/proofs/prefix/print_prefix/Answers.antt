-- The text of the address, and then the rest.
use Rattle.std.proofs.Common.{◌≡◌, List, ℕ, [], ◌∷◌, ◌++◌, Result, Ok, Err, sym, ap, ◌∙◌, decimal, append_assoc}
use Rattle.std.specs.Prelude.{IfOk}
use Rattle.alto_addr.proofs.prefix.print_prefix.Goals as goal

-- a text that is equal may stand in its place
written : {T E : Type 0} (bytes : T → List ℕ) (front text later : List ℕ) → front ≡ text → (r : Result T E)
    → IfOk r (λ s. bytes s ≡ front ++ 47 ∷ later) → IfOk r (λ s. bytes s ≡ (text ++ 47 ∷ []) ++ later)
written bytes front text later e (Ok s) h = h ∙ ap (λ t. t ++ 47 ∷ later) e ∙ sym (append_assoc text (47 ∷ []) later)
written bytes front text later e (Err fault) h = h

pub returns : goal.returns
returns c = written _ _ _ (decimal c.args.prefix.now.len) c.in_ok-addr.ensures c.format.result c.format.ensures.ok
