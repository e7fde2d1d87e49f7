use Rattle.std.proofs.Common.{◌≡◌, List, ℕ, true, false, sym, ◌∙◌, subst}
use Rattle.alto_addr.specs.Text.{IsAddrText}
use Rattle.alto_rows.proofs.EntityLemmas.{typed_addr_is, typed_addr_other}
use Rattle.alto_rows.proofs.entities.read_typed_addr.Goals as goal

pub returns-then-has_tag : goal.returns-then-has_tag
returns-then-has_tag c =
    typed_addr_is c.args.text.now c.in-Ok.addr (subst (λ (t : List ℕ). IsAddrText t c.in-Ok.addr) c.behind_tag.ensures
    c.in-Ok.ensures.ok)
    (c.has_tag.ensures.0 c.if-has_tag.true)

pub returns-else-has_tag : goal.returns-else-has_tag
returns-else-has_tag c =
    typed_addr_other c.args.text.now c.in-Ok.addr (subst (λ (t : List ℕ). IsAddrText t c.in-Ok.addr)
    c.behind_tag.ensures c.in-Ok.ensures.ok)
    (λ e. let both : true ≡ false = sym (c.has_tag.ensures.1 e) ∙ c.if-has_tag.false in cc)
