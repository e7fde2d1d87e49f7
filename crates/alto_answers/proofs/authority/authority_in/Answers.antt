use Rattle.std.proofs.Common.{◌∙◌, sym}
use Rattle.alto_answers.proofs.AuthorityLemmas.{authority_is_text}
use Rattle.alto_answers.proofs.authority.authority_in.Goals as goal

-- an authority is text
pub unreachable-requires : goal.unreachable-requires
unreachable-requires c = c.in-Err.ensures.cases.0
    (authority_is_text _ (sym c.is_authority.ensures ∙ c.if-not-is_authority.false))
