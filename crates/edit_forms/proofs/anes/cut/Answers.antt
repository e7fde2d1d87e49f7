-- The first part ends at the first space, or is all.
use Rattle.std.proofs.Common.{◌∙◌, sym}
use Rattle.edit_forms.proofs.AneLemmas.{first_space, no_space}
use Rattle.edit_forms.proofs.anes.cut.Goals as goal

pub returns-in-Some : goal.returns-in-Some
returns-in-Some c =
    rw c.behind.ensures (first_space c.args.text.now c.in-Some.place (sym c.space_place.ensures.place ∙ c.in-Some.is))

pub returns-in-None : goal.returns-in-None
returns-in-None c = no_space c.args.text.now 0 (sym c.space_place.ensures.place ∙ c.in-None.is)
