use Rattle.edit_forms.proofs.UniqueLemmas.{form_once}
use Rattle.edit_forms.proofs.laws.a_body_reads_in_one_way.Goals as goal

pub returns : goal.returns
returns c = form_once
