-- Only a network map has others that depend on it.
use Rattle.std.proofs.Common.{◌≡◌, refl, sym, ◌∙◌}
use Rattle.std.proofs.lemmas.Result.{IfOk-weaker}
use Rattle.std.specs.BTreeSet as set
use Rattle.std.specs.BTreeSet.{BTreeSet, contains}
use Rattle.std.specs.Prelude.{ℕ, List, [], ◌∷◌, false, true}
use Rattle.alto_rows.specs.declared.resource.Resource.{Resource}
use Rattle.alto_rows.specs.declared.resource.Resource.TheVariants as resource
use Rattle.alto_rows.specs.Order.{resource_cmp}
use Rattle.alto_rows.specs.Rows.{Rows}
use Rattle.alto_rows.proofs.ResourceLemmas.{or_false}
use Rattle.alto_rules.specs.Draft.{HasJoined, dependents}
use Rattle.alto_rules.proofs.VersionLemmas.{moved}
use Rattle.alto_rules.proofs.versions.with_dependents.Goals as goal

alone : (rows : Rows) (of : Resource) → ((net : List ℕ) → of ≡ resource.Net net → ⊥) → dependents rows of ≡ of ∷ []
alone rows (resource.Net net) other = absurd (other net refl)
alone rows _ other = refl

joined : (rows : Rows) (of copy : Resource) (touched all : BTreeSet Resource)
    → ((net : List ℕ) → of ≡ resource.Net net → ⊥) → copy ≡ of
    → set.Updates resource_cmp touched all copy true → HasJoined touched (dependents rows of) all
joined rows of copy touched all other same more one =
    rw (alone rows of other, ← same) (sym (or_false (contains resource_cmp all one))
    ∙ moved touched all copy one false more)

pub returns-in_ok-copied_resource-in_default : goal.returns-in_ok-copied_resource-in_default
returns-in_ok-copied_resource-in_default g c =
    IfOk-weaker c.with_resource.result _ _
    (λ all more. joined (g.R.RowStore.rows c.args.rows.now) c.args.of.now c.in_ok-copied_resource-in_default.field-0
    c.args.touched all c.in_default.not-Net c.in_ok-copied_resource-in_default.ensures more)
    c.with_resource.ensures
