-- Which rows show that a resource has no version, or one that is too high.
use Rattle.std.specs.Prelude.{ℕ, Bool, false, ◌||◌, nat_lt, List, Some}
use Rattle.alto_rows.specs.declared.key.Key.{Key}
use Rattle.alto_rows.specs.declared.key.Key.TheVariants as key
use Rattle.alto_rows.specs.declared.resource.Resource.TheVariants as resource
use Rattle.alto_rows.specs.declared.value.Value.{Value}
use Rattle.alto_rows.specs.Rows.{Rows}
use Rattle.alto_rows.specs.Versions.{number_in}
use Rattle.alto_edits.specs.Rules.{lacks}

-- a network's map or its property map has no version
abbrev pub lacks_net_version : Rows → List ℕ → Bool
lacks_net_version rows net = lacks rows (key.Seq (resource.Net net)) || lacks rows (key.Seq (resource.Prop net))

-- a row declares a resource that has no version, or gives a version above a number
abbrev pub is_misnumbered : Rows → ℕ → Key × Value → Bool
is_misnumbered rows number (key.Net net, v) = lacks_net_version rows net
is_misnumbered rows number (key.Metric net metric, v) = lacks rows (key.Seq (resource.Cost net metric))
is_misnumbered rows number (key.Seq of, v) = nat_lt number (number_in (Some v))
is_misnumbered rows number _ = false
