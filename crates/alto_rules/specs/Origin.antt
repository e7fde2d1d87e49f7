-- Where costs come from, and that the last write of a draft puts a cost from where things are declared.
use Rattle.std.specs.Prelude.{◌≡◌, ℕ, true, List, fold, Option, Some, None, IfSome}
use Rattle.alto_rows.specs.declared.key.Key.{Key}
use Rattle.alto_rows.specs.declared.key.Key.TheVariants as key
use Rattle.alto_rows.specs.declared.value.Value.{Value}
use Rattle.alto_rows.specs.declared.write.Write.{Write}
use Rattle.alto_rows.specs.Rows.{Rows, has_row}
use Rattle.alto_rules.specs.Draft.{Drafted, drafted_rows}

-- the network, the metric and the source of a cost
pub record Origin : Type 0 where
  pub net : List ℕ
  pub metric : List ℕ
  pub source : List ℕ

-- the origin of a cost that is put: a write's value and key
abbrev pub origin_put : Option Value → Key → Option Origin
origin_put (Some v) (key.Cost net metric source destination) =
    Some (record { net = net; metric = metric; source = source })
origin_put _ _ = None

-- the origin of the cost that the last write puts
abbrev pub last_origin : List Write → Option Origin
last_origin writes = fold (λ _ write. origin_put write.value write.key) None writes

-- the network, the metric and the source have rows
abbrev pub IsDeclared : Rows → Origin → Type 0
IsDeclared rows origin =
    (has_row rows (key.Net origin.net) ≡ true)
    × (has_row rows (key.Metric origin.net origin.metric) ≡ true)
    × (has_row rows (key.Pid origin.net origin.source) ≡ true)

-- where the last write puts a cost, its network, its metric and its source have rows
abbrev pub LastCostIsDeclared : Drafted → Type 0
LastCostIsDeclared draft = IfSome (last_origin draft.writes) (IsDeclared (drafted_rows draft))
