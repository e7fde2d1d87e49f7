-- What the readings of requests promise together.
use Rattle.std.specs.Prelude.{◌≡◌, Result}
use Rattle.serde_json.specs.Data.{Data}
use Rattle.alto_asks.specs.declared.fault.AskFault.{AskFault}
use Rattle.alto_rows.specs.Rows.{Rows}
use Rattle.alto_maps.specs.Shape.{Name}
use Rattle.endpoint_costs.specs.Ask.{EndAskData, ReadsEndAsk}

-- a body is read in one way
abbrev pub AsksOnce : Type 0
AsksOnce = (rows : Rows) (net : Name) (ask : Data) (one other : Result EndAskData AskFault)
    → ReadsEndAsk rows net ask one → ReadsEndAsk rows net ask other → one ≡ other
