-- The values that keys take are as short as their bytes can say.
use Rattle.std.proofs.Common.{◌≤◌, Option, Some, None, arith}
use Rattle.alto_rows.specs.Order.{kind_of}
use Rattle.alto_rows.specs.declared.key.Key.{Key}
use Rattle.alto_rows.specs.declared.key.Key.TheVariants as key
use Rattle.alto_rows.specs.declared.value.Value.{Value}
use Rattle.alto_rows.specs.declared.value.Value.TheVariants as value
use Rattle.batch_code.specs.Storable.{IsShort, TakesChange}

pub short_of : (at : Key) (v : Option Value) → 3 ≤ kind_of at → TakesChange at v → IsShort v
short_of at None le is = tt
short_of at (Some value.Unit) le is = tt
short_of at (Some (value.Num n)) le is = tt
short_of key.Epoch (Some (value.Text text)) le is = absurd (omega (arith, le))
short_of key.Window (Some (value.Text text)) le is = absurd is
short_of (key.Net net) (Some (value.Text text)) le is = absurd is
short_of (key.Pid net pid) (Some (value.Text text)) le is = absurd is
short_of (key.Prefix net pid block) (Some (value.Text text)) le is = absurd is
short_of (key.Metric net metric) (Some (value.Text text)) le is = absurd is
short_of (key.Cost net metric source destination) (Some (value.Text text)) le is = absurd is
short_of (key.Prop net entity property) (Some (value.Text text)) le is = is.1
short_of (key.Ane net ane) (Some (value.Text text)) le is = absurd is
short_of (key.AneProp net ane property) (Some (value.Text text)) le is = absurd is
short_of (key.Path net source destination) (Some (value.Text text)) le is = absurd is
short_of (key.Seq of) (Some (value.Text text)) le is = absurd is
short_of key.Epoch (Some (value.Names anes)) le is = absurd is
short_of key.Window (Some (value.Names anes)) le is = absurd is
short_of (key.Net net) (Some (value.Names anes)) le is = absurd is
short_of (key.Pid net pid) (Some (value.Names anes)) le is = absurd is
short_of (key.Prefix net pid block) (Some (value.Names anes)) le is = absurd is
short_of (key.Metric net metric) (Some (value.Names anes)) le is = absurd is
short_of (key.Cost net metric source destination) (Some (value.Names anes)) le is = absurd is
short_of (key.Prop net entity property) (Some (value.Names anes)) le is = absurd is
short_of (key.Ane net ane) (Some (value.Names anes)) le is = absurd is
short_of (key.AneProp net ane property) (Some (value.Names anes)) le is = absurd is
short_of (key.Path net source destination) (Some (value.Names anes)) le is = is.2
short_of (key.Seq of) (Some (value.Names anes)) le is = absurd is
