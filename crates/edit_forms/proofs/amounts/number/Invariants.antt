use Rattle.std.proofs.Common.{◌≡◌, ◌<◌, ◌^◌, take}
use Rattle.std.specs.Str.Parse.{digits_value}
use Rattle.edit_forms.proofs.amounts.number.Given as goal

-- the digits so far write the number
abbrev pub invariant-loop-digit : goal.invariant-loop-digit
invariant-loop-digit l = record {
  value : l.number ≡ digits_value 10 (take l.digit-index l.digits);
  small : l.number < 10 ^ l.digit-index;
}
