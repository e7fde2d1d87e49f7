use Rattle.std.proofs.Common.{◌≡◌, ◌++◌, map, drop}
use Rattle.std.specs.Option.{option_copied, option_to_list}
use Rattle.httparse.specs.Spans.{header_bytes}
use Rattle.alto_http.specs.Fields.{values_of}
use Rattle.alto_http.proofs.fields.only_value.Given as goal

-- what was found, and what the rest has, are the values
abbrev pub invariant-loop-field : goal.invariant-loop-field
invariant-loop-field l =
    option_to_list (option_copied l.found)
    ++ values_of l.name (map (header_bytes l.bytes) (drop l.field-index l.fields))
    ≡ values_of l.name (map (header_bytes l.bytes) l.fields)
