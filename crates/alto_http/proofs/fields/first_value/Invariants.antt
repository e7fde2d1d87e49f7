use Rattle.std.proofs.Common.{◌≡◌, map, drop}
use Rattle.httparse.specs.Spans.{header_bytes}
use Rattle.alto_http.specs.Fields.{values_of}
use Rattle.alto_http.proofs.fields.first_value.Given as goal

abbrev pub invariant-loop-field : goal.invariant-loop-field
invariant-loop-field l =
    values_of l.name (map (header_bytes l.bytes) (drop l.field-index l.fields))
    ≡ values_of l.name (map (header_bytes l.bytes) l.fields)
