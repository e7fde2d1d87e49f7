use Rattle.std.proofs.Common.{◌≡◌, map, drop, codes}
use Rattle.std.specs.List.{list_any}
use Rattle.httparse.specs.Spans.{header_bytes}
use Rattle.alto_http.specs.Fields.{values_of, lists_close}
use Rattle.alto_http.proofs.fields.closes.Given as goal

abbrev pub invariant-loop-field : goal.invariant-loop-field
invariant-loop-field l =
    list_any lists_close (values_of (codes "connection") (map (header_bytes l.bytes) (drop l.field-index l.fields)))
    ≡ list_any lists_close (values_of (codes "connection") (map (header_bytes l.bytes) l.fields))
