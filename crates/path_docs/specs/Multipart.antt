-- The body of an answer (RFC 9275, section 7.2.6; RFC 2387): its two parts, each behind a boundary with its content id
-- and its type.
use Rattle.std.specs.Prelude.{◌++◌, codes}
use Rattle.serde_json.specs.Data.{Data}
use Rattle.serde_json.specs.Written.{compact_text}
use Rattle.alto_maps.specs.Shape.{Name}

-- a line with its end
abbrev pub line : Name → Name
line text = text ++ codes "\r\n"

-- the lines before a part of this kind: the boundary, the fields and an empty line
abbrev pub part_head : Name → Name
part_head kind =
    codes "--alto-part\r\nContent-ID: <"
    ++ kind
    ++ codes "@alto>\r\nContent-Type: application/alto-"
    ++ kind
    ++ codes "+json\r\n\r\n"

-- a part of this kind with its text
unfoldable pub part : Name → Name → Name
part kind text = part_head kind ++ line text

-- the boundary behind the last part
unfoldable pub closing : Name
closing = line (codes "--alto-part--")

-- the body
abbrev pub multipart : Data → Data → Name
multipart costs properties =
    part (codes "costmap") (compact_text costs) ++ part (codes "propmap") (compact_text properties) ++ closing
