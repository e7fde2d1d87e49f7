-- Digits and dots are text, which stands in the room from its place to the end.
use Rattle.std.proofs.Common.{rules, ◌≡◌, ◌++◌, ◌-◌, IsUtf8, OnOk, string_bytes, drop, take, subst, sym, ◌∙◌}
use Rattle.std.specs.Net.Text.{ipv4_text}
use Rattle.alto_addr.specs.Text.{octets_of}
use Rattle.alto_addr.proofs.Dotted.{dotted_is_utf8, whole_end}
use Rattle.alto_addr.proofs.addr.push_dotted.Goals as goal

pub unreachable-requires : goal.unreachable-requires
unreachable-requires c =
    let behind = whole_end c.put_dotted-start.result c.put_dotted-start.new.room c.put_dotted-start.array_long
    ∙ c.put_dotted-start.ensures.text in
    c.in-Err.ensures.cases.0 (subst IsUtf8 (sym behind) (dotted_is_utf8 c.args.number c.ranges.number.fits))

-- the text that is put at the end
shown : (c : goal.After-push_str) → c.in-Ok.dotted.now ≡ ipv4_text (octets_of c.args.number)
shown c = c.in-Ok.ensures.cases.0
    ∙ whole_end c.put_dotted-start.result c.put_dotted-start.new.room c.put_dotted-start.array_long
    ∙ c.put_dotted-start.ensures.text

pub returns : goal.returns
returns c = search (rules, shown c)
