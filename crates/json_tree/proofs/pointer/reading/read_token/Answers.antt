use Rattle.std.proofs.Common.{◌≡◌, [], ◌∷◌, ◌++◌, string_bytes, length, ap, sym, ◌∙◌, arith, rules, length-append}
use Rattle.std.specs.Prelude.{encode_utf8}
use Rattle.json_tree.specs.Pointer.{token_of}
use Rattle.json_tree.proofs.PointerLemmas.{plain_read, escape_read, left_without, token_of-with_plain}
use Rattle.json_tree.proofs.pointer.reading.read_token.Goals as goal

pub returns-in_default-unescaped-clause-err : goal.returns-in_default-unescaped-clause-err
returns-in_default-unescaped-clause-err c =
    let l = c.loop-plain in
    let cut = c.in-Some.ensures in
    let behind = c.in-Some.behind.now in
    let name = string_bytes c.push_str.new.self in
    let parts : c.args.token.now ≡ token_of name ++ 126 ∷ behind =
    plain_read c.args.token.now l.rest.now c.in-Some.plain.now behind (string_bytes l.name) name l.invariant.parts
    cut.0 (search rules) cut.1 l.invariant.one in
    record {
      read = name;
      left = behind;
      parts = parts;
      stray = c.in_default-unescaped.ensures;
      here = omega (arith, ap length parts, length-append (token_of name) (126 ∷ behind));
    }

pub loop-plain-preserved : goal.loop-plain-preserved
loop-plain-preserved c =
    let l = c.loop-plain in
    let cut = c.in-Some.ensures in
    let behind = c.in-Some.behind.now in
    let left = c.in-Some-unescaped.left.now in
    let ch = c.in-Some-unescaped.c in
    let name = string_bytes c.push_str.new.self in
    let parts : c.args.token.now ≡ token_of name ++ 126 ∷ behind =
    plain_read c.args.token.now l.rest.now c.in-Some.plain.now behind (string_bytes l.name) name l.invariant.parts
    cut.0 (search rules) cut.1 l.invariant.one in
    let ascii : encode_utf8 ch ≡ ch ∷ [] = c.push.ensures.ascii c.in-Some-unescaped.ensures.1 in
    record {
      text = search rules;
      parts = escape_read c.args.token.now name (string_bytes c.push.new.self) behind left ch parts
          c.in-Some-unescaped.ensures.0 (let e : string_bytes c.push.new.self ≡ name ++ encode_utf8 ch = search rules in
          e ∙ ap (λ s. name ++ s) ascii);
      one = left_without l.rest.now c.in-Some.plain.now behind left ch cut.0 c.in-Some-unescaped.ensures.0
          l.invariant.one;
    }

pub returns-clause-ok : goal.returns-clause-ok
returns-clause-ok c =
    let l = c.loop-plain in
    let name : string_bytes c.push_str-2.new.self ≡ string_bytes l.name ++ l.rest.now = search rules in
    rw (c.new.ensures, name) (token_of-with_plain (string_bytes l.name) l.rest.now c.in_default.ensures l.invariant.one
    ∙ sym l.invariant.parts)
