use Rattle.std.proofs.Common.{◌≡◌, bytes_eq, sym, ap, ◌∙◌, true, false}
use Rattle.serde_json.specs.Find.{get_member}
use Rattle.json_tree.specs.Tree.{entries_data}
use Rattle.json_tree.proofs.Lookups.{entry_here, entry_later}
use Rattle.json_tree.proofs.Objects.{Entry}
use Rattle.json_tree.proofs.looking.value_at.Goals as goal

pub returns-then-eq : goal.returns-then-eq
returns-then-eq c =
    let e : Entry = (c.in-Some.key.now, c.in-Some.tree.now) in
    let same : bytes_eq e.0 c.args.name.now ≡ true = rw c.as_str.ensures.value at (sym c.eq.ensures ∙ c.if-eq.true) in
    sym (entry_here c.args.name.now e c.next.new.self same) ∙ ap (λ es. get_member c.args.name.now (entries_data es))
    (sym c.in-Some.ensures.steps) ∙ c.loop-key.invariant

pub loop-key-preserved : goal.loop-key-preserved
loop-key-preserved c =
    let e : Entry = (c.in-Some.key.now, c.in-Some.tree.now) in
    let other : bytes_eq e.0 c.args.name.now ≡ false =
    rw c.as_str.ensures.value at (sym c.eq.ensures ∙ c.if-eq.false) in
    sym (entry_later c.args.name.now e c.next.new.self other) ∙ ap (λ es. get_member c.args.name.now (entries_data es))
    (sym c.in-Some.ensures.steps) ∙ c.loop-key.invariant
