use Rattle.std.proofs.Common.{◌≡◌, [], sym, subst, arith, rules}
use Rattle.std.specs.Str.{IsUtf8}
use Rattle.serde_json.proofs.Texts.{print-outline}
use Rattle.json_tree.specs.Tree.{data_of}
use Rattle.json_tree.proofs.ReadBack.{read_back}
use Rattle.json_tree.proofs.TextLemmas.{whole_value-read}
use Rattle.json_tree.proofs.writing.text.Goals as goal

pub returns-clause-text : goal.returns-clause-text
returns-clause-text c = grind (arith, print-outline (data_of c.args.tree.now))

pub returns-clause-reads_back : goal.returns-clause-reads_back
returns-clause-reads_back c = read_back (data_of c.args.tree.now) c.into_inner.result.items (search rules)
    c.in_ok-write.ensures.reads

pub returns-clause-whole : goal.returns-clause-whole
returns-clause-whole c =
    let text = c.into_inner.result.items in
    let none : c.write.new.out.before ≡ [] = search rules in
    let utf8 : IsUtf8 text = subst IsUtf8 (sym (rw none at c.into_inner.ensures.items)) c.into_inner.ensures.utf8 in
    λ shallow. whole_value-read text (data_of c.args.tree.now)
    utf8 (read_back (data_of c.args.tree.now) text (search rules) c.in_ok-write.ensures.reads shallow)
    c.in_ok-write.ensures.whole
