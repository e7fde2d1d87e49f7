use Rattle.std.proofs.Common.{◌≡◌, ◌∙◌, rules, sym, true}
use Rattle.std.specs.BTreeMap.{is_at}
use Rattle.std.specs.BTreeSet.{insert_key}
use Rattle.std.specs.List.{list_any}
use Rattle.alto_rows.specs.Order.{name_cmp}
use Rattle.cost_tables.proofs.SourceLemmas.{among-insert_key, among-member, last_among}
use Rattle.cost_tables.proofs.sources.add.Goals as goal

pub returns-then-eq : goal.returns-then-eq
returns-then-eq c =
    let names = c.args.sources.now.keys in
    let there : list_any (is_at (name_cmp c.args.source.now)) names ≡ true =
    last_among names c.last.result c.args.source (sym c.eq.ensures ∙ c.if-eq.true) c.last.ensures.member in
    λ name. among-member name c.args.source.now names there

pub returns : goal.returns
returns c =
    let more : c.insert.new.self.keys ≡ insert_key name_cmp c.args.sources.now.keys c.args.source.now = search rules in
    λ name. rw more (among-insert_key name c.args.source.now c.args.sources.now.keys)
