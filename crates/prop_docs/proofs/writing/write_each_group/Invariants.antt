use Rattle.std.proofs.Common.{◌≡◌, ◌++◌}
use Rattle.json.specs.Tree.{members_tokens}
use Rattle.serde_json.specs.Written.{members_outline}
use Rattle.prop_docs.specs.PropertyMap.{entities_of}
use Rattle.prop_docs.proofs.WritingLemmas.{groups_in_order}
use Rattle.prop_docs.proofs.writing.write_each_group.Given as goal

-- what is written, and the groups of the texts that are left, make all groups
abbrev pub invariant-loop-text : goal.invariant-loop-text
invariant-loop-text g l =
    let rows = g.R.RowStore.rows l.rows in
    record {
      before : l.out.before ≡ l.initial.out.before;
      tokens : l.out.tokens ++ members_tokens (members_outline (groups_in_order rows l.net l.text-iterator))
          ≡ l.initial.out.tokens ++ members_tokens
          (members_outline (groups_in_order rows l.net (entities_of rows l.net)));
    }
