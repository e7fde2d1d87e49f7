use Rattle.std.proofs.Common.{◌≡◌, drop, ◌++◌}
use Rattle.json.specs.Tree.{members_tokens}
use Rattle.serde_json.specs.Written.{members_outline}
use Rattle.net_docs.proofs.WritingLemmas.{groups_in_order}
use Rattle.net_docs.proofs.writing.write_groups_of.Given as goal

-- what is written, and the groups of the PIDs that are left, make all groups
abbrev pub invariant-loop-pid : goal.invariant-loop-pid
invariant-loop-pid g l =
    let rows = g.R.RowStore.rows l.rows in
    record {
      before : l.out.before ≡ l.initial.out.before;
      tokens : l.out.tokens ++ members_tokens
          (members_outline (groups_in_order rows l.net (drop l.pid-index l.pids)))
          ≡ l.initial.out.tokens ++ members_tokens (members_outline (groups_in_order rows l.net l.pids));
    }
