use Rattle.std.proofs.Common.{◌≡◌, drop, ◌++◌}
use Rattle.json.specs.Tree.{items_tokens}
use Rattle.serde_json.specs.View.{items_of}
use Rattle.serde_json.specs.Written.{items_outline}
use Rattle.net_docs.specs.Prefixes.{texts_in_family}
use Rattle.net_docs.proofs.writing.write_texts.Given as goal

-- what is written, and the texts of the prefixes that are left, make all texts
abbrev pub invariant-loop-prefix : goal.invariant-loop-prefix
invariant-loop-prefix l =
    let left = texts_in_family l.kind (drop l.prefix-index l.prefixes) in
    let all = texts_in_family l.kind l.prefixes in
    record {
      before : l.out.before ≡ l.initial.out.before;
      tokens : l.out.tokens ++ items_tokens (items_outline (items_of left)) ≡ l.initial.out.tokens
          ++ items_tokens (items_outline (items_of all));
    }
