use Rattle.std.proofs.Common.{◌≡◌, ◌++◌, drop, map}
use Rattle.json.specs.Tree.{items_tokens}
use Rattle.serde_json.specs.View.{items_of}
use Rattle.serde_json.specs.Written.{items_outline}
use Rattle.cost_filters.specs.Filter.{type_data}
use Rattle.cost_filters.proofs.writing.write_each_type.Given as goal

-- what is written, and the types that are left, make all types
abbrev pub invariant-loop-one : goal.invariant-loop-one
invariant-loop-one l =
    record {
      before : l.out.before ≡ l.initial.out.before;
      tokens : l.out.tokens ++ items_tokens (items_outline (items_of (map type_data (drop l.one-index l.types))))
          ≡ l.initial.out.tokens ++ items_tokens (items_outline (items_of (map type_data l.types)));
    }
