use Rattle.std.proofs.Common.{◌≡◌, ◌++◌, drop}
use Rattle.json.specs.Tree.{members_tokens}
use Rattle.serde_json.specs.Written.{members_outline}
use Rattle.prop_docs.specs.Writing.{props_in_order}
use Rattle.prop_docs.proofs.writing.write_each_property.Given as goal

-- what is written, and the properties that are left, make all properties
abbrev pub invariant-loop-property : goal.invariant-loop-property
invariant-loop-property l = record {
  before : l.out.before ≡ l.initial.out.before;
  tokens : l.out.tokens ++ members_tokens (members_outline (props_in_order (drop l.property-index l.properties)))
      ≡ l.initial.out.tokens ++ members_tokens (members_outline (props_in_order l.properties));
}
