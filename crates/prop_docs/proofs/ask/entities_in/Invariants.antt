use Rattle.std.proofs.Common.{◌++◌, Ok, drop, List}
use Rattle.std.specs.Prelude.{Result}
use Rattle.json_tree.specs.Tree.{items_data}
use Rattle.alto_asks.specs.Asks.{◌>>=◌}
use Rattle.alto_asks.specs.declared.fault.AskFault.{AskFault}
use Rattle.alto_rows.specs.declared.entity.Entity.{Entity}
use Rattle.prop_docs.specs.Ask.{ReadsEntities}
use Rattle.prop_docs.proofs.ask.entities_in.Given as goal

-- whatever the items that are left are read as, all are read as the entities so far and that
abbrev pub invariant-loop-item : goal.invariant-loop-item
invariant-loop-item l =
    (rest : Result (List Entity) AskFault) → ReadsEntities l.net (items_data (drop l.item-index l.items)) rest
    → ReadsEntities l.net (items_data l.items) (rest >>= λ more. Ok (l.entities.items ++ more))
