use Rattle.batch_code.specs.Storable.{IsHead}
use Rattle.alto_desk.proofs.RecordLemmas.{begun}
use Rattle.alto_desk.proofs.memory.desk_in_memory.Goals as goal

pub returns-in-Ok : goal.returns-in-Ok
returns-in-Ok g c =
    let head : IsHead c.args.epoch.now c.args.window =
    record { is_epoch = c.as_bytes-name.ensures.read_again; least = c.requires.at_least; most = c.requires.at_most } in
    begun c.args.epoch.now c.args.window _ head (c.in-Ok.ensures.opened tt _ c.in_ok-begun.ensures).1
