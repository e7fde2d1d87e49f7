-- A keeper over a file may go to another thread: what it is made of may, type by type.
use denote.Param.Send.{IsSend, recorded_send, sendable, struct_send}
use denote.Struct.Declared.{shape}
use Rattle.keeper_sqlite.proofs.sql_keeper.SqlKeeper.TheSendSync as records
use Rattle.sqlite_store.proofs.store.FileStore.TheSendSync as store
use Rattle.sqlite_disk.proofs.modelled.Modelled.TheSendSync as disk
use Rattle.sqlite_disk.specs.contracts.modelled.Modelled as modelled
use Rattle.sqlite_disk.specs.contracts.start.Unknown as unknown
use Rattle.sqlite_disk.specs.contracts.start.UnknownStart.TheImpl as start
use Rattle.sqlite_std_file.specs.contracts.host.Host as host
use Rattle.sqlite_std_file.specs.contracts.host.HostCalls.TheImpl as calls
use Rattle.alto_files.specs.contracts.file_keeper.FileKeeper.{the_row, the_type}

host_send : IsSend host.the_row
host_send = search sendable depth 12

disk_send : IsSend (modelled.the_row host.the_row unknown.the_row calls.ghosts start.ghosts)
disk_send = disk.the_send host.the_row unknown.the_row calls.ghosts start.ghosts host_send

pub keeper_send : IsSend the_row
keeper_send =
    recorded_send _ _ _ the_type.to_one
    (struct_send (shape the_type) (search (records.the_send, store.the_send, disk_send) depth 4, tt))
