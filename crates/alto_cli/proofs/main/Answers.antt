use denote.Param.Send.{sendable}
use Rattle.alto_files.proofs.SendLemmas.{keeper_send}
use Rattle.alto_cli.proofs.main.Goals as goal

pub run_on-status-requires-send-V-Keeper : goal.run_on-status-requires-send-V-Keeper
run_on-status-requires-send-V-Keeper g c κs = search (keeper_send, sendable)
