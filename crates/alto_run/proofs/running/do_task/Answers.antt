use Rattle.std.proofs.Common.{refl}
use Rattle.alto_service.proofs.StatusLemmas.{counted_at}
use Rattle.alto_run.proofs.StatusLemmas.{begins_not, no_read, pipes_counted, prints, prints_no_fault, prints_not}
use Rattle.alto_run.proofs.StatusLemmas.{reads_stay, serves_not, shows_not, trims_not}
use Rattle.alto_run.proofs.TaskLemmas.{comes_drill, comes_help, comes_import, comes_init, comes_pipe, comes_serve}
use Rattle.alto_run.proofs.TaskLemmas.{comes_show, comes_trim, comes_version, in_range}
use Rattle.alto_run.proofs.running.do_task.Goals as goal

-- ---- what commands ask for

pub init-requires-clause-at_least : goal.init-requires-clause-at_least
init-requires-clause-at_least g c = (in_range _ _ c.in-Init.is c.requires).0

pub init-requires-clause-at_most : goal.init-requires-clause-at_most
init-requires-clause-at_most g c = (in_range _ _ c.in-Init.is c.requires).1

pub serve-requires-clause-at_least : goal.serve-requires-clause-at_least
serve-requires-clause-at_least g c lifetimes within = (in_range _ _ c.in-Serve.is c.requires).0

pub serve-requires-clause-at_most : goal.serve-requires-clause-at_most
serve-requires-clause-at_most g c lifetimes within = (in_range _ _ c.in-Serve.is c.requires).1

pub say_drilled-requires-clause-at_least : goal.say_drilled-requires-clause-at_least
say_drilled-requires-clause-at_least g c = (in_range _ _ c.in-Drill.is c.requires).0

pub say_drilled-requires-clause-at_most : goal.say_drilled-requires-clause-at_most
say_drilled-requires-clause-at_most g c = (in_range _ _ c.in-Drill.is c.requires).1

pub say-requires : goal.say-requires
say-requires g c = λ is. cc

pub say-requires-in-Version : goal.say-requires-in-Version
say-requires-in-Version g c = λ is. cc

-- ---- `init`

pub returns-in-Init-clause-done : goal.returns-in-Init-clause-done
returns-in-Init-clause-done g c =
    comes_init _ _ _ _ _ _ _ _ _ c.in-Init.is c.as_str.ensures.value c.init.ensures.others c.init.ensures.begun refl

pub returns-in-Init-clause-counted : goal.returns-in-Init-clause-counted
returns-in-Init-clause-counted g c = counted_at _ _ _ c.init.ensures.faults

pub returns-in-Init-clause-reads : goal.returns-in-Init-clause-reads
returns-in-Init-clause-reads g c =
    reads_stay _ _ _ c.init.ensures.reads (begins_not 4 no_read _ _ _ _ _ _ _ _ c.init.ensures.begun)

pub returns-in-Init-clause-writes : goal.returns-in-Init-clause-writes
returns-in-Init-clause-writes g c = c.init.ensures.writes

-- ---- `pipe`

pub returns-in-Pipe-clause-done : goal.returns-in-Pipe-clause-done
returns-in-Pipe-clause-done g c =
    comes_pipe _ _ _ _ _ _ _ _ c.in-Pipe.is c.as_str-in-Pipe.ensures.value c.pipe.ensures.others
    c.pipe.ensures.piped refl

pub returns-in-Pipe-clause-counted : goal.returns-in-Pipe-clause-counted
returns-in-Pipe-clause-counted g c = pipes_counted _ _ _ _ _ _ _ _ _ _ _ _ c.pipe.ensures.piped

pub returns-in-Pipe-clause-reads : goal.returns-in-Pipe-clause-reads
returns-in-Pipe-clause-reads g c = c.pipe.ensures.reads

pub returns-in-Pipe-clause-writes : goal.returns-in-Pipe-clause-writes
returns-in-Pipe-clause-writes g c = c.pipe.ensures.writes

-- ---- `serve`

pub returns-in-Serve-clause-done : goal.returns-in-Serve-clause-done
returns-in-Serve-clause-done g c =
    comes_serve _ _ _ _ _ _ _ _ _ _ _ c.in-Serve.is c.as_str-in-Serve.ensures.value c.serve.ensures.others
    c.serve.ensures.served

pub returns-in-Serve-clause-counted : goal.returns-in-Serve-clause-counted
returns-in-Serve-clause-counted g c = c.serve.ensures.counted

pub returns-in-Serve-clause-reads : goal.returns-in-Serve-clause-reads
returns-in-Serve-clause-reads g c =
    reads_stay _ _ _ c.serve.ensures.reads (serves_not 4 no_read _ _ _ _ _ _ _ _ _ c.serve.ensures.served)

pub returns-in-Serve-clause-writes : goal.returns-in-Serve-clause-writes
returns-in-Serve-clause-writes g c = c.serve.ensures.writes

-- ---- `import`

pub returns-in-Import-clause-done : goal.returns-in-Import-clause-done
returns-in-Import-clause-done g c =
    comes_import _ _ _ _ _ _ _ _ _ c.in-Import.is c.as_str-in-Import.ensures.value c.import.ensures.others
    c.import.ensures.imported refl

pub returns-in-Import-clause-counted : goal.returns-in-Import-clause-counted
returns-in-Import-clause-counted g c = counted_at _ _ _ c.import.ensures.faults

pub returns-in-Import-clause-reads : goal.returns-in-Import-clause-reads
returns-in-Import-clause-reads g c = c.import.ensures.reads

pub returns-in-Import-clause-writes : goal.returns-in-Import-clause-writes
returns-in-Import-clause-writes g c = c.import.ensures.writes

-- ---- `show`

pub returns-in-Show-clause-done : goal.returns-in-Show-clause-done
returns-in-Show-clause-done g c =
    comes_show _ _ _ _ _ _ _ _ _ c.in-Show.is c.as_str-in-Show.ensures.value c.show.ensures.others
    c.as_str-in-Show-2.ensures.value c.show.ensures.shown c.show.ensures.stays refl

pub returns-in-Show-clause-counted : goal.returns-in-Show-clause-counted
returns-in-Show-clause-counted g c = counted_at _ _ _ c.show.ensures.faults

pub returns-in-Show-clause-reads : goal.returns-in-Show-clause-reads
returns-in-Show-clause-reads g c =
    reads_stay _ _ _ c.show.ensures.reads (shows_not 4 no_read _ _ _ _ _ _ c.show.ensures.shown)

pub returns-in-Show-clause-writes : goal.returns-in-Show-clause-writes
returns-in-Show-clause-writes g c = c.show.ensures.writes

-- ---- `trim`

pub returns-in-Trim-clause-done : goal.returns-in-Trim-clause-done
returns-in-Trim-clause-done g c =
    comes_trim _ _ _ _ _ _ _ _ c.in-Trim.is c.as_str-in-Trim.ensures.value c.trim.ensures.others
    c.trim.ensures.trimmed refl

pub returns-in-Trim-clause-counted : goal.returns-in-Trim-clause-counted
returns-in-Trim-clause-counted g c = counted_at _ _ _ c.trim.ensures.faults

pub returns-in-Trim-clause-reads : goal.returns-in-Trim-clause-reads
returns-in-Trim-clause-reads g c =
    reads_stay _ _ _ c.trim.ensures.reads (trims_not 4 no_read _ _ _ _ _ _ _ c.trim.ensures.trimmed)

pub returns-in-Trim-clause-writes : goal.returns-in-Trim-clause-writes
returns-in-Trim-clause-writes g c = c.trim.ensures.writes

-- ---- what is printed alone

pub returns-in-Drill-clause-done : goal.returns-in-Drill-clause-done
returns-in-Drill-clause-done g c =
    comes_drill _ _ _ _ _ _ _ c.in-Drill.is (λ path kept was. was) c.say_drilled.ensures.told refl

pub returns-in-Drill-clause-counted : goal.returns-in-Drill-clause-counted
returns-in-Drill-clause-counted g c = λ is. absurd (c.say_drilled.ensures.vault is)

pub returns-in-Drill-clause-reads : goal.returns-in-Drill-clause-reads
returns-in-Drill-clause-reads g c = c.say_drilled.ensures.reads

pub returns-in-Drill-clause-writes : goal.returns-in-Drill-clause-writes
returns-in-Drill-clause-writes g c = c.say_drilled.ensures.writes

pub returns-in-Help-clause-done : goal.returns-in-Help-clause-done
returns-in-Help-clause-done g c = comes_help _ _ _ _ _ _ _ c.in-Help.is (λ path kept was. was) c.say.ensures.told refl

pub returns-in-Help-clause-counted : goal.returns-in-Help-clause-counted
returns-in-Help-clause-counted g c = λ is. absurd (prints_no_fault _ _ _ _ (prints _ _ _ _ c.say.ensures.told) is)

pub returns-in-Help-clause-reads : goal.returns-in-Help-clause-reads
returns-in-Help-clause-reads g c =
    reads_stay _ _ _ c.say.ensures.reads (prints_not 4 no_read _ _ _ _ (prints _ _ _ _ c.say.ensures.told))

pub returns-in-Help-clause-writes : goal.returns-in-Help-clause-writes
returns-in-Help-clause-writes g c = c.say.ensures.writes

pub returns-in-Version-clause-done : goal.returns-in-Version-clause-done
returns-in-Version-clause-done g c =
    comes_version _ _ _ _ _ _ c.in-Version.is (λ path kept was. was) c.say-in-Version.ensures.told refl

pub returns-in-Version-clause-counted : goal.returns-in-Version-clause-counted
returns-in-Version-clause-counted g c =
    λ is. absurd (prints_no_fault _ _ _ _ (prints _ _ _ _ c.say-in-Version.ensures.told) is)

pub returns-in-Version-clause-reads : goal.returns-in-Version-clause-reads
returns-in-Version-clause-reads g c =
    reads_stay _ _ _ c.say-in-Version.ensures.reads
    (prints_not 4 no_read _ _ _ _ (prints _ _ _ _ c.say-in-Version.ensures.told))

pub returns-in-Version-clause-writes : goal.returns-in-Version-clause-writes
returns-in-Version-clause-writes g c = c.say-in-Version.ensures.writes
