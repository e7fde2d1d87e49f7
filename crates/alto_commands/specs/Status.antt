-- The statuses that commands end with, and the counts of faults then.
use Rattle.std.specs.Prelude.{ℕ, if◌then◌else◌, ◌==◌}
use Rattle.alto_keeper.specs.Stored.{one_more}
use Rattle.alto_serve.specs.declared.end.End.{End}
use Rattle.alto_serve.specs.declared.end.End.TheVariants as end

-- the status of a connection's end
abbrev pub status_of : End → ℕ
status_of end.Closed = 0
status_of end.Memory = 1
status_of end.ReadFault = 4
status_of end.WriteFault = 5
status_of end.Cut = 14
status_of end.Limit = 15

-- the count of a vault's faults: one more where the status is a fault of the vault
abbrev pub faults_at : ℕ → ℕ → ℕ
faults_at status n = if status == 3 then one_more n else n

-- the count of failed reads: one more where the status is a read's fault
abbrev pub reads_at : ℕ → ℕ → ℕ
reads_at status n = if status == 4 then one_more n else n

-- the count of failed writes: one more where the status is a write's fault
abbrev pub writes_at : ℕ → ℕ → ℕ
writes_at status n = if status == 5 then one_more n else n
