-- What a call on doors does to their counts.
use Rattle.std.specs.Prelude.{ℕ, Bool, if◌then◌else◌, Result, Ok, Err}
use Rattle.alto_http.specs.Link.{one_more}
use Rattle.alto_doors.specs.Door.{has_failed, is_served}
use Rattle.alto_doors.specs.declared.counts.DoorCounts.{DoorCounts}
use Rattle.alto_doors.specs.declared.fault.DoorFault.{DoorFault}
use Rattle.alto_doors.specs.declared.fault.DoorFault.TheVariants as fault
use Rattle.alto_doors.specs.declared.state.DoorState.{DoorState}

-- nothing was counted yet
abbrev pub at_first : DoorCounts
at_first = record { faults = 0; served = 0; failed_opens = 0 }

-- a count, with one more where this holds
abbrev pub one_more_if : Bool → ℕ → ℕ
one_more_if holds n = if holds then one_more n else n

-- the counts after an open that failed
abbrev pub open_failed : DoorCounts → DoorCounts
open_failed counts =
    record counts { faults = one_more counts.faults; failed_opens = one_more counts.failed_opens }

-- the counts after an open: out of memory counts as none
abbrev pub opened : {T : Type 0} → Result T DoorFault → DoorCounts → DoorCounts
opened (Ok door) counts = counts
opened (Err fault.Failed) counts = open_failed counts
opened (Err fault.Memory) counts = counts

-- the counts after a door in this state was closed: one fault more where it has failed, and one door more that was
-- served to its end where it was
abbrev pub closed : DoorState → DoorCounts → DoorCounts
closed door counts =
    record counts {
      faults = one_more_if (has_failed door) counts.faults;
      served = one_more_if (is_served door) counts.served;
    }
