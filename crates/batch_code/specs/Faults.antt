-- Where bytes leave the spellings of batches and of the row before them.
use Rattle.std.specs.Prelude.{◌≡◌, ℕ, ◌-◌, List, ◌++◌, decimal, codes, ⊤}
use Rattle.alto_rows.specs.Accepted.{Accepted}
use Rattle.alto_addr.specs.Place.{IsLongestFront}
use Rattle.batch_code.specs.Spelling.{batch_bytes, head_bytes}
use Rattle.batch_code.specs.Storable.{IsStorable, IsHead}
use Rattle.code_bytes.specs.declared.stop.Stop.{Stop}
use Rattle.code_bytes.specs.declared.stop.Stop.TheVariants as stop
use Rattle.batch_code.specs.declared.fault.CodeFault.{CodeFault}
use Rattle.batch_code.specs.declared.fault.CodeFault.TheVariants as fault

-- the bytes are a batch's
abbrev pub IsBatch : List ℕ → Type 0
IsBatch bytes = (batch : Accepted) × IsStorable batch × (bytes ≡ batch_bytes batch)

-- the bytes are those of an epoch and a window
abbrev pub IsRowZero : List ℕ → Type 0
IsRowZero bytes = (epoch : List ℕ) × (window : ℕ) × IsHead epoch window × (bytes ≡ head_bytes epoch window)

-- the bytes are no row's, and where they leave the rows: the longest prefix that begins one ends at the place
abbrev pub IsFaultOf : (List ℕ → Type 0) → List ℕ → CodeFault → Type 0
IsFaultOf IsRow bytes (fault.BadAt place) = ¬ (IsRow bytes) × IsLongestFront IsRow bytes place
IsFaultOf IsRow bytes fault.Memory = ⊤

-- the fault of so many bytes where their reader stops
abbrev pub fault_at : ℕ → Stop → CodeFault
fault_at count (stop.Left left) = fault.BadAt (count - left)
fault_at count stop.Memory = fault.Memory

-- what is written of a fault
abbrev pub fault_text : CodeFault → List ℕ
fault_text (fault.BadAt place) = codes "no stored row, from place " ++ (decimal place ++ codes " on")
fault_text fault.Memory = codes "out of memory"
