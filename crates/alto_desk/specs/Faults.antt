-- How a fault of a keeper is told.
use Rattle.alto_keeper.specs.declared.fault.KeepFault.{KeepFault}
use Rattle.alto_keeper.specs.declared.fault.KeepFault.TheVariants as keep
use Rattle.alto_book.specs.declared.fault.EditFault.{EditFault}
use Rattle.alto_book.specs.declared.fault.EditFault.TheVariants as edit
use Rattle.alto_desk.specs.declared.fault.InitFault.{InitFault}
use Rattle.alto_desk.specs.declared.fault.InitFault.TheVariants as init
use Rattle.alto_desk.specs.declared.fault.OpenFault.{OpenFault}
use Rattle.alto_desk.specs.declared.fault.OpenFault.TheVariants as opening
use Rattle.alto_desk.specs.declared.fault.TrimFault.{TrimFault}
use Rattle.alto_desk.specs.declared.fault.TrimFault.TheVariants as trim

-- by an import
abbrev pub edit_fault : KeepFault → EditFault
edit_fault keep.Failed = edit.Keeper
edit_fault keep.Memory = edit.Memory

-- where a store is begun
abbrev pub init_fault : KeepFault → InitFault
init_fault keep.Failed = init.Keeper
init_fault keep.Memory = init.Memory

-- where a book is opened
abbrev pub open_fault : KeepFault → OpenFault
open_fault keep.Failed = opening.Keeper
open_fault keep.Memory = opening.Memory

-- where a book is trimmed
abbrev pub trim_fault : KeepFault → TrimFault
trim_fault keep.Failed = trim.Keeper
trim_fault keep.Memory = trim.Memory
