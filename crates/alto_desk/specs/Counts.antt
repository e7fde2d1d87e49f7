-- Counts of the faults of a keeper after a call of a desk.
use Rattle.std.specs.Prelude.{ℕ, Result, Err}
use Rattle.alto_book.specs.declared.fault.EditFault.{EditFault}
use Rattle.alto_book.specs.declared.fault.EditFault.TheVariants as edit
use Rattle.alto_keeper.specs.Stored.{one_more}
use Rattle.alto_desk.specs.declared.fault.InitFault.{InitFault}
use Rattle.alto_desk.specs.declared.fault.InitFault.TheVariants as init
use Rattle.alto_desk.specs.declared.fault.OpenFault.{OpenFault}
use Rattle.alto_desk.specs.declared.fault.OpenFault.TheVariants as opening
use Rattle.alto_desk.specs.declared.fault.TrimFault.{TrimFault}
use Rattle.alto_desk.specs.declared.fault.TrimFault.TheVariants as trim

-- after an import: one more exactly where its batch couldn't be kept
abbrev pub after_edit : {T : Type 0} → Result T EditFault → ℕ → ℕ
after_edit (Err edit.Keeper) n = one_more n
after_edit _ n = n

-- after a store was begun: one more exactly where the keeper refused
abbrev pub after_init : {T : Type 0} → Result T InitFault → ℕ → ℕ
after_init (Err init.Keeper) n = one_more n
after_init _ n = n

-- after a fault of opening: one more exactly where the keeper refused
abbrev pub after_fault : OpenFault → ℕ → ℕ
after_fault opening.Keeper n = one_more n
after_fault _ n = n

-- after a trim: one more exactly where the keeper refused
abbrev pub after_trim : {T : Type 0} → Result T TrimFault → ℕ → ℕ
after_trim (Err trim.Keeper) n = one_more n
after_trim _ n = n
