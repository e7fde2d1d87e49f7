-- What is read one after another, said by relations: each tells what one thing is read as, a value or a fault.
use Rattle.std.specs.Prelude.{◌≡◌, Result, Ok, Err}
use Rattle.alto_asks.specs.declared.fault.AskFault.{AskFault}

-- what may be read
abbrev pub Reading : Type 0 → Type 1
Reading A = Result A AskFault → Type 0

-- this is what is read
abbrev pub Gives : {A : Type 0} → Result A AskFault → Reading A
Gives one read = one ≡ read

-- first this and then, with its value, the rest; or the fault of the first
infixl 10 ◌>>◌
pub data ◌>>◌ {A B : Type 0} (First : Reading A) (Rest : A → Reading B) (read : Result B AskFault) : Type 0 where
  goes : (value : A) → First (Ok value) → Rest value read → (First >> Rest) read
  fails : (why : AskFault) → First (Err why) → read ≡ Err why → (First >> Rest) read
