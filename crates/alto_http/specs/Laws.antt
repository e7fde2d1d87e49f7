-- What holds of the bytes of every connection: the statements of the laws.
use Rattle.std.specs.Prelude.{◌≡◌, ◌≢◌, ℕ, ◌+◌, List, [], ◌++◌, take, drop}
use Rattle.httparse.specs.Grammar.{RequestHead, ReadsRequest}
use Rattle.alto_http.specs.declared.fault.HeadFault.{HeadFault}
use Rattle.alto_http.specs.declared.fault.HeadFault.TheVariants.{Cut, ReadFault, Memory}
use Rattle.alto_http.specs.Request.{RequestData}
use Rattle.alto_http.specs.Splits.{IsHeadAt, Begins, IsRefused, Ending, Ends, Splits}

-- bytes begin with one request at most, and leave one rest
abbrev pub BeginIsOne : Type 0
BeginIsOne = (bytes : List ℕ) (one other : RequestData) (rest remainder : List ℕ)
    → Begins bytes one rest → Begins bytes other remainder → (one ≡ other) × (rest ≡ remainder)

-- bytes that begin with a request are no end
abbrev pub BeginIsNoEnd : Type 0
BeginIsNoEnd =
    (bytes : List ℕ) (request : RequestData) (rest : List ℕ) (ending : Ending)
    → Begins bytes request rest → Ends bytes ending → ⊥

-- how bytes end is unambiguous: blank, cut, or refused by one fault
abbrev pub EndIsOne : Type 0
EndIsOne = (bytes : List ℕ) (one other : Ending) → Ends bytes one → Ends bytes other → one ≡ other

-- the split of bytes is unambiguous
abbrev pub SplitIsOne : Type 0
SplitIsOne = (bytes : List ℕ) (requests others : List RequestData) (ending other : Ending)
    → Splits bytes requests ending → Splits bytes others other → (requests ≡ others) × (ending ≡ other)

-- the grammar reads a head to its end
abbrev pub HeadIsReadWhole : Type 0
HeadIsReadWhole = (bytes : List ℕ) (start size : ℕ) (head : RequestHead) (rest : List ℕ)
    → IsHeadAt bytes start size → ReadsRequest (take size (drop start bytes)) head rest → rest ≡ []

-- the bytes are a head, the body of the request that it stands for, and the rest
abbrev pub BeginIsWhole : Type 0
BeginIsWhole = (bytes : List ℕ) (request : RequestData) (rest : List ℕ)
    → Begins bytes request rest
    → (start : ℕ) × (size : ℕ) × IsHeadAt bytes start size × (bytes ≡ take (start + size) bytes ++ request.body ++ rest)

-- a request that bytes begin with stands whole in the bytes before what is cut off behind it
abbrev pub BeginNeedsNoMore : Type 0
BeginNeedsNoMore = (bytes : List ℕ) (request : RequestData) (rest more : List ℕ)
    → Begins bytes request (rest ++ more) → (prefix : List ℕ) × (bytes ≡ prefix ++ more) × Begins prefix request rest

-- a refusal has the fault of a check: it is no cut, no failed read and not out of memory
abbrev pub RefusalIsByACheck : Type 0
RefusalIsByACheck = (bytes : List ℕ) (fault : HeadFault)
    → IsRefused bytes fault → (fault ≢ Cut) × (fault ≢ ReadFault) × (fault ≢ Memory)
