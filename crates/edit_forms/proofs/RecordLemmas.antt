-- Records read one after another are the records of the text.
use Rattle.std.proofs.Common.{◌≡◌, ◌∙◌, sym, ◌<◌, ◌⊎◌, inl, inr, ℕ, zero, suc, ◌+◌, Bool, true, false, cond, List, []}
use Rattle.std.proofs.Common.{◌∷◌, ◌++◌, length, Option, Some, None, IsSome, Bor, refl, ap, add-one, arith}
use Rattle.csv.specs.Machine.{Read, ends_at_end, field_after, fields_after, is_end, next_record, step}
use Rattle.csv.specs.Reading.{NextIs, ReadRecord, ReadsNext, default_config, pending_of, records_from, records_next}
use Rattle.csv.specs.declared.parser.State.{State}
use Rattle.csv.specs.declared.parser.State.TheVariants as st
use Rattle.csv.specs.declared.reader.Reader.{Reader}
use Rattle.edit_forms.specs.Records.{IsPlain, from_here, records_of, unread}

-- a read leaves fewer bytes, or was the last
abbrev pub LeavesLess : List ℕ → Option Read → Type 0
LeavesLess bytes None = Unit {0}
LeavesLess bytes (Some read) = (length read.2 < length bytes) ⊎ ((read.1 ≡ st.StartRecord) × (read.2 ≡ []))

at_end : (ends : Bool) (fields : List (List ℕ)) → LeavesLess [] (cond ends (Some (fields, st.StartRecord, [])) None)
at_end true fields = inr (refl, refl)
at_end false fields = tt

one_more : (byte : ℕ) (bytes : List ℕ) (more : Option Read) → LeavesLess bytes more → LeavesLess (byte ∷ bytes) more
one_more byte bytes None h = tt
one_more byte bytes (Some read) (inl less) = inl (omega arith)
one_more byte bytes (Some read) (inr last) = inr last

at_byte : (ends : Bool) (byte : ℕ) (bytes : List ℕ) (fields : List (List ℕ)) (state : State) (more : Option Read)
    → LeavesLess bytes more → LeavesLess (byte ∷ bytes) (cond ends (Some (fields, state, bytes)) more)
at_byte true byte bytes fields state more h = inl (omega arith)
at_byte false byte bytes fields state more h = one_more byte bytes more h

leaves_less : (state : State) (fields : List (List ℕ)) (field bytes : List ℕ)
    → LeavesLess bytes (next_record default_config state fields field bytes)
unfolding next_record
leaves_less state fields field [] = at_end (ends_at_end state) (fields ++ (field ∷ []))
leaves_less state fields field (byte ∷ bytes) =
    at_byte (is_end (step default_config state byte).1) byte bytes _ _ _
    (leaves_less (step default_config state byte).0 (fields_after (step default_config state byte).1 fields field)
    (field_after (step default_config state byte).1 byte field) bytes)

-- no bytes hold no record
no_bytes : (n : ℕ) → records_from default_config n st.StartRecord [] ≡ []
unfolding records_from next_record
no_bytes zero = refl
no_bytes (suc n) = refl

-- two bounds on the number of records, each past the number of bytes, give the same records after a read
same_next : (n m : ℕ) (bytes : List ℕ) (next : Option Read) → LeavesLess bytes next → length bytes < suc n
    → length bytes < suc m
    → ((state : State) (left : List ℕ) → length left < n → length left < m
    → records_from default_config n state left ≡ records_from default_config m state left)
    → records_next (records_from default_config n) next ≡ records_next (records_from default_config m) next
same_next n m bytes None less in_n in_m more = refl
same_next n m bytes (Some read) (inl less) in_n in_m more =
    ap (λ (rest : List (List (List ℕ))). read.0 ∷ rest) (more read.1 read.2 (omega arith) (omega arith))
same_next n m bytes (Some read) (inr last) in_n in_m more =
    ap (λ (rest : List (List (List ℕ))). read.0 ∷ rest) (rw (last.0, last.1) (no_bytes n ∙ sym (no_bytes m)))

-- two bounds on the number of records, each past the number of bytes, give the same records
pub records_from-bound : (n m : ℕ) (state : State) (bytes : List ℕ) → length bytes < n → length bytes < m
    → records_from default_config n state bytes ≡ records_from default_config m state bytes
unfolding records_from
records_from-bound zero m state bytes in_n in_m = absurd (omega arith)
records_from-bound (suc n) zero state bytes in_n in_m = absurd (omega arith)
records_from-bound (suc n) (suc m) state bytes in_n in_m =
    same_next n m bytes (next_record default_config state [] [] bytes) (leaves_less state [] [] bytes) in_n in_m
    (λ next left a b. records_from-bound n m next left a b)

-- the records after a read, in as many turns as they may take
after_read : (n : ℕ) (bytes : List ℕ) (next : Option Read) → LeavesLess bytes next → length bytes < suc n
    → records_next (records_from default_config n) next ≡ records_next (λ state left. records_of state (Some left)) next
after_read n bytes None less in_n = refl
after_read n bytes (Some read) (inl less) in_n =
    ap (λ (rest : List (List (List ℕ))). read.0 ∷ rest)
    (records_from-bound n (length read.2 + 1) read.1 read.2 (omega arith) (omega arith))
after_read n bytes (Some read) (inr last) in_n =
    ap (λ (rest : List (List (List ℕ))). read.0 ∷ rest) (rw (last.0, last.1) (no_bytes n ∙ sym (no_bytes 1)))

-- the records of bytes are the first and those of the bytes after it
pub records_of-next : (state : State) (bytes : List ℕ)
    → records_of state (Some bytes) ≡ records_next (λ next left. records_of next (Some left))
    (next_record default_config state [] [] bytes)
unfolding records_from
records_of-next state bytes =
    rw (add-one (length bytes)) (after_read (length bytes) bytes _ (leaves_less state [] [] bytes) (omega arith))

by_next : (next : Option Read) (found : Bool) (fields : List (List ℕ)) (state : State) (left : List ℕ)
    → NextIs next found fields state left
    → records_next (λ state left. records_of state (Some left)) next
    ≡ from_here found fields (records_of state (Some left))
by_next None found fields state left h = rw h refl
by_next (Some read) found fields state left h = rw (h.0, h.1, h.2, h.3) refl

by_source : (state next : State) (source after : Option (List ℕ)) (found : Bool) (fields : List (List ℕ))
    → IsSome source → ReadsNext default_config state source after found fields next
    → records_of state source ≡ from_here found fields (records_of next after)
by_source state next None after found fields known h = cc known
by_source state next (Some bytes) None found fields known h = absurd h
by_source state next (Some bytes) (Some left) found fields known h =
    records_of-next state bytes ∙ by_next _ found fields next left h

-- a read of a record takes it from those unread
pub unread-read : (old new : Reader (Bor (List ℕ))) (found : Bool) (fields : List (List ℕ))
    → IsPlain old → ReadRecord (λ bytes. Some bytes.now) old new found fields
    → unread old ≡ from_here found fields (unread new)
unread-read old new found fields plain read =
    rw read.1 (by_source old.state new.state _ (pending_of (Some new.rdr.now) new) found fields
    plain.source (rw plain.config at read.0))
