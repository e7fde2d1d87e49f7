-- What a column's text writes, or that it writes nothing.
use Rattle.std.proofs.Common.{◌≡◌, ℕ, ◌≤◌, Bool, true, false, cond, not, List, [], ◌∷◌, All, IsTrue, slice_index_or}
use Rattle.std.proofs.Common.{◌||◌, Option, Some, None, Result, Ok, Err, refl, subst}
use Rattle.std.specs.List.{list_any}
use Rattle.std.proofs.lemmas.List.Elements.{All-cons, All-nil}
use Rattle.std.proofs.lemmas.List.Folds.{list_any_none}
use Rattle.alto_addr.specs.declared.prefix.Prefix.{Prefix}
use Rattle.alto_addr.specs.declared.fault.AddrFault.{AddrFault}
use Rattle.alto_addr.specs.declared.fault.AddrFault.TheVariants as fault
use Rattle.alto_addr.specs.Bits.{width_of, IsPrefix}
use Rattle.alto_addr.specs.Faults.{IsPrefixFault}
use Rattle.alto_addr.proofs.Unique.{one_prefix}
use Rattle.alto_names.specs.Name.{named, unless_bad, is_metric_byte}
use Rattle.alto_names.specs.declared.label.NameFault.{NameFault}
use Rattle.alto_edits.specs.Edits.{is_control, max_reservable_bandwidth}
use Rattle.edit_forms.specs.declared.columns.ColumnFault.{ColumnFault}
use Rattle.edit_forms.specs.declared.columns.ColumnFault.TheVariants.{Bad, Memory}
use Rattle.edit_forms.specs.Answers.{IsValue}
use Rattle.edit_forms.specs.Columns.{WritesName, WritesPrefix, WritesBandwidth}

-- what reads as a name is that name
read_as : (too_long : Bool) (fault : NameFault) (text name : List ℕ) (bad : Option ℕ)
    → cond too_long (Err fault) (unless_bad text bad) ≡ Ok name → text ≡ name
read_as true fault text name bad h = cc h
read_as false fault text name None h = cc h
read_as false fault text name (Some place) h = cc h

pub name_is_text : (alphabet : ℕ → Bool) (longest : ℕ) (text name : List ℕ)
    → named alphabet longest text ≡ Ok name → text ≡ name
name_is_text alphabet longest [] name h = cc h
name_is_text alphabet longest (byte ∷ rest) name h = read_as _ _ (byte ∷ rest) name _ h

-- a name reads as itself
pub named_again : (alphabet : ℕ → Bool) (longest : ℕ) (text name : List ℕ)
    → named alphabet longest text ≡ Ok name → named alphabet longest name ≡ Ok name
named_again alphabet longest text name h =
    subst (λ (again : List ℕ). named alphabet longest again ≡ Ok name) (name_is_text alphabet longest text name h) h

-- the name of the one property reads as a name
pub bandwidth_read : (column : ℕ) (text : List ℕ) (result : Result (List ℕ) ColumnFault)
    → text ≡ max_reservable_bandwidth
    → IsValue column (WritesName is_metric_byte 32 text) result → IsValue column (WritesBandwidth text) result
bandwidth_read column text (Ok name) same reads = (
  same,
  subst (λ (written : List ℕ). written ≡ max_reservable_bandwidth)
      (name_is_text is_metric_byte 32 text name reads) same,
)
bandwidth_read column text (Err (Bad at)) same reads = absurd (reads.1 max_reservable_bandwidth (rw same refl))
bandwidth_read column text (Err Memory) same reads = tt

-- a fault of a prefix says that there is none
pub no_prefix : (text : List ℕ) (f : AddrFault) → IsPrefixFault text f → (prefix : Prefix)
    → ¬ (WritesPrefix text prefix)
no_prefix text (fault.BadText place) h prefix k = h.0 (prefix.addr, prefix.len, k)
no_prefix text fault.BadLength h prefix k =
    let same = one_prefix text prefix.addr h.0 prefix.len h.1 k h.2 in
    let fits : h.1 ≤ width_of h.0 =
    subst (λ n. n ≤ width_of h.0) same.1 (subst (λ x. prefix.len ≤ width_of x) same.0 prefix.is_prefix.0) in
    h.3 fits
no_prefix text fault.HostBits h prefix k =
    let same = one_prefix text prefix.addr h.0 prefix.len h.1 k h.2 in
    let is : IsPrefix h.0 h.1 = subst (λ n. IsPrefix h.0 n)
    same.1 (subst (λ x. IsPrefix x prefix.len) same.0 prefix.is_prefix) in
    h.4 is.1

fails_test : (is : Bool) → IsTrue (not is) → is ≡ false
fails_test true h = cc h
fails_test false h = refl

-- a text with a control character isn't one without
pub some_control : (text : List ℕ) → list_any is_control text ≡ true
    → ¬ (All (λ byte. IsTrue (not (is_control byte))) text)
some_control text some none =
    cc (
      some,
      list_any_none is_control text (λ k d within. fails_test (is_control (slice_index_or text k d))
          (none k d within)),
    )

both_fail : (one other : Bool) → (one || other) ≡ false → (IsTrue (not one)) × (other ≡ false)
both_fail true other h = cc h
both_fail false other h = (refl, h)

-- a text of which no byte is a control character
pub no_control : (text : List ℕ) → list_any is_control text ≡ false → All (λ byte. IsTrue (not (is_control byte))) text
no_control [] none = All-nil (λ byte. IsTrue (not (is_control byte)))
no_control (byte ∷ text) none =
    let parts = both_fail (is_control byte) (list_any is_control text) none in
    All-cons (λ byte. IsTrue (not (is_control byte))) byte text parts.0 (no_control text parts.1)
