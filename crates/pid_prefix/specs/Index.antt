-- Rising numbers in buckets by their leading bits, and the part of them where a search among them ends.
use Rattle.std.specs.Prelude.{◌≡◌, ◌+◌, ◌-◌, ◌/◌, ◌^◌, ◌<◌, ◌≤◌, ℕ, List, length, get_or, min}
use Rattle.std.specs.List.{AllWithin}
use Rattle.std.specs.List.Sorted.{IsPartitionPoint}

-- how many bits a bucket leaves out, the leading bits of the first one, and for each how many numbers are in those
-- before it
pub record IndexData : Type 0 where
  pub shift : ℕ
  pub least : ℕ
  pub below : List ℕ

-- the leading bits of a number, where they fit 64 bits
abbrev pub leading : ℕ → ℕ → ℕ
leading shift number = min (number / 2 ^ shift) 18446744073709551615

-- the bucket of a number
abbrev pub bucket_of : ℕ → ℕ → ℕ → ℕ
bucket_of shift least number = leading shift number - least

-- so many of the numbers are in buckets before this one, and all others in this or behind it
abbrev pub AreBelow : {A : Type 0} → (A → ℕ) → List A → ℕ → ℕ → ℕ → ℕ → Type 0
AreBelow value numbers shift least bucket count =
    IsPartitionPoint (λ number. bucket_of shift least (value number) < bucket)
    (λ number. bucket ≤ bucket_of shift least (value number)) numbers count × (count ≤ length numbers)

-- the index counts the numbers before each of its buckets
abbrev pub IsIndexOf : {A : Type 0} → (A → ℕ) → List A → IndexData → Type 0
IsIndexOf value numbers index = (bucket d : ℕ) → bucket < length index.below
    → AreBelow value numbers index.shift index.least bucket (get_or index.below bucket d)

-- the part of the numbers from a place on, so long, is where those that are by the number end
pub record EndsIn {A : Type 0} (value : A → ℕ) (numbers : List A) (number begun left : ℕ) : Type 0 where
  pub within : begun + left ≤ length numbers
  pub before : AllWithin (λ other. value other ≤ number) numbers 0 begun
  pub behind : AllWithin (λ other. number < value other) numbers (begun + left) (length numbers)
