-- The longest front at one number or group and what stands behind it.
use Rattle.std.proofs.Common.{◌≡◌, ◌≢◌, ℕ, zero, suc, ◌+◌, ◌-◌, ◌<◌, ◌≤◌, max, List, [], ◌∷◌, ◌++◌, length, take, drop}
use Rattle.std.proofs.Common.{decimal, refl, sym, ap, subst, arith, lit≤}
use Rattle.std.specs.Char.{digit_value}
use Rattle.alto_addr.specs.Place.{IsLongestFront}
use Rattle.alto_addr.specs.Languages.{Sequence, Behind, Either, one, other, Nothing, IsTokenFront}
use Rattle.alto_addr.specs.Tokens.{IsOctet, IsGroup}
use Rattle.alto_addr.specs.Fronts.{Octets, TailGroups, TailUpTo, HeadGroups, GroupThen, ColonHex, Address}
use Rattle.alto_addr.proofs.Languages.{IsLongestFront-Either, IsLongestFront-Nothing, IsLongestFront-Behind}
use Rattle.alto_addr.proofs.Languages.{IsLongestFront-not_Behind}
use Rattle.alto_addr.proofs.Sequences.{IsToken, IsApart, IsLongestFront-Sequence, IsLongestFront-no_token}
use Rattle.alto_addr.proofs.Tokens.{AllDigits-last, decimal_numeral, IsToken-IsOctet, IsToken-IsGroup}
use Rattle.alto_addr.proofs.Tokens.{IsLongestFront-Token}

-- no token of this kind ends in the byte
abbrev EndsNone : (List ℕ → Type 0) → ℕ → Type 0
EndsNone Token byte = (front : List ℕ) → Token (front ++ byte ∷ []) → ⊥

octet_no_dot : EndsNone IsOctet 46
octet_no_dot front h =
    let bad : digit_value 46 < 10 = AllDigits-last 10 46 front (decimal_numeral 256 _ (lit≤ tt) h).digits.1 in
    absurd (omega (arith, bad))

octet_no_colon : EndsNone IsOctet 58
octet_no_colon front h =
    let bad : digit_value 58 < 10 = AllDigits-last 10 58 front (decimal_numeral 256 _ (lit≤ tt) h).digits.1 in
    absurd (omega (arith, bad))

group_no_colon : EndsNone IsGroup 58
group_no_colon front h =
    let bad : digit_value 58 < 16 = AllDigits-last 16 58 front h.digits.1 in
    absurd (omega (arith, bad))

module _ (Token Second : List ℕ → Type 0) (byte : ℕ) (token : IsToken Token) (ends : EndsNone Token byte) where
  apart_behind : IsApart Token (Behind byte Second)
  apart_behind front first back behind h =
      let e : first ≡ byte = cc behind.split in
      ends front (subst (λ b. Token (front ++ b ∷ [])) e h)

  apart_option : IsApart Token (Either Nothing (Behind byte Second))
  apart_option front first back (one none) h = absurd (omega (arith, ap length none.nothing))
  apart_option front first back (other behind) h = apart_behind front first back behind h

  -- the byte stands behind the token
  pub goes_on : (text rest : List ℕ) (g k : ℕ) → 0 < g → IsTokenFront Token text g → drop g text ≡ byte ∷ rest
      → IsLongestFront Second rest k
      → IsLongestFront (Sequence Token (Behind byte Second)) text (g + suc k)
  goes_on text rest g k some front e second =
      IsLongestFront-Sequence Token (Behind byte Second) token apart_behind text g (suc k) some front
      (subst (λ t. IsLongestFront (Behind byte Second) t (suc k)) (sym e)
      (IsLongestFront-Behind byte Second rest k second))

  -- it doesn't
  pub stops : (text some_second : List ℕ) (g : ℕ) → 0 < g → IsTokenFront Token text g
      → ((rest : List ℕ) → drop g text ≢ byte ∷ rest) → Second some_second
      → IsLongestFront (Sequence Token (Behind byte Second)) text g
  stops text some_second g some front not second =
      let e : g + 0 ≡ g = omega arith in
      subst (λ n. IsLongestFront (Sequence Token (Behind byte Second)) text n) e
      (IsLongestFront-Sequence Token (Behind byte Second) token apart_behind text g 0 some front
      (IsLongestFront-not_Behind byte Second (drop g text) some_second second not))

  -- no token stands there
  pub is_none : (text some_token some_second : List ℕ) → IsTokenFront Token text 0 → Token some_token
      → Second some_second
      → IsLongestFront (Sequence Token (Behind byte Second)) text 0
  is_none text some_token some_second front is_token second =
      IsLongestFront-no_token Token (Behind byte Second) token apart_behind text
      some_token (byte ∷ some_second) is_token
      (record { back = some_second; split = refl; second = second }) front

  -- the same where the text may end behind the token
  pub may_go_on : (text rest : List ℕ) (g k : ℕ) → 0 < g → IsTokenFront Token text g → drop g text ≡ byte ∷ rest
      → IsLongestFront Second rest k
      → IsLongestFront (Sequence Token (Either Nothing (Behind byte Second))) text (g + suc k)
  may_go_on text rest g k some front e second =
      IsLongestFront-Sequence Token (Either Nothing (Behind byte Second)) token apart_option text g (suc k) some front
      (subst (λ t. IsLongestFront (Either Nothing (Behind byte Second)) t (suc k)) (sym e)
      (let e : max 0 (suc k) ≡ suc k = omega arith in
      subst (λ n. IsLongestFront (Either Nothing (Behind byte Second)) (byte ∷ rest) n) e
      (IsLongestFront-Either Nothing (Behind byte Second) (byte ∷ rest) 0 (suc k)
      (IsLongestFront-Nothing (byte ∷ rest)) (IsLongestFront-Behind byte Second rest k second))))

  pub may_stop : (text some_second : List ℕ) (g : ℕ) → 0 < g → IsTokenFront Token text g
      → ((rest : List ℕ) → drop g text ≢ byte ∷ rest) → Second some_second
      → IsLongestFront (Sequence Token (Either Nothing (Behind byte Second))) text g
  may_stop text some_second g some front not second =
      let e : g + max 0 0 ≡ g = omega arith in
      subst (λ n. IsLongestFront (Sequence Token (Either Nothing (Behind byte Second))) text n) e
      (IsLongestFront-Sequence Token (Either Nothing (Behind byte Second)) token apart_option text
      g (max 0 0) some front
      (IsLongestFront-Either Nothing (Behind byte Second) (drop g text) 0 0
      (IsLongestFront-Nothing (drop g text))
      (IsLongestFront-not_Behind byte Second (drop g text) some_second second not)))

  pub may_be_none : (text some_token : List ℕ) → IsTokenFront Token text 0 → Token some_token
      → IsLongestFront (Sequence Token (Either Nothing (Behind byte Second))) text 0
  may_be_none text some_token front is_token =
      IsLongestFront-no_token Token (Either Nothing (Behind byte Second)) token apart_option text some_token []
      is_token (one (record { nothing = refl })) front

-- a text of each language
zero_octet : IsOctet (decimal 0)
zero_octet = record { value = 0; fits = omega arith; spelled = refl }

zero_group : IsGroup (48 ∷ [])
zero_group = record { digits = (omega arith, (lit≤ tt, tt)); short = lit≤ tt }

some_octets : (n : ℕ) → (text : List ℕ) × Octets n text
unfolding Octets
some_octets zero = (decimal 0, zero_octet)
some_octets (suc n) =
    let (later, is) = some_octets n in (
      decimal 0 ++ 46 ∷ later,
      record {
        front = decimal 0;
        back = 46 ∷ later;
        split = refl;
        first = zero_octet;
        second = record { back = later; split = refl; second = is };
      },
    )

some_tail : (n : ℕ) → TailGroups n (48 ∷ [])
unfolding TailGroups
some_tail zero = zero_group
some_tail (suc n) = one (record {
  front = 48 ∷ [];
  back = [];
  split = refl;
  first = zero_group;
  second = one (record { nothing = refl });
})

some_up_to : (n : ℕ) → TailUpTo n []
unfolding TailUpTo
some_up_to zero = record { nothing = refl }
some_up_to (suc n) = one (record { nothing = refl })

zero_then : (n : ℕ) (Next : List ℕ → Type 0) → GroupThen n Next (48 ∷ 58 ∷ 58 ∷ [])
zero_then n Next = record {
  front = 48 ∷ [];
  back = 58 ∷ 58 ∷ [];
  split = refl;
  first = zero_group;
  second = record {
    back = 58 ∷ [];
    split = refl;
    second = one (record { back = []; split = refl; second = some_up_to n });
  };
}

some_head : (n : ℕ) → (text : List ℕ) × HeadGroups n text
unfolding HeadGroups
some_head zero = (48 ∷ [], zero_group)
some_head (suc zero) = (48 ∷ 58 ∷ 58 ∷ [], one (zero_then 0 IsGroup))
some_head (suc (suc n)) = (48 ∷ 58 ∷ 58 ∷ [], zero_then (suc n) (HeadGroups (suc n)))

-- dotted numbers
pub octets_one : (text : List ℕ) (g : ℕ) → IsTokenFront IsOctet text g → IsLongestFront (Octets 0) text g
unfolding Octets
octets_one text g front = IsLongestFront-Token IsOctet IsToken-IsOctet (decimal 0) text g zero_octet front

pub octets_none : (n : ℕ) (text : List ℕ) → IsTokenFront IsOctet text 0 → IsLongestFront (Octets n) text 0
unfolding Octets
octets_none zero text front = octets_one text 0 front
octets_none (suc n) text front =
    is_none IsOctet (Octets n) 46 IsToken-IsOctet octet_no_dot text (decimal 0) (some_octets n).0 front
    zero_octet (some_octets n).1

pub octets_on : (n : ℕ) (text rest : List ℕ) (g k : ℕ) → 0 < g → IsTokenFront IsOctet text g → drop g text ≡ 46 ∷ rest
    → IsLongestFront (Octets n) rest k
    → IsLongestFront (Octets (suc n)) text (g + suc k)
unfolding Octets
octets_on n text rest g k some front e later = goes_on IsOctet (Octets n) 46 IsToken-IsOctet octet_no_dot text rest g k
    some front e later

pub octets_stop : (n : ℕ) (text : List ℕ) (g : ℕ) → 0 < g → IsTokenFront IsOctet text g
    → ((rest : List ℕ) → drop g text ≢ 46 ∷ rest)
    → IsLongestFront (Octets (suc n)) text g
unfolding Octets
octets_stop n text g some front not = stops IsOctet (Octets n) 46 IsToken-IsOctet octet_no_dot text (some_octets n).0 g
    some front not (some_octets n).1

-- a longest front that is as long
pub same_front : (L : List ℕ → Type 0) (text : List ℕ) (n m : ℕ) → n ≡ m → IsLongestFront L text n
    → IsLongestFront L text m
same_front L text n m e h = subst (λ k. IsLongestFront L text k) e h

-- groups behind `::`
pub tail_one : (text : List ℕ) (g : ℕ) → IsTokenFront IsGroup text g → IsLongestFront (TailGroups 0) text g
unfolding TailGroups
tail_one text g front = IsLongestFront-Token IsGroup IsToken-IsGroup (48 ∷ []) text g zero_group front

pub tail_none : (n : ℕ) (text : List ℕ) (o : ℕ) → IsTokenFront IsGroup text 0 → IsLongestFront (Octets 3) text o
    → IsLongestFront (TailGroups (suc n)) text o
unfolding TailGroups
tail_none n text o front dotted =
    same_front _ text (max 0 o) o (omega arith)
    (IsLongestFront-Either _ (Octets 3) text 0 o
    (may_be_none IsGroup (TailGroups n) 58 IsToken-IsGroup group_no_colon text (48 ∷ []) front zero_group) dotted)

pub tail_on : (n : ℕ) (text rest : List ℕ) (g k o : ℕ) → 0 < g → IsTokenFront IsGroup text g → drop g text ≡ 58 ∷ rest
    → IsLongestFront (TailGroups n) rest k → IsLongestFront (Octets 3) text o
    → IsLongestFront (TailGroups (suc n)) text (max (g + suc k) o)
unfolding TailGroups
tail_on n text rest g k o some front e later dotted =
    IsLongestFront-Either _ (Octets 3) text (g + suc k) o
    (may_go_on IsGroup (TailGroups n) 58 IsToken-IsGroup group_no_colon text rest g k some front e later) dotted

pub tail_stop : (n : ℕ) (text : List ℕ) (g o : ℕ) → 0 < g → IsTokenFront IsGroup text g
    → ((rest : List ℕ) → drop g text ≢ 58 ∷ rest)
    → IsLongestFront (Octets 3) text o → IsLongestFront (TailGroups (suc n)) text (max g o)
unfolding TailGroups
tail_stop n text g o some front not dotted =
    IsLongestFront-Either _ (Octets 3) text g o
    (may_stop IsGroup (TailGroups n) 58 IsToken-IsGroup group_no_colon text (48 ∷ []) g some front not (some_tail n))
    dotted

pub up_to_none : (text : List ℕ) → IsLongestFront (TailUpTo 0) text 0
unfolding TailUpTo
up_to_none text = IsLongestFront-Nothing text

pub up_to_some : (n : ℕ) (text : List ℕ) (k : ℕ) → IsLongestFront (TailGroups n) text k
    → IsLongestFront (TailUpTo (suc n)) text k
unfolding TailUpTo
up_to_some n text k h =
    same_front _ text (max 0 k) k (omega arith)
    (IsLongestFront-Either Nothing (TailGroups n) text 0 k (IsLongestFront-Nothing text) h)

-- where a colon stands, no number and no group does
none_at_colon : (Token : List ℕ → Type 0) → IsToken Token → EndsNone Token 58 → (text : List ℕ)
    → IsTokenFront Token (58 ∷ text) 0
none_at_colon Token token ends text = record {
  within = omega arith;
  token = λ more. absurd (omega arith);
  longest = longest;
}
  where
    longest : (m : ℕ) → m ≤ length (58 ∷ text) → Token (take m (58 ∷ text)) → m ≤ 0
    longest zero within h = omega arith
    longest (suc m) within h = absurd (ends [] (token.closed 1 (58 ∷ take m text) (omega arith) (omega arith) h))

octets_at_colon : (n : ℕ) (text : List ℕ) → IsLongestFront (Octets n) (58 ∷ text) 0
octets_at_colon n text = octets_none n (58 ∷ text) (none_at_colon IsOctet IsToken-IsOctet octet_no_colon text)

group_then_none : (n : ℕ) (Next : List ℕ → Type 0) (text : List ℕ) → IsTokenFront IsGroup text 0
    → IsLongestFront (GroupThen n Next) text 0
group_then_none n Next text front =
    is_none IsGroup (Either (Behind 58 (TailUpTo n)) Next) 58 IsToken-IsGroup group_no_colon text (48 ∷ []) (58 ∷ [])
    front zero_group
    (one (record { back = []; split = refl; second = some_up_to n }))

-- eight groups from here, or fewer and `::`
pub head_one : (text : List ℕ) (g : ℕ) → IsTokenFront IsGroup text g → IsLongestFront (HeadGroups 0) text g
unfolding HeadGroups
head_one text g front = IsLongestFront-Token IsGroup IsToken-IsGroup (48 ∷ []) text g zero_group front

-- the numbers with dots may stand for just the last two
with_last : (n : ℕ) (text : List ℕ) (p o : ℕ) → IsLongestFront (GroupThen n (HeadGroups n)) text p
    → (n ≡ 0 → IsLongestFront (Octets 3) text o)
    → (n ≢ 0 → o ≡ 0) → IsLongestFront (HeadGroups (suc n)) text (max p o)
unfolding HeadGroups
with_last zero text p o h dotted none = IsLongestFront-Either (GroupThen 0 IsGroup) (Octets 3) text p o h (dotted refl)
with_last (suc n) text p o h dotted none =
    let no : o ≡ 0 = none (λ e. omega (arith, e)) in
    same_front (GroupThen (suc n) (HeadGroups (suc n))) text p (max p o) (omega arith) h

pub head_none : (n : ℕ) (text : List ℕ) (o : ℕ) → IsTokenFront IsGroup text 0
    → (n ≡ 0 → IsLongestFront (Octets 3) text o) → (n ≢ 0 → o ≡ 0)
    → IsLongestFront (HeadGroups (suc n)) text o
head_none n text o front dotted none =
    same_front (HeadGroups (suc n)) text (max 0 o) o (omega arith)
    (with_last n text 0 o (group_then_none n (HeadGroups n) text front) dotted none)

pub head_at_colon : (n : ℕ) (text : List ℕ) → IsLongestFront (HeadGroups n) (58 ∷ text) 0
head_at_colon zero text = head_one (58 ∷ text) 0 (none_at_colon IsGroup IsToken-IsGroup group_no_colon text)
head_at_colon (suc n) text =
    head_none n (58 ∷ text) 0 (none_at_colon IsGroup IsToken-IsGroup group_no_colon text)
    (λ e. octets_at_colon 3 text) (λ other. refl)

pub head_stop : (n : ℕ) (text : List ℕ) (g o : ℕ) → 0 < g → IsTokenFront IsGroup text g
    → ((rest : List ℕ) → drop g text ≢ 58 ∷ rest)
    → (n ≡ 0 → IsLongestFront (Octets 3) text o) → (n ≢ 0 → o ≡ 0) → IsLongestFront (HeadGroups (suc n)) text (max g o)
head_stop n text g o some front not dotted none =
    with_last n text g o
    (stops IsGroup (Either (Behind 58 (TailUpTo n)) (HeadGroups n)) 58 IsToken-IsGroup group_no_colon text (58 ∷ [])
    g some front not
    (one (record { back = []; split = refl; second = some_up_to n }))) dotted none

pub head_on : (n : ℕ) (text rest : List ℕ) (g k o : ℕ) → 0 < g → IsTokenFront IsGroup text g → drop g text ≡ 58 ∷ rest
    → ((later : List ℕ) → rest ≢ 58 ∷ later) → IsLongestFront (HeadGroups n) rest k
    → (n ≡ 0 → IsLongestFront (Octets 3) text o) → (n ≢ 0 → o ≡ 0)
    → IsLongestFront (HeadGroups (suc n)) text (max (g + suc k) o)
head_on n text rest g k o some front e not later dotted none =
    with_last n text (g + suc k) o
    (goes_on IsGroup (Either (Behind 58 (TailUpTo n)) (HeadGroups n)) 58 IsToken-IsGroup group_no_colon text rest
    g k some front e
    (same_front _ rest (max 0 k) k (omega arith)
    (IsLongestFront-Either (Behind 58 (TailUpTo n)) (HeadGroups n) rest 0 k
    (IsLongestFront-not_Behind 58 (TailUpTo n) rest [] (some_up_to n) not) later))) dotted none

-- `::`, which ends the head
pub head_elided : (n : ℕ) (text rest tail : List ℕ) (g k o : ℕ) → 0 < g → IsTokenFront IsGroup text g
    → drop g text ≡ 58 ∷ rest
    → rest ≡ 58 ∷ tail → IsLongestFront (TailUpTo n) tail k
    → (n ≡ 0 → IsLongestFront (Octets 3) text o) → (n ≢ 0 → o ≡ 0)
    → IsLongestFront (HeadGroups (suc n)) text (max (g + suc (suc k)) o)
head_elided n text rest tail g k o some front e colon later dotted none =
    with_last n text (g + suc (suc k)) o
    (goes_on IsGroup (Either (Behind 58 (TailUpTo n)) (HeadGroups n)) 58 IsToken-IsGroup group_no_colon text rest
    g (suc k) some front e
    (subst (λ t. IsLongestFront (Either (Behind 58 (TailUpTo n)) (HeadGroups n)) t (suc k)) (sym colon)
    (same_front _ (58 ∷ tail) (max (suc k) 0) (suc k) (omega arith)
    (IsLongestFront-Either (Behind 58 (TailUpTo n)) (HeadGroups n) (58 ∷ tail) (suc k) 0
    (IsLongestFront-Behind 58 (TailUpTo n) tail k later) (head_at_colon n tail))))) dotted none

-- whole texts
pub whole_head : (text : List ℕ) (k : ℕ) → ((rest : List ℕ) → text ≢ 58 ∷ rest) → IsLongestFront (HeadGroups 7) text k
    → IsLongestFront ColonHex text k
unfolding ColonHex
whole_head text k not h =
    same_front _ text (max 0 k) k (omega arith)
    (IsLongestFront-Either (Behind 58 (Behind 58 (TailUpTo 7))) (HeadGroups 7) text 0 k
    (IsLongestFront-not_Behind 58 (Behind 58 (TailUpTo 7)) text (58 ∷ [])
    (record { back = []; split = refl; second = some_up_to 7 }) not) h)

behind_colon : (text rest : List ℕ) (k : ℕ) → text ≡ 58 ∷ rest → IsLongestFront (Behind 58 (TailUpTo 7)) rest k
    → IsLongestFront ColonHex text (suc k)
unfolding ColonHex
behind_colon text rest k e h =
    subst (λ t. IsLongestFront ColonHex t (suc k)) (sym e)
    (same_front _ (58 ∷ rest) (max (suc k) 0) (suc k) (omega arith)
    (IsLongestFront-Either (Behind 58 (Behind 58 (TailUpTo 7))) (HeadGroups 7) (58 ∷ rest) (suc k) 0
    (IsLongestFront-Behind 58 (Behind 58 (TailUpTo 7)) rest k h) (head_at_colon 7 rest)))

pub whole_elided : (text rest tail : List ℕ) (k : ℕ) → text ≡ 58 ∷ rest → rest ≡ 58 ∷ tail
    → IsLongestFront (TailUpTo 7) tail k
    → IsLongestFront ColonHex text (suc (suc k))
whole_elided text rest tail k e e' h =
    behind_colon text rest (suc k) e
    (subst (λ t. IsLongestFront (Behind 58 (TailUpTo 7)) t (suc k)) (sym e')
    (IsLongestFront-Behind 58 (TailUpTo 7) tail k h))

pub whole_colon : (text rest : List ℕ) → text ≡ 58 ∷ rest → ((tail : List ℕ) → rest ≢ 58 ∷ tail)
    → IsLongestFront ColonHex text 1
whole_colon text rest e not = behind_colon text rest 0
    e (IsLongestFront-not_Behind 58 (TailUpTo 7) rest [] (some_up_to 7) not)

pub either_family : (text : List ℕ) (a b : ℕ) → IsLongestFront ColonHex text a → IsLongestFront (Octets 3) text b
    → IsLongestFront Address text (max a b)
unfolding Address
either_family text a b h k = IsLongestFront-Either ColonHex (Octets 3) text a b h k

-- a number of groups that isn't 0 is one more than another
pub of_more : (L : ℕ → List ℕ → Type 0) (more : ℕ) (text : List ℕ) (n m : ℕ) → suc (more - 1) ≡ more → n ≡ m
    → IsLongestFront (L (suc (more - 1))) text n → IsLongestFront (L more) text m
of_more L more text n m e size h =
    subst (λ n. IsLongestFront (L more) text n) size (subst (λ k. IsLongestFront (L k) text n) e h)
