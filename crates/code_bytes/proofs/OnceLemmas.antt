-- Pieces that begin the same bytes are the same, and so is what is behind them.
use Rattle.std.proofs.Common.{◌≡◌, ℕ, ◌-◌, ◌*◌, ◌/◌, ◌%◌, ◌^◌, ◌<◌, ◌≤◌, List, [], ◌∷◌, ◌++◌, length, refl, sym, ap}
use Rattle.std.proofs.Common.{subst, ◌∙◌, append_assoc, arith}
use Rattle.alto_addr.specs.declared.addr.Addr.{Addr}
use Rattle.alto_addr.specs.declared.addr.Addr.TheVariants.{V4, V6}
use Rattle.alto_addr.specs.declared.prefix.Prefix.{Prefix}
use Rattle.alto_addr.specs.Bits.{HasBits, IsPrefix}
use denote.Struct.Props.{props}
use Rattle.alto_addr.specs.Order.{family_of}
use Rattle.code_bytes.specs.Pieces.{address, name, number, prefix}
use Rattle.code_bytes.proofs.GrammarLemmas.{length_number, number_once}

pub head_is : (a b : ℕ) (r s : List ℕ) → a ∷ r ≡ b ∷ s → a ≡ b
head_is a b r s e = cc

pub tail_is : (a b : ℕ) (r s : List ℕ) → a ∷ r ≡ b ∷ s → r ≡ s
tail_is a b r s e = cc

pub append_once : (a b r s : List ℕ) → length a ≡ length b → a ++ r ≡ b ++ s → (a ≡ b) × (r ≡ s)
append_once [] [] r s len e = (refl, e)
append_once [] (y ∷ b) r s len e = absurd (omega (arith, len))
append_once (x ∷ a) [] r s len e = absurd (omega (arith, len))
append_once (x ∷ a) (y ∷ b) r s len e =
    let more = append_once a b r s (omega (arith, len)) (tail_is x y (a ++ r) (b ++ s) e) in
    (ap (λ h. h ∷ a) (head_is x y (a ++ r) (b ++ s) e) ∙ ap (λ t. y ∷ t) more.0, more.1)

pub name_apart : (a b r s : List ℕ) → name a ++ r ≡ name b ++ s → (a ≡ b) × (r ≡ s)
name_apart a b r s e = append_once a b r s (head_is _ _ _ _ e) (tail_is _ _ _ _ e)

pub names_apart : (a b c d r s : List ℕ) → (name a ++ name b) ++ r ≡ (name c ++ name d) ++ s
    → (a ≡ c) × (b ≡ d) × (r ≡ s)
names_apart a b c d r s e =
    let one = name_apart a c (name b ++ r) (name d ++ s) (sym (append_assoc (name a) (name b) r) ∙ e
    ∙ append_assoc (name c) (name d) s) in
    let two = name_apart b d r s one.1 in
    (one.0, two.0, two.1)

pub number_apart : (count most n m : ℕ) (r s : List ℕ) → most < 2 ^ (8 * count) → n ≤ most → m ≤ most
    → number count n ++ r ≡ number count m ++ s
    → (n ≡ m) × (r ≡ s)
number_apart count most n m r s small low high e =
    let both = append_once (number count n) (number count m) r s (length_number count n
    ∙ sym (length_number count m)) e in
    (number_once count most n m small low high both.0, both.1)

halves : (n m : ℕ) → n / 2 ^ 64 ≡ m / 2 ^ 64 → n % 2 ^ 64 ≡ m % 2 ^ 64 → n ≡ m
halves n m high low = omega (arith, high, low)

address_apart : (a b : Addr) (r s : List ℕ) → HasBits a → HasBits b → family_of a ≡ family_of b
    → address a ++ r ≡ address b ++ s → (a ≡ b) × (r ≡ s)
address_apart (V4 n) (V4 m) r s low high same e =
    let both = number_apart 4 (2 ^ 32 - 1) n m r s (omega arith) (omega (arith, low)) (omega (arith, high)) e in
    (ap V4 both.0, both.1)
address_apart (V4 n) (V6 m) r s low high same e = absurd cc
address_apart (V6 n) (V4 m) r s low high same e = absurd cc
address_apart (V6 n) (V6 m) r s low high same e =
    let whole = sym (append_assoc (number 8 (n / 2 ^ 64)) (number 8 (n % 2 ^ 64)) r) ∙ e
    ∙ append_assoc (number 8 (m / 2 ^ 64)) (number 8 (m % 2 ^ 64)) s in
    let one = number_apart 8 (2 ^ 64 - 1) (n / 2 ^ 64) (m / 2 ^ 64) _ _ (omega arith) (omega (arith, low))
    (omega (arith, high)) whole in
    let two = number_apart 8 (2 ^ 64 - 1) (n % 2 ^ 64) (m % 2 ^ 64) r s (omega arith) (omega arith)
    (omega arith) one.1 in
    (ap V6 (halves n m one.0 two.0), two.1)

-- a prefix of these parts
abbrev prefix_of : (addr : Addr) (len : ℕ) → IsPrefix addr len → Prefix
prefix_of addr len is = record { addr = addr; len = len; is_prefix = is }

-- that an address and a length make a prefix has one proof
one_proof : (addr : Addr) (len : ℕ) → IsProp (IsPrefix addr len)
one_proof addr len = hlevel props

one_prefix : (p q : Prefix) → p.addr ≡ q.addr → p.len ≡ q.len → p ≡ q
one_prefix p q addrs lens =
    let at_len : (is : IsPrefix p.addr q.len) → p ≡ prefix_of p.addr q.len is =
    subst (λ len. (is : IsPrefix p.addr len) → p ≡ prefix_of p.addr len is) lens
    (λ is i. prefix_of p.addr p.len (one_proof p.addr p.len p.is_prefix is i)) in
    subst (λ addr. (is : IsPrefix addr q.len) → p ≡ prefix_of addr q.len is) addrs at_len q.is_prefix

pub prefix_apart : (p q : Prefix) (r s : List ℕ) → HasBits p.addr → HasBits q.addr → prefix p ++ r ≡ prefix q ++ s
    → (p ≡ q) × (r ≡ s)
prefix_apart p q r s low high e =
    let same : family_of p.addr ≡ family_of q.addr = head_is _ _ _ _ e in
    let tail : (address p.addr ++ (p.len ∷ [])) ++ r ≡ (address q.addr ++ (q.len ∷ [])) ++ s = tail_is _ _ _ _ e in
    let one = address_apart p.addr q.addr (p.len ∷ r) (q.len ∷ s) low high same
    (sym (append_assoc (address p.addr) (p.len ∷ []) r) ∙ tail ∙ append_assoc (address q.addr) (q.len ∷ []) s) in
    let len : p.len ≡ q.len = head_is p.len q.len r s one.1 in
    let rest : r ≡ s = tail_is p.len q.len r s one.1 in
    (one_prefix p q one.0 len, rest)
