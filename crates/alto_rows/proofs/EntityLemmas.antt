-- Texts of entities: one at most is written, and what is printed reads back.
use Rattle.std.proofs.Common.{◌≡◌, ◌≢◌, ℕ, inl, inr, ◌≤◌, Bool, true, false, List, [], ◌∷◌, ◌++◌, drop, get_or, decimal}
use Rattle.std.proofs.Common.{Option, Some, None, refl, sym, ap, ◌∙◌, subst, arith, append_assoc, Bor}
use Rattle.std.specs.Prelude.{◌↔◌, ◌==◌, codes, MatchOption}
use Rattle.std.proofs.lemmas.Bool.{eqb-true}
use Rattle.alto_addr.specs.declared.addr.Addr.{Addr}
use Rattle.alto_addr.specs.declared.addr.Addr.TheVariants.{V4, V6}
use Rattle.alto_addr.specs.declared.prefix.Prefix.{Prefix}
use Rattle.alto_addr.specs.declared.fault.AddrFault.{AddrFault}
use Rattle.alto_addr.specs.declared.fault.AddrFault.TheVariants as fault
use Rattle.alto_addr.specs.Bits.{width_of, IsPrefix}
use Rattle.alto_addr.specs.Faults.{IsAddrFault, IsPrefixFault}
use Rattle.alto_addr.specs.Place.{IsAnyAddr}
use Rattle.alto_addr.specs.Text.{IsAddrText, IsPrefixText}
use Rattle.alto_addr.proofs.Plain.{IsPlain, plain_slash}
use Rattle.alto_addr.proofs.Prefixes.{plain_any}
use Rattle.alto_addr.proofs.Unique.{one_prefix}
use Rattle.alto_addr.proofs.Written.{one_address, reads_as_written, prefix_as_written}
use Rattle.alto_names.specs.Name.{IsNetName, IsPidName}
use Rattle.alto_rows.specs.declared.entity.Entity.{Entity}
use Rattle.alto_rows.specs.declared.entity.Entity.TheVariants as entity
use Rattle.alto_rows.specs.Entities.{type_tag, WritesTypedAddr, WritesBlock, WritesTypedBlock, WritesEntity, block_text}
use Rattle.alto_rows.specs.Entities.{entity_text}
use Rattle.alto_rows.specs.Good.{IsEntity}
use Rattle.alto_addr.specs.Order.{addr_cmp, prefix_cmp}
use Rattle.alto_rows.proofs.OrderLemmas.{prefix_cmp_exact}
use Rattle.std.proofs.lemmas.Cmp.{tied_itself, nat_cmp_total}
use Rattle.std.specs.Ordering.{nat_cmp, ordering_then}
use Rattle.std.specs.declared.cmp.Ordering.TheVariants.{Equal}
use Rattle.alto_rows.proofs.PieceLemmas.{apart, net_bytes}
use Rattle.std.proofs.lemmas.List.{append_cancel_left}

-- ---- typed addresses

-- what is behind a type is behind five bytes
untag : (text written : List ℕ) (addr : Addr) → text ≡ type_tag addr ++ written → written ≡ drop 5 text
untag text written (V4 number) e = sym (ap (drop 5) e)
untag text written (V6 number) e = sym (ap (drop 5) e)

pub typed_addr_is : (text : List ℕ) (addr : Addr) → IsAddrText (drop 5 text) addr → text ≡ type_tag addr ++ drop 5 text
    → (other : Addr)
    → WritesTypedAddr text other ↔ (Some addr ≡ Some other)
typed_addr_is text addr h e other = (
  λ w. ap (λ (x : Addr). Some x)
      (one_address (drop 5 text) addr other h (subst (λ t. IsAddrText t other) (untag text w.0 other w.1) w.2)),
  λ k. let same : addr ≡ other = cc in subst (λ (x : Addr). WritesTypedAddr text x) same (drop 5 text, e, h),
)

pub typed_addr_other : (text : List ℕ) (addr : Addr) → IsAddrText (drop 5 text) addr
    → ¬ (text ≡ type_tag addr ++ drop 5 text) → (other : Addr)
    → WritesTypedAddr text other ↔ (None ≡ Some other)
typed_addr_other text addr h none other = (
  λ w.
      let written : w.0 ≡ drop 5 text = untag text w.0 other w.1 in
      let same : other ≡ addr = one_address (drop 5 text) other addr (subst (λ t. IsAddrText t other) written w.2) h in
      absurd (none (w.1 ∙ ap (λ t. type_tag other ++ t) written ∙ ap (λ (x : Addr). type_tag x ++ drop 5 text) same)),
  λ k. cc,
)

-- a fault of an address says that there is none
no_addr : (text : List ℕ) (f : AddrFault) → IsAddrFault text f → ¬ (IsAnyAddr text)
no_addr text (fault.BadText place) h = h.0
no_addr text fault.BadLength h = absurd h
no_addr text fault.HostBits h = absurd h

pub typed_addr_none : (text : List ℕ) (f : AddrFault) → IsAddrFault (drop 5 text) f → (other : Addr)
    → WritesTypedAddr text other ↔ (None ≡ Some other)
typed_addr_none text f h other = (
  λ w. absurd (no_addr (drop 5 text) f h (other, subst (λ t. IsAddrText t other) (untag text w.0 other w.1) w.2)),
  λ k. cc,
)

-- ---- blocks

addr_tied : (addr : Addr) → addr_cmp addr addr ≡ Equal
unfolding addr_cmp
addr_tied (V4 number) = tied_itself nat_cmp_total number
addr_tied (V6 number) = tied_itself nat_cmp_total number

parts_tied : (x y : Addr) (l m : ℕ) → x ≡ y → l ≡ m → ordering_then (addr_cmp x y) (nat_cmp l m) ≡ Equal
parts_tied x y l m e k =
    subst (λ z. ordering_then (addr_cmp x z) (nat_cmp l m) ≡ Equal)
    e (rw (addr_tied x) (subst (λ n. nat_cmp l n ≡ Equal) k (tied_itself nat_cmp_total l)))

-- prefixes of one address and one length are one
one_prefix_of : (a b : Prefix) → a.addr ≡ b.addr → a.len ≡ b.len → a ≡ b
unfolding prefix_cmp
one_prefix_of a b addrs lens = prefix_cmp_exact a b (parts_tied a.addr b.addr a.len b.len addrs lens)

-- no text is both an address's and a prefix's
not_both : (text : List ℕ) (one other : Addr) (len : ℕ) → IsAddrText text one → IsPrefixText text other len → ⊥
not_both text one other len h k =
    plain_slash k.addr_text (decimal len)
    (subst IsPlain (k.spelled ∙ append_assoc k.addr_text (47 ∷ []) (decimal len)) (plain_any text (one, h)))

pub one_block : (text : List ℕ) (one other : Prefix) → WritesBlock text one → WritesBlock text other → one ≡ other
one_block text one other (inl h) (inl k) =
    let same = one_prefix text one.addr other.addr one.len other.len h k in
    one_prefix_of one other same.0 same.1
one_block text one other (inl h) (inr k) = absurd (not_both text other.addr one.addr one.len k.0 h)
one_block text one other (inr h) (inl k) = absurd (not_both text one.addr other.addr other.len h.0 k)
one_block text one other (inr h) (inr k) =
    let same : one.addr ≡ other.addr = one_address text one.addr other.addr h.0 k.0 in
    one_prefix_of one other same (h.1 ∙ ap width_of same ∙ sym k.1)

pub block_is : (text : List ℕ) (block : Prefix) → WritesBlock text block → (other : Prefix)
    → WritesBlock text other ↔ (Some block ≡ Some other)
block_is text block h other = (
  λ w. ap (λ (x : Prefix). Some x) (one_block text block other h w),
  λ k. let same : block ≡ other = cc in subst (λ (x : Prefix). WritesBlock text x) same h,
)

-- the block of one address is written by its text
pub whole_block : (text : List ℕ) (addr : Addr) (block : Prefix) → IsAddrText text addr → block.addr ≡ addr
    → block.len ≡ width_of addr → WritesBlock text block
whole_block text addr block h e k = inr (subst (λ x. IsAddrText text x) (sym e) h, k ∙ ap width_of (sym e))

-- a fault of a prefix says that no block is written as one
no_prefix : (text : List ℕ) (f : AddrFault) → IsPrefixFault text f → (block : Prefix)
    → ¬ (IsPrefixText text block.addr block.len)
no_prefix text (fault.BadText place) h block k = h.0 (block.addr, block.len, k)
no_prefix text fault.BadLength h block k =
    let same = one_prefix text block.addr h.0 block.len h.1 k h.2 in
    let fits : h.1 ≤ width_of h.0 =
    subst (λ n. n ≤ width_of h.0) same.1 (subst (λ x. block.len ≤ width_of x) same.0 block.is_prefix.0) in
    h.3 fits
no_prefix text fault.HostBits h block k =
    let same = one_prefix text block.addr h.0 block.len h.1 k h.2 in
    let is : IsPrefix h.0 h.1 = subst (λ n. IsPrefix h.0 n)
    same.1 (subst (λ x. IsPrefix x block.len) same.0 block.is_prefix) in
    h.4 is.1

pub block_none : (text : List ℕ) (f g : AddrFault) → IsAddrFault text f → IsPrefixFault text g → (other : Prefix)
    → WritesBlock text other ↔ (None ≡ Some other)
block_none text f g h k other = (by, λ e. cc)
  where
    by : WritesBlock text other → None ≡ Some other
    by (inl w) = absurd (no_prefix text g k other w)
    by (inr w) = absurd (no_addr text f h (other.addr, w.0))

-- ---- blocks behind their types

pub typed_block_is : (text : List ℕ) (block : Prefix)
    → ((x : Prefix) → WritesBlock (drop 5 text) x ↔ (Some block ≡ Some x)) → text ≡ type_tag block.addr ++ drop 5 text
    → (other : Prefix) → WritesTypedBlock text other ↔ (Some block ≡ Some other)
typed_block_is text block reads e other = (
  λ w. (reads other).0 (subst (λ t. WritesBlock t other) (untag text w.0 other.addr w.1) w.2),
  λ k. let same : block ≡ other = cc in
      subst (λ (x : Prefix). WritesTypedBlock text x) same (drop 5 text, e, (reads block).1 refl),
)

pub typed_block_other : (text : List ℕ) (block : Prefix)
    → ((x : Prefix) → WritesBlock (drop 5 text) x ↔ (Some block ≡ Some x))
    → ¬ (text ≡ type_tag block.addr ++ drop 5 text) → (other : Prefix)
    → WritesTypedBlock text other ↔ (None ≡ Some other)
typed_block_other text block reads none other = (
  λ w.
      let written : w.0 ≡ drop 5 text = untag text w.0 other.addr w.1 in
      let some : Some block ≡ Some other = (reads other).0 (subst (λ t. WritesBlock t other) written w.2) in
      let same : other ≡ block = cc in
      absurd (none (w.1 ∙ ap (λ t. type_tag other.addr ++ t) written
      ∙ ap (λ (x : Prefix). type_tag x.addr ++ drop 5 text) same)),
  λ k. cc,
)

pub typed_block_none : (text : List ℕ) → ((x : Prefix) → WritesBlock (drop 5 text) x ↔ (None ≡ Some x))
    → (other : Prefix) → WritesTypedBlock text other ↔ (None ≡ Some other)
typed_block_none text reads other = (
  λ w. let no : None ≡ Some other = (reads other).0 (subst (λ t. WritesBlock t other) (untag text w.0 other.addr w.1)
      w.2) in cc,
  λ k. cc,
)

-- ---- entities

-- a type isn't a network's name and `.pid:`
tag_is_not_net : (net written pid : List ℕ) (addr : Addr) → IsNetName net
    → type_tag addr ++ written ≡ net ++ (codes ".pid:" ++ pid) → ⊥
tag_is_not_net net written pid (V4 number) h e =
    let same = apart (codes "ipv4") net (codes ":" ++ written) (codes ".pid:" ++ pid) (refl, (refl, (refl, (refl, tt))))
    (net_bytes net h) refl refl e in
    let byte : ◌≡◌ {A = ℕ} 58 46 = ap (λ t. get_or t 0 0) same.1 in
    omega arith
tag_is_not_net net written pid (V6 number) h e =
    let same = apart (codes "ipv6") net (codes ":" ++ written) (codes ".pid:" ++ pid) (refl, (refl, (refl, (refl, tt))))
    (net_bytes net h) refl refl e in
    let byte : ◌≡◌ {A = ℕ} 58 46 = ap (λ t. get_or t 0 0) same.1 in
    omega arith

pub one_entity : (net text : List ℕ) (one other : Entity) → IsNetName net → WritesEntity net text one
    → WritesEntity net text other → one ≡ other
one_entity net text (entity.Block a) (entity.Block b) n h k =
    let moved = subst (λ t. WritesBlock t b) (untag text k.0 b.addr k.1) k.2 in
    ap (λ (x : Prefix). entity.Block x)
    (one_block (drop 5 text) a b (subst (λ t. WritesBlock t a) (untag text h.0 a.addr h.1) h.2) moved)
one_entity net text (entity.Block a) (entity.Pid q) n h k = absurd (tag_is_not_net net h.0 q a.addr n (sym h.1 ∙ k.0))
one_entity net text (entity.Pid p) (entity.Block b) n h k = absurd (tag_is_not_net net k.0 p b.addr n (sym k.1 ∙ h.0))
one_entity net text (entity.Pid p) (entity.Pid q) n h k =
    ap (λ t. entity.Pid t) (append_cancel_left (codes ".pid:") p
    q (append_cancel_left net (codes ".pid:" ++ p) (codes ".pid:" ++ q) (sym h.0 ∙ k.0)))

pub entity_is : (net text : List ℕ) (one : Entity) → IsNetName net → WritesEntity net text one → (other : Entity)
    → WritesEntity net text other ↔ (Some one ≡ Some other)
entity_is net text one n h other = (
  λ w. ap (λ (x : Entity). Some x) (one_entity net text one other n h w),
  λ k. let same : one ≡ other = cc in subst (λ (x : Entity). WritesEntity net text x) same h,
)

-- a text that writes a block
pub entity_block : (net text : List ℕ) (block : Prefix) → IsNetName net
    → ((x : Prefix) → WritesTypedBlock text x ↔ (Some block ≡ Some x)) → (other : Entity)
    → WritesEntity net text other ↔ (Some (entity.Block block) ≡ Some other)
entity_block net text block n reads other = entity_is net text (entity.Block block) n ((reads block).1 refl) other

-- and one that writes none
pub entity_pid : (net text : List ℕ) → IsNetName net → ((x : Prefix) → WritesTypedBlock text x ↔ (None ≡ Some x))
    → (found : Option Entity)
    → MatchOption found ((pid : List ℕ)
    → ¬ (WritesEntity net text (entity.Pid pid))) (λ read. (pid : List ℕ) × (read ≡ entity.Pid pid)
    × WritesEntity net text (entity.Pid pid))
    → (other : Entity) → WritesEntity net text other ↔ (found ≡ Some other)
entity_pid net text n reads None none (entity.Block block) =
    (λ w. let no : None ≡ Some block = (reads block).0 w in cc, λ e. cc)
entity_pid net text n reads None none (entity.Pid pid) = (λ w. absurd (none pid w), λ e. cc)
entity_pid net text n reads (Some read) is other =
    entity_is net text read n (subst (λ (x : Entity). WritesEntity net text x) (sym is.1) is.2) other

-- what is written of an entity reads as it
pub entity_as_written : (net : List ℕ) (e : Entity) → IsEntity e → WritesEntity net (entity_text net e) e
entity_as_written net (entity.Pid pid) is_name = (refl, is_name)
entity_as_written net (entity.Block block) bits = (block_text block, refl, by (block.len == width_of block.addr) refl)
  where
    by : (b : Bool) → (block.len == width_of block.addr) ≡ b → WritesBlock (block_text block) block
    by true e = rw e (inr (reads_as_written block.addr bits, eqb-true block.len (width_of block.addr) e))
    by false e = rw e (inl (prefix_as_written block.addr block.len bits block.is_prefix))

pub entity_named : (net name text : List ℕ) → name ≡ net → IsNetName net
    → ((x : Prefix) → WritesTypedBlock text x ↔ (None ≡ Some x)) → (found : Option Entity)
    → MatchOption found ((pid : List ℕ)
    → ¬ (WritesEntity name text (entity.Pid pid))) (λ read. (pid : List ℕ) × (read ≡ entity.Pid pid)
    × WritesEntity name text (entity.Pid pid))
    → (other : Entity) → WritesEntity net text other ↔ (found ≡ Some other)
entity_named net name text e n reads found is other =
    entity_pid net text n reads found
    (subst (λ (m : List ℕ). MatchOption found ((pid : List ℕ)
    → ¬ (WritesEntity m text (entity.Pid pid))) (λ read. (pid : List ℕ) × (read ≡ entity.Pid pid)
    × WritesEntity m text (entity.Pid pid))) e is) other

-- what is behind `.pid:` in a text that begins with a name
pub pid_part_is : (net text rest : List ℕ) (r : Option (Bor (List ℕ))) → text ≡ net ++ rest
    → MatchOption r ((pid : List ℕ) → rest ≢ codes ".pid:" ++ pid) (λ x. rest ≡ codes ".pid:" ++ x.now)
    → MatchOption r ((pid : List ℕ)
    → text ≢ net ++ (codes ".pid:" ++ pid)) (λ x. text ≡ net ++ (codes ".pid:" ++ x.now))
pid_part_is net text rest None e none =
    λ pid k. none pid (append_cancel_left net rest (codes ".pid:" ++ pid) (sym e ∙ k))
pid_part_is net text rest (Some x) e is = e ∙ ap (λ t. net ++ t) is

pub no_pid : (net text part : List ℕ) → text ≡ net ++ (codes ".pid:" ++ part) → ¬ (IsPidName part) → (pid : List ℕ)
    → ¬ (WritesEntity net text (entity.Pid pid))
no_pid net text part e none pid w =
    none (subst IsPidName (append_cancel_left (codes ".pid:") pid
    part (append_cancel_left net (codes ".pid:" ++ pid) (codes ".pid:" ++ part) (sym w.0 ∙ e))) w.1)
