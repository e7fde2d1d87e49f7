-- Texts that begin with bytes of names of networks, and what reading a name tells.
use Rattle.std.proofs.Common.{◌≡◌, ℕ, suc, ◌+◌, Bool, true, false, cond, not, List, [], ◌∷◌, ◌++◌, length, take, drop}
use Rattle.std.proofs.Common.{get_or, Ok, Err, Option, Some, None, refl, sym, ap, ◌∙◌, subst, arith, append-nil}
use Rattle.std.proofs.Common.{length-append}
use Rattle.std.specs.Prelude.{MatchOption}
use Rattle.std.specs.List.{position_from}
use Rattle.std.proofs.Math.Seq.{take-append_seam, drop-append_seam}
use Rattle.alto_names.specs.Name.{named, unless_bad, first_bad, is_net_byte, IsNetName}
use Rattle.alto_names.specs.declared.label.NameFault.{NameFault}
use Rattle.alto_rows.specs.Pieces.{AreNetBytes, EndsNet, IsNetEnd}

-- where a text reads as a name, the name is the text, and no byte of it is bad
both_named : (long : Bool) (fault : NameFault) (text name : List ℕ) (found : Option ℕ)
    → cond long (Err fault) (unless_bad text found) ≡ Ok name
    → (name ≡ text) × (found ≡ None)
both_named true fault text name found h = cc
both_named false fault text name None h = (cc, refl)
both_named false fault text name (Some place) h = cc

-- a name is the text that it was read from
pub named_is : (alphabet : ℕ → Bool) (longest : ℕ) (text name : List ℕ)
    → named alphabet longest text ≡ Ok name → name ≡ text
named_is alphabet longest [] name h = cc
named_is alphabet longest (byte ∷ rest) name h = (both_named _ _ (byte ∷ rest) name _ h).0

none_bad : (alphabet : ℕ → Bool) (longest : ℕ) (text name : List ℕ) → named alphabet longest text ≡ Ok name
    → first_bad alphabet text ≡ None
none_bad alphabet longest [] name h = refl
none_bad alphabet longest (byte ∷ rest) name h = (both_named _ _ (byte ∷ rest) name _ h).1

-- the place of what stands behind n bytes, if anything does
abbrev place_behind : ℕ → List ℕ → Option ℕ
place_behind n [] = None
place_behind n (byte ∷ rest) = Some n

-- a text cut behind the bytes of names of networks, from place i
record IsCut (i : ℕ) (text : List ℕ) : Type 0 where
  head : List ℕ
  tail : List ℕ
  whole : text ≡ head ++ tail
  net : AreNetBytes head
  ends : EndsNet tail
  place : position_from (λ byte. not (is_net_byte byte)) i text ≡ place_behind (i + length head) tail

cut_from : (i : ℕ) (text : List ℕ) → IsCut i text
cut_from i [] = record { head = []; tail = []; whole = refl; net = tt; ends = tt; place = refl }
cut_from i (byte ∷ rest) = by (cut_from (i + 1) rest) (is_net_byte byte) refl
  where
    by : IsCut (i + 1) rest → (b : Bool) → is_net_byte byte ≡ b → IsCut i (byte ∷ rest)
    by cut true e =
        let size : i + 1 + length cut.head ≡ i + suc (length cut.head) = omega arith in
        record {
          head = byte ∷ cut.head;
          tail = cut.tail;
          whole = ap (λ t. byte ∷ t) cut.whole;
          net = (e, cut.net);
          ends = cut.ends;
          place = rw e (cut.place ∙ ap (λ n. place_behind n cut.tail) size);
        }
    by cut false e =
        let size : i ≡ i + 0 = omega arith in
        record { head = []; tail = byte ∷ rest; whole = refl; net = tt; ends = e; place = rw e (ap (λ n. Some n) size) }

-- the place of the first byte that isn't in the alphabet of networks ends the name
net_end_at : (text head tail : List ℕ) → text ≡ head ++ tail → AreNetBytes head → EndsNet tail
    → IsNetEnd text (length head)
net_end_at text head tail whole net ends = record {
  within = omega (arith, ap length whole, length-append head tail);
  net = subst AreNetBytes (sym (ap (take (length head)) whole ∙ take-append_seam head tail)) net;
  ends = subst EndsNet (sym (ap (drop (length head)) whole ∙ drop-append_seam head tail)) ends;
}

net_end : (found : Option ℕ) (text head tail : List ℕ) → text ≡ head ++ tail → AreNetBytes head → EndsNet tail
    → found ≡ place_behind (0 + length head) tail
    → MatchOption found (IsNetEnd text (length text)) (λ n. IsNetEnd text n)
net_end None text head [] whole net ends e =
    subst (λ n. IsNetEnd text n) (sym (ap length (whole ∙ append-nil head))) (net_end_at text head [] whole net ends)
net_end None text head (byte ∷ tail) whole net ends e = cc
net_end (Some n) text head [] whole net ends e = cc
net_end (Some n) text head (byte ∷ tail) whole net ends e =
    let size : n ≡ 0 + length head = cc in
    subst (λ n. IsNetEnd text n) (let s : length head ≡ n = omega arith in
    s) (net_end_at text head (byte ∷ tail) whole net ends)

-- the first byte that isn't in the alphabet of networks ends the name, or the text does
pub net_ends : (found : Option ℕ) (text : List ℕ) → found ≡ first_bad is_net_byte text
    → MatchOption found (IsNetEnd text (length text)) (λ n. IsNetEnd text n)
net_ends found text e =
    let cut = cut_from 0 text in
    net_end found text cut.head cut.tail cut.whole cut.net cut.ends (e ∙ cut.place)

-- the bytes of a network's name are of its alphabet
pub net_bytes : (net : List ℕ) → IsNetName net → AreNetBytes net
net_bytes net h = by (cut_from 0 net)
  where
    by : IsCut 0 net → AreNetBytes net
    by cut = whole cut.tail (cut.whole) (sym (none_bad is_net_byte 24 net net h) ∙ cut.place)
      where
        whole : (tail : List ℕ) → net ≡ cut.head ++ tail → None ≡ place_behind (0 + length cut.head) tail
            → AreNetBytes net
        whole [] e k = subst AreNetBytes (sym (e ∙ append-nil cut.head)) cut.net
        whole (byte ∷ tail) e k = cc

-- where two texts of such bytes and what is behind them are alike, each is the other
pub apart : (one other back later : List ℕ) → AreNetBytes one → AreNetBytes other → EndsNet back → EndsNet later
    → one ++ back ≡ other ++ later
    → (one ≡ other) × (back ≡ later)
apart [] [] back later h k p q e = (refl, e)
apart [] (b ∷ other) [] later h k p q e = cc
apart [] (b ∷ other) (c ∷ back) later h k p q e =
    let same : c ≡ b = ap (λ t. get_or t 0 0) e in
    let both : true ≡ false = sym k.0 ∙ ap is_net_byte (sym same) ∙ p in
    cc
apart (a ∷ one) [] back [] h k p q e = cc
apart (a ∷ one) [] back (c ∷ later) h k p q e =
    let same : a ≡ c = ap (λ t. get_or t 0 0) e in
    let both : true ≡ false = sym h.0 ∙ ap is_net_byte same ∙ q in
    cc
apart (a ∷ one) (b ∷ other) back later h k p q e =
    let same = apart one other back later h.1 k.1 p q (ap (drop 1) e) in
    let first : a ≡ b = ap (λ t. get_or t 0 0) e in
    (ap (λ c. c ∷ one) first ∙ ap (λ t. b ∷ t) same.0, same.1)
