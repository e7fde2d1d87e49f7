-- Pointers: escapes, tokens, that none is read in two ways, and how far a text begins one.
use Rattle.std.proofs.Common.{◌≡◌, ◌≢◌, ◌⊎◌, inl, inr, ℕ, ◌+◌, ◌-◌, ◌<◌, ◌≤◌, List, [], ◌∷◌, ◌++◌, zero, suc, length}
use Rattle.std.proofs.Common.{take, get_or, refl, sym, ap, ap₂, ◌∙◌, subst, arith, append_assoc, append-nil}
use Rattle.std.proofs.Common.{length-append}
use Rattle.std.specs.Prelude.{⊤, encode_utf8}
use Rattle.std.proofs.lemmas.Bool.{cases_lt}
use Rattle.std.proofs.lemmas.Bool.Decides.{eqb_tells}
use Rattle.std.proofs.lemmas.List.{take_at, length_push, get_or-append-add, get_or_append_left}
use Rattle.std.proofs.Math.Seq.{take-append-add}
use Rattle.std.proofs.lemmas.List.Concat.{flat_map-append}
use Rattle.std.proofs.lemmas.Str.{inside_one}
use Rattle.json_tree.specs.Escape.{EndsNoEscape, IsFaultOfToken}
use Rattle.json_tree.specs.Pointer.{escaped, token_of, pointer_text, BeginsPointer, BreaksAt, IsFaultOf}
use Rattle.json_tree.specs.declared.pointer.fault.PointerFault.{PointerFault}
use Rattle.json_tree.specs.declared.pointer.fault.PointerFault.TheVariants.{BadAt, Memory}

heads : (b d : ℕ) (x y : List ℕ) → b ∷ x ≡ d ∷ y → b ≡ d
heads b d x y same = cc

seconds : (a b d : ℕ) (x y : List ℕ) → a ∷ b ∷ x ≡ a ∷ d ∷ y → b ≡ d
seconds a b d x y same = cc

-- ---- escapes

data Escape (b : ℕ) : Type 0 where
  is_tilde : b ≡ 126 → escaped b ≡ 126 ∷ 48 ∷ [] → Escape b
  is_slash : b ≡ 47 → escaped b ≡ 126 ∷ 49 ∷ [] → Escape b
  is_plain : b ≢ 126 → b ≢ 47 → escaped b ≡ b ∷ [] → Escape b

escape : (b : ℕ) → Escape b
escape b =
    elim (eqb_tells b 126) [
      | inl t ↦ is_tilde t.1 (rw t.0)
      | inr t ↦ elim (eqb_tells b 47) [
        | inl s ↦ is_slash s.1 (rw (t.0, s.0))
        | inr s ↦
            is_plain t.1 s.1 (rw (t.0, s.0))
      ]
    ]

joined : (b d : ℕ) (p q x y : List ℕ) → escaped b ≡ p → escaped d ≡ q → escaped b ++ x ≡ escaped d ++ y
    → p ++ x ≡ q ++ y
joined b d p q x y e f same = ap (λ s. s ++ x) (sym e) ∙ (same ∙ ap (λ s. s ++ y) f)

-- no escape begins another
escaped-same : (b d : ℕ) (x y : List ℕ) → escaped b ++ x ≡ escaped d ++ y → (b ≡ d) × (x ≡ y)
escaped-same b d x y same = by (escape b) (escape d)
  where
    by : Escape b → Escape d → (b ≡ d) × (x ≡ y)
    by (is_tilde p e) (is_tilde q f) = let h : 126 ∷ 48 ∷ x ≡ 126 ∷ 48 ∷ y = joined b d _ _ x y e f same in
        (p ∙ sym q, cc)
    by (is_tilde p e) (is_slash q f) = let h : 126 ∷ 48 ∷ x ≡ 126 ∷ 49 ∷ y = joined b d _ _ x y e f same in
        absurd (omega (arith, seconds 126 48 49 x y h))
    by (is_tilde p e) (is_plain q r f) = let h : 126 ∷ 48 ∷ x ≡ d ∷ y = joined b d _ _ x y e f same in
        let n : d ≡ 126 = cc in absurd (q n)
    by (is_slash p e) (is_tilde q f) = let h : 126 ∷ 49 ∷ x ≡ 126 ∷ 48 ∷ y = joined b d _ _ x y e f same in
        absurd (omega (arith, seconds 126 49 48 x y h))
    by (is_slash p e) (is_slash q f) = let h : 126 ∷ 49 ∷ x ≡ 126 ∷ 49 ∷ y = joined b d _ _ x y e f same in
        (p ∙ sym q, cc)
    by (is_slash p e) (is_plain q r f) = let h : 126 ∷ 49 ∷ x ≡ d ∷ y = joined b d _ _ x y e f same in
        let n : d ≡ 126 = cc in absurd (q n)
    by (is_plain q r e) (is_tilde p f) = let h : b ∷ x ≡ 126 ∷ 48 ∷ y = joined b d _ _ x y e f same in
        let n : b ≡ 126 = cc in absurd (q n)
    by (is_plain q r e) (is_slash p f) = let h : b ∷ x ≡ 126 ∷ 49 ∷ y = joined b d _ _ x y e f same in
        let n : b ≡ 126 = cc in absurd (q n)
    by (is_plain p q e) (is_plain r s f) = let h : b ∷ x ≡ d ∷ y = joined b d _ _ x y e f same in (cc, cc)

-- ---- tokens

-- what may stand behind a token
abbrev EndsToken : List ℕ → Type 0
EndsToken text = (text ≡ []) ⊎ ((rest : List ℕ) × (text ≡ 47 ∷ rest))

escaped-no_end : (b : ℕ) (x y : List ℕ) → EndsToken y → escaped b ++ x ≡ y → ⊥
escaped-no_end b x y ends same = by (escape b) ends
  where
    by : Escape b → EndsToken y → ⊥
    by (is_tilde p e) (inl none) = let h : 126 ∷ 48 ∷ x ≡ [] = ap (λ s. s ++ x) (sym e) ∙ (same ∙ none) in cc
    by (is_tilde p e) (inr more) = let h : 126 ∷ 48 ∷ x ≡ 47 ∷ more.0 = ap (λ s. s ++ x) (sym e) ∙ (same ∙ more.1) in
        absurd (omega (arith, heads 126 47 _ _ h))
    by (is_slash p e) (inl none) = let h : 126 ∷ 49 ∷ x ≡ [] = ap (λ s. s ++ x) (sym e) ∙ (same ∙ none) in cc
    by (is_slash p e) (inr more) = let h : 126 ∷ 49 ∷ x ≡ 47 ∷ more.0 = ap (λ s. s ++ x) (sym e) ∙ (same ∙ more.1) in
        absurd (omega (arith, heads 126 47 _ _ h))
    by (is_plain p q e) (inl none) = let h : b ∷ x ≡ [] = ap (λ s. s ++ x) (sym e) ∙ (same ∙ none) in cc
    by (is_plain p q e) (inr more) = let h : b ∷ x ≡ 47 ∷ more.0 = ap (λ s. s ++ x) (sym e) ∙ (same ∙ more.1) in q cc

-- a token and what follows are read in one way
token_of-same : (m n x y : List ℕ) → EndsToken x → EndsToken y → token_of m ++ x ≡ token_of n ++ y → (m ≡ n) × (x ≡ y)
token_of-same [] [] x y ends beyond same = (refl, same)
token_of-same [] (d ∷ n) x y ends beyond same =
    absurd (escaped-no_end d (token_of n ++ y) x ends (sym (append_assoc (escaped d) (token_of n) y) ∙ sym same))
token_of-same (b ∷ m) [] x y ends beyond same =
    absurd (escaped-no_end b (token_of m ++ x) y beyond (sym (append_assoc (escaped b) (token_of m) x) ∙ same))
token_of-same (b ∷ m) (d ∷ n) x y ends beyond same =
    let first = escaped-same b d (token_of m ++ x) (token_of n ++ y) (sym (append_assoc (escaped b) (token_of m) x)
    ∙ (same ∙ append_assoc (escaped d) (token_of n) y)) in
    let rest = token_of-same m n x y ends beyond first.1 in
    (ap₂ (λ c cs. c ∷ cs) first.0 rest.0, rest.1)

-- a name without marks is its own token
pub token_of-plain : (name : List ℕ) → ((i : ℕ) → i < length name → get_or name i 0 ≢ 126)
    → ((i : ℕ) → i < length name → get_or name i 0 ≢ 47) → token_of name ≡ name
token_of-plain [] tildes slashes = refl
token_of-plain (b ∷ name) tildes slashes =
    let rest : token_of name ≡ name =
    token_of-plain name (λ i h. tildes (suc i) (omega arith)) (λ i h. slashes (suc i) (omega arith)) in
    by (escape b) rest
  where
    by : Escape b → token_of name ≡ name → escaped b ++ token_of name ≡ b ∷ name
    by (is_tilde p e) rest = absurd (tildes 0 (omega arith) p)
    by (is_slash p e) rest = absurd (slashes 0 (omega arith) p)
    by (is_plain p q e) rest = ap₂ (λ s t. s ++ t) e rest

-- so is a character that is no mark
pub token_of-encode : (c : ℕ) → c ≢ 126 → c ≢ 47 → token_of (encode_utf8 c) ≡ encode_utf8 c
token_of-encode c tilde slash =
    token_of-plain (encode_utf8 c)
    (λ i h e. let under : get_or (encode_utf8 c) i 0 < 128 = omega arith in
    tilde (inside_one c [] (encode_utf8 c) i (sym (append-nil _)) h under ∙ e))
    (λ i h e. let under : get_or (encode_utf8 c) i 0 < 128 = omega arith in
    slash (inside_one c [] (encode_utf8 c) i (sym (append-nil _)) h under ∙ e))

-- ---- pointers

EndsToken-pointer_text : (names : List (List ℕ)) → EndsToken (pointer_text names)
EndsToken-pointer_text [] = inl refl
EndsToken-pointer_text (n ∷ names) = inr (token_of n ++ pointer_text names, refl)

-- a text is the pointer along one list of names at most
pub pointer_text-same : (ms ns : List (List ℕ)) → pointer_text ms ≡ pointer_text ns → ms ≡ ns
pointer_text-same [] [] same = refl
pointer_text-same [] (n ∷ ns) same = let h : [] ≡ 47 ∷ (token_of n ++ pointer_text ns) = same in cc
pointer_text-same (m ∷ ms) [] same = let h : 47 ∷ (token_of m ++ pointer_text ms) ≡ [] = same in cc
pointer_text-same (m ∷ ms) (n ∷ ns) same =
    let h : 47 ∷ (token_of m ++ pointer_text ms) ≡ 47 ∷ (token_of n ++ pointer_text ns) = same in
    let tails : token_of m ++ pointer_text ms ≡ token_of n ++ pointer_text ns = cc in
    let parts = token_of-same m n _ _ (EndsToken-pointer_text ms) (EndsToken-pointer_text ns) tails in
    ap₂ (λ k ks. k ∷ ks) parts.0 (pointer_text-same ms ns parts.1)

pub pointer_text-more : (names : List (List ℕ)) (name : List ℕ)
    → pointer_text (names ++ name ∷ []) ≡ pointer_text names ++ 47 ∷ token_of name
pointer_text-more names name = flat_map-append (λ n. 47 ∷ token_of n) names (name ∷ [])
    ∙ ap (λ t. pointer_text names ++ 47 ∷ t) (append-nil (token_of name))

-- ---- where a text breaks off

-- behind each `~` an escape goes on
abbrev EachTildeEscapes : List ℕ → Type 0
EachTildeEscapes [] = ⊤
EachTildeEscapes (x ∷ xs) = (x ≡ 126 → EndsNoEscape xs → ⊥) × EachTildeEscapes xs

escapes-escaped : (b : ℕ) (x : List ℕ) → EachTildeEscapes x → EachTildeEscapes (escaped b ++ x)
escapes-escaped b x rest = by (escape b)
  where
    by : Escape b → EachTildeEscapes (escaped b ++ x)
    by (is_tilde p e) = subst (λ s. EachTildeEscapes (s ++ x)) (sym e) (
      (λ _ stray. stray.no_tilde x refl),
      ((λ n _. absurd (omega arith)), rest),
    )
    by (is_slash p e) = subst (λ s. EachTildeEscapes (s ++ x)) (sym e) (
      (λ _ stray. stray.no_slash x refl),
      ((λ n _. absurd (omega arith)), rest),
    )
    by (is_plain p q e) = subst (λ s. EachTildeEscapes (s ++ x)) (sym e) ((λ n _. p n), rest)

escapes-token_of : (name x : List ℕ) → EachTildeEscapes x → EachTildeEscapes (token_of name ++ x)
escapes-token_of [] x rest = rest
escapes-token_of (b ∷ name) x rest = subst EachTildeEscapes (sym (append_assoc (escaped b) (token_of name) x))
    (escapes-escaped b (token_of name ++ x) (escapes-token_of name x rest))

escapes-pointer_text : (names : List (List ℕ)) → EachTildeEscapes (pointer_text names)
escapes-pointer_text [] = tt
escapes-pointer_text (n ∷ names) =
    ((λ e _. absurd (omega arith)), escapes-token_of n (pointer_text names) (escapes-pointer_text names))

escapes-later : (x y : List ℕ) → EachTildeEscapes (x ++ y) → EachTildeEscapes y
escapes-later [] y h = h
escapes-later (b ∷ x) y h = escapes-later x y h.1

-- so no pointer goes past a `~` that begins no escape
stray_no_pointer : (x y : List ℕ) (names : List (List ℕ)) → EndsNoEscape y → pointer_text names ≡ x ++ 126 ∷ y → ⊥
stray_no_pointer x y names stray same =
    let later : EachTildeEscapes (126 ∷ y) =
    escapes-later x (126 ∷ y) (subst EachTildeEscapes same (escapes-pointer_text names)) in
    later.0 refl stray

stray-head : (c : ℕ) (x y : List ℕ) → EndsNoEscape (c ∷ x) → EndsNoEscape (c ∷ y)
stray-head c x y stray =
    record {
      no_tilde = λ rest same. let h : c ∷ y ≡ 48 ∷ rest = same in let n : c ≡ 48 = cc in
          stray.no_tilde x (ap (λ b. b ∷ x) n);
      no_slash = λ rest same. let h : c ∷ y ≡ 49 ∷ rest = same in let n : c ≡ 49 = cc in
          stray.no_slash x (ap (λ b. b ∷ x) n);
    }

-- what is left behind the token of a stray `~` continues no escape either
pub stray-append : (x y : List ℕ) → EndsNoEscape x → EndsToken y → EndsNoEscape (x ++ y)
stray-append [] y stray (inl none) = record {
  no_tilde = λ rest same. let h : [] ≡ 48 ∷ rest = sym none ∙ same in
      cc;
  no_slash = λ rest same. let h : [] ≡ 49 ∷ rest = sym none ∙ same in cc;
}
stray-append [] y stray (inr more) =
    record {
      no_tilde = λ rest same. let h : 47 ∷ more.0 ≡ 48 ∷ rest = sym more.1 ∙ same in
          absurd (omega (arith, heads 47 48 _ _ h));
      no_slash = λ rest same. let h : 47 ∷ more.0 ≡ 49 ∷ rest = sym more.1 ∙ same in
          absurd (omega (arith, heads 47 49 _ _ h));
    }
stray-append (c ∷ x) y stray ends = stray-head c x (x ++ y) stray

-- one more byte behind the `~`
beyond-stray : (done left rest : List ℕ) (names : List (List ℕ)) (k : ℕ)
    → length done + 1 + suc k ≤ length (done ++ 126 ∷ left) → EndsNoEscape left
    → pointer_text names ≡ take (length done + 1 + suc k) (done ++ 126 ∷ left) ++ rest → ⊥
beyond-stray done [] rest names k within stray spells = absurd (omega (arith, length-append done (126 ∷ [])))
beyond-stray done (c ∷ left) rest names k within stray spells =
    let cut : take (length done + 1 + suc k) (done ++ 126 ∷ c ∷ left) ≡ done ++ 126 ∷ c ∷ take k left =
    ap (λ n. take n (done ++ 126 ∷ c ∷ left)) (let e : length done + 1 + suc k
    ≡ length done + suc (suc k) = omega arith in e) ∙ take-append-add done (126 ∷ c ∷ left) (suc (suc k)) in
    stray_no_pointer done (c ∷ (take k left ++ rest)) names (stray-head c left (take k left ++ rest) stray)
    (spells ∙ (ap (λ s. s ++ rest) cut ∙ append_assoc done (126 ∷ c ∷ take k left) rest))

-- a text with a stray `~` breaks off behind it
pub breaks_at_stray : (text done left read : List ℕ) (names : List (List ℕ)) → text ≡ done ++ 126 ∷ left
    → done ≡ pointer_text names ++ 47 ∷ token_of read → EndsNoEscape left → BreaksAt text (length done + 1)
breaks_at_stray text done left read names parts front stray =
    let apart : text ≡ (done ++ 126 ∷ []) ++ left = parts ∙ sym (append_assoc done (126 ∷ []) left) in
    let cut : take (length done + 1) text ≡ done ++ 126 ∷ [] = ap (take (length done + 1)) apart
    ∙ take_at (done ++ 126 ∷ []) left (length done + 1) (length_push done 126) in
    record {
      no_pointer = λ ns same. stray_no_pointer done left ns stray (same ∙ parts);
      within = omega (arith, ap length parts, length-append done (126 ∷ left));
      begins = record {
        rest = 48 ∷ [];
        names = names ++ (read ++ 126 ∷ []) ∷ [];
        spells =
            pointer_text-more names (read ++ 126 ∷ [])
            ∙ (ap (λ t. pointer_text names ++ 47 ∷ t) (flat_map-append escaped read (126 ∷ []))
            ∙ (sym (append_assoc (pointer_text names) (47 ∷ token_of read) (126 ∷ 48 ∷ []))
            ∙ (ap (λ s. s ++ 126 ∷ 48 ∷ []) (sym front)
            ∙ (sym (append_assoc done (126 ∷ []) (48 ∷ [])) ∙ ap (λ s. s ++ 48 ∷ []) (sym cut)))));
      };
      longest = λ more within begun. by more within begun (cases_lt (length done + 1) more);
    }
  where
    by : (more : ℕ) → more ≤ length text → BeginsPointer (take more text)
        → (length done + 1 < more) ⊎ (more ≤ length done + 1) → more ≤ length done + 1
    by more within begun (inr enough) = enough
    by more within begun (inl beyond) =
        let k = more - length done - 2 in
        let e : more ≡ length done + 1 + suc k = omega arith in
        absurd (beyond-stray done left begun.rest begun.names k
        (let within' : length done + 1 + suc k ≤ length text = omega (arith, e) in
        subst (λ s. length done + 1 + suc k ≤ length s) parts within')
        stray
        (begun.spells ∙ ap (λ s. s ++ begun.rest) (ap (λ n. take n text) e
        ∙ ap (take (length done + 1 + suc k)) parts)))

-- and one that begins with another byte than a slash, at its start
pub breaks_at_start : (text : List ℕ) → text ≢ [] → ((rest : List ℕ) → text ≢ 47 ∷ rest) → BreaksAt text 0
breaks_at_start [] filled other = absurd (filled refl)
breaks_at_start (c ∷ text) filled other =
    record {
      no_pointer = λ names same. by text names (EndsToken-pointer_text names) same (other text);
      within = omega arith;
      begins = record { rest = []; names = []; spells = refl };
      longest = λ more within begun. at more within begun;
    }
  where
    by : (more : List ℕ) (names : List (List ℕ)) → EndsToken (pointer_text names) → pointer_text names ≡ c ∷ more
        → (c ∷ text ≢ 47 ∷ text) → ⊥
    by more names (inl none) same apart = let h : [] ≡ c ∷ more = sym none ∙ same in cc
    by more names (inr rest) same apart = let h : 47 ∷ rest.0 ≡ c ∷ more = sym rest.1 ∙ same in
        apart (ap (λ b. b ∷ text) (sym (heads 47 c _ _ h)))

    at : (more : ℕ) → more ≤ length (c ∷ text) → BeginsPointer (take more (c ∷ text)) → more ≤ 0
    at zero within begun = omega arith
    at (suc k) within begun = absurd (by (take k text ++ begun.rest) begun.names (EndsToken-pointer_text begun.names)
        begun.spells (other text))

-- ---- reading a token

-- what holds of a text without a slash holds of its end
pub later_without : (mark : ℕ) (x y : List ℕ) → ((i : ℕ) → i < length (x ++ y) → get_or (x ++ y) i 0 ≢ mark) → (i : ℕ)
    → i < length y → get_or y i 0 ≢ mark
later_without mark x y none i within is =
    let under : length x + i < length (x ++ y) = omega (arith, length-append x y) in
    none (length x + i) under (get_or-append-add x y i 0 ∙ is)

earlier_without : (mark : ℕ) (x y : List ℕ) → ((i : ℕ) → i < length (x ++ y) → get_or (x ++ y) i 0 ≢ mark) → (i : ℕ)
    → i < length x → get_or x i 0 ≢ mark
earlier_without mark x y none i within is =
    let under : i < length (x ++ y) = omega (arith, length-append x y) in
    none i under (get_or_append_left x y 0 i within ∙ is)

-- a plain piece is read as it stands
pub token_of-with_plain : (before plain : List ℕ) → ((i : ℕ) → i < length plain → get_or plain i 0 ≢ 126)
    → ((i : ℕ) → i < length plain → get_or plain i 0 ≢ 47) → token_of (before ++ plain) ≡ token_of before ++ plain
token_of-with_plain before plain tildes slashes = flat_map-append escaped before plain
    ∙ ap (λ t. token_of before ++ t) (token_of-plain plain tildes slashes)

-- up to the next `~`
pub plain_read : (token rest plain behind before after : List ℕ) → token ≡ token_of before ++ rest
    → rest ≡ plain ++ 126 ∷ behind → after ≡ before ++ plain
    → ((i : ℕ) → i < length plain → get_or plain i 0 ≢ 126) → ((i : ℕ) → i < length rest → get_or rest i 0 ≢ 47)
    → token ≡ token_of after ++ 126 ∷ behind
plain_read token rest plain behind before after parts cut longer tildes slashes =
    let none = earlier_without 47 plain (126 ∷ behind) (subst (λ s. (i : ℕ) → i < length s
    → get_or s i 0 ≢ 47) cut slashes) in
    parts ∙ (ap (λ s. token_of before ++ s) cut
    ∙ (sym (append_assoc (token_of before) plain (126 ∷ behind))
    ∙ ap (λ s. s ++ 126 ∷ behind) (sym (token_of-with_plain before plain tildes none) ∙ ap token_of (sym longer))))

-- and the escape there
pub escape_read : (token before after behind left : List ℕ) (c : ℕ) → token ≡ token_of before ++ 126 ∷ behind
    → 126 ∷ behind ≡ escaped c ++ left → after ≡ before ++ c ∷ [] → token ≡ token_of after ++ left
escape_read token before after behind left c parts cut longer =
    parts ∙ (ap (λ s. token_of before ++ s) cut
    ∙ (sym (append_assoc (token_of before) (escaped c) left)
    ∙ ap (λ s. s ++ left) (ap (λ t. token_of before ++ t) (sym (append-nil (escaped c)))
    ∙ (sym (flat_map-append escaped before (c ∷ [])) ∙ ap token_of (sym longer)))))

-- what is left has no slash either
pub left_without : (rest plain behind left : List ℕ) (c : ℕ) → rest ≡ plain ++ 126 ∷ behind
    → 126 ∷ behind ≡ escaped c ++ left → ((i : ℕ) → i < length rest → get_or rest i 0 ≢ 47) → (i : ℕ) → i < length left
    → get_or left i 0 ≢ 47
left_without rest plain behind left c cut again none =
    let shown : rest ≡ plain ++ (escaped c ++ left) = cut ∙ ap (λ s. plain ++ s) again in
    later_without 47 (escaped c) left (later_without 47 plain (escaped c ++ left) (subst (λ s. (i : ℕ) → i < length s
    → get_or s i 0 ≢ 47) shown none))

-- the fault of a token is that of its pointer
pub fault_of_token : (tokens token tail : List ℕ) (names : List (List ℕ)) (start : ℕ) (fault : PointerFault)
    → 47 ∷ tokens ≡ pointer_text names ++ 47 ∷ (token ++ tail) → (tail ≡ []) ⊎ ((rest : List ℕ) × (tail ≡ 47 ∷ rest))
    → start ≡ length (pointer_text names) + 1
    → IsFaultOfToken token start fault → IsFaultOf (47 ∷ tokens) fault
fault_of_token tokens token tail names start (BadAt place) parts ends here stray =
    let done = pointer_text names ++ 47 ∷ token_of stray.read in
    let whole : 47 ∷ tokens ≡ done ++ 126 ∷ (stray.left ++ tail) =
    parts ∙ (ap (λ s. pointer_text names ++ 47 ∷ (s ++ tail)) stray.parts
    ∙ (ap (λ s. pointer_text names ++ 47 ∷ s) (append_assoc (token_of stray.read) (126 ∷ stray.left) tail)
    ∙ sym (append_assoc (pointer_text names) (47 ∷ token_of stray.read) (126 ∷ (stray.left ++ tail))))) in
    let at : length done + 1 ≡ place =
    omega (arith, stray.here, length-append (pointer_text names) (47 ∷ token_of stray.read)) in
    subst (BreaksAt (47 ∷ tokens)) at (breaks_at_stray (47 ∷ tokens) done (stray.left ++ tail) stray.read names whole
    refl (stray-append stray.left tail stray.stray ends))
fault_of_token tokens token tail names start Memory parts ends here stray = tt
