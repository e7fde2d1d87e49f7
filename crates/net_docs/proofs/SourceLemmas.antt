-- What is looked up of a network map is what the map shows.
use Rattle.std.proofs.Common.{◌≡◌, refl, ap, sym, ◌∙◌}
use Rattle.std.specs.Cmp.Lexicographic.{same_text}
use Rattle.std.specs.Prelude.{Bool, true, false, cond, List, [], ◌∷◌, Some, None, is_some}
use Rattle.std.specs.List.{list_any}
use Rattle.serde_json.specs.Data.{Data}
use Rattle.alto_addr.specs.declared.addr.Addr.{Addr}
use Rattle.alto_addr.specs.declared.addr.Addr.TheVariants as addr
use Rattle.alto_addr.specs.declared.prefix.Prefix.{Prefix}
use Rattle.alto_rows.specs.declared.key.Key.TheVariants as key
use Rattle.alto_rows.specs.Good.{AreGood}
use Rattle.alto_rows.specs.Order.{same_name}
use Rattle.alto_rows.specs.Rows.{Rows, has_row}
use Rattle.alto_maps.specs.Shape.{Name, member_in, stands}
use Rattle.net_docs.specs.NetworkMap.{families, family, is_empty, net_face}
use Rattle.net_docs.specs.Prefixes.{listed, pid_standing, prefixes_owned, texts_in_family}
use Rattle.net_docs.proofs.PlaceLemmas.{listed_member, member_is}
use Rattle.net_docs.proofs.SpanLemmas.{texts_owned}
use Rattle.net_docs.proofs.StandsLemmas.{stands_where}

-- a group stands where its PID is found
pub standing : (rows : Rows) (net g : Name) → is_some (pid_standing rows net g) ≡ stands (net_face net rows) g
standing rows net g = by (has_row rows (key.Pid net g)) ∙ sym (stands_where net g rows)
  where
    by : (b : Bool) → is_some (cond b (Some g) None) ≡ b
    by true = refl
    by false = refl

-- so none that stands isn't found
pub found_standing : (rows : Rows) (net g : Name) → stands (net_face net rows) g ≡ true
    → pid_standing rows net g ≡ None → ⊥
found_standing rows net g stood none =
    let both : is_some (pid_standing rows net g) ≡ true = standing rows net g ∙ stood in
    let other : is_some (pid_standing rows net g) ≡ false = ap is_some none in
    cc

-- only a family's name has texts
family_known : (kind : Name) (prefixes : List Prefix) → is_empty (texts_in_family kind prefixes) ≡ false
    → list_any (same_name kind) families ≡ true
family_known kind [] some = cc
family_known kind (prefix ∷ prefixes) some = by (same_name kind (family prefix.addr)) refl (family_known kind prefixes)
  where
    known : (of : Addr) → list_any (same_name (family of)) families ≡ true
    known (addr.V4 number) = refl
    known (addr.V6 number) = refl

    by : (b : Bool) → same_name kind (family prefix.addr) ≡ b
        → (is_empty (texts_in_family kind prefixes) ≡ false → list_any (same_name kind) families ≡ true)
        → list_any (same_name kind) families ≡ true
    by true e below = rw (same_text kind (family prefix.addr) (sym e)) (known prefix.addr)
    by false e below = below (rw e at some)

-- texts that stand in a group as they are
listed_where : (kind : Name) (texts : List Data) → (is_empty texts ≡ false → list_any (same_name kind) families ≡ true)
    → listed texts ≡ listed_member kind texts
listed_where kind [] known = refl
listed_where kind (text ∷ texts) known = rw (known refl) refl

-- the texts of a PID's prefixes of a family are what its group has
pub listed_is : (rows : Rows) (net pid kind : Name) → AreGood rows
    → listed (texts_in_family kind (prefixes_owned rows net pid)) ≡ member_in (net_face net rows) pid kind
listed_is rows net pid kind good =
    listed_where kind (texts_in_family kind (prefixes_owned rows net pid))
    (family_known kind (prefixes_owned rows net pid))
    ∙ (ap (listed_member kind) (texts_owned rows net pid kind)
    ∙ sym (member_is net rows pid kind good))
