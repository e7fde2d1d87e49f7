-- The prefixes of PIDs, taken one PID after another from those of the network.
use Rattle.std.proofs.Common.{◌≡◌, refl, ap, sym, ◌∙◌, inl, inr}
use Rattle.std.proofs.lemmas.Cmp.{nat_list_cmp_total, tied_itself}
use Rattle.std.specs.Prelude.{Bool, true, false, ◌⊎◌, List, [], ◌∷◌, map, fold, if◌then◌else◌, Some, None}
use Rattle.std.specs.List.{AllByRecursion, filter_map}
use Rattle.std.specs.List.Sorted.{IsStrictlySortedBy}
use Rattle.std.specs.Ordering.{is_lt, ordering_then}
use Rattle.std.specs.declared.cmp.Ordering.{Ordering}
use Rattle.std.specs.declared.cmp.Ordering.TheVariants.{Less, Equal, Greater}
use Rattle.serde_json.specs.Data.{Data, Members, no_members}
use Rattle.json_tree.specs.Document.{with_member, members_of}
use Rattle.alto_addr.specs.Order.{prefix_cmp}
use Rattle.alto_addr.specs.declared.prefix.Prefix.{Prefix}
use Rattle.alto_rows.specs.declared.key.Key.TheVariants as key
use Rattle.alto_rows.specs.Order.{key_cmp, name_cmp, same_name}
use Rattle.alto_rows.specs.Prefixes.{prefixes_in}
use Rattle.alto_rows.specs.Rows.{Rows, AreSorted}
use Rattle.alto_rows.proofs.OrderLemmas.{name_cmp_exact, name_cmp_itself}
use Rattle.alto_rows.proofs.RowsLemmas.{ArePast, past_first, sorted_rest}
use Rattle.alto_rows.proofs.TouchesLemmas.{one_name, same_name_itself}
use Rattle.alto_maps.specs.Shape.{Name, group_object}
use Rattle.net_docs.specs.Merged.{with_merged}
use Rattle.net_docs.specs.NetworkMap.{net_face, pids_of}
use Rattle.net_docs.specs.Prefixes.{Owned, from_pid, leading_of, group_of, prefixes_owned}
use Rattle.net_docs.proofs.GroupLemmas.{group_owned}

-- ---- the order of names

-- a name is another or stands behind it
abbrev AtOrAfter : Name → Name → Type 0
AtOrAfter a b = (a ≡ b) ⊎ (name_cmp a b ≡ Less)

-- what is before a name is before what stands at or after that
before_all : (a b c : Name) → name_cmp a b ≡ Less → AtOrAfter b c → name_cmp a c ≡ Less
before_all a b c less (inl same) = rw (← same) less
before_all a b c less (inr more) = nat_list_cmp_total.trans a b c less more

at_or_after : (a b c : Name) → AtOrAfter a b → AtOrAfter b c → AtOrAfter a c
at_or_after a b c (inl same) behind = rw same behind
at_or_after a b c (inr less) behind = inr (before_all a b c less behind)

-- a name that isn't before another is that or stands behind it
not_before : (a b : Name) → is_lt (name_cmp a b) ≡ false → AtOrAfter b a
not_before a b no_less = by (name_cmp b a) refl
  where
    by : (o : Ordering) → name_cmp b a ≡ o → AtOrAfter b a
    by Less e = inr e
    by Equal e = inl (name_cmp_exact b a e)
    by Greater e = let less : name_cmp a b ≡ Less = nat_list_cmp_total.antisymm a b ∙ rw e refl in
        let both : is_lt (name_cmp a b) ≡ true = rw less refl in cc

-- names one of which is before the other aren't one
other_name : (a b : Name) → name_cmp a b ≡ Less → same_name b a ≡ false
other_name a b less = by (same_name b a) refl
  where
    by : (same : Bool) → same_name b a ≡ same → same_name b a ≡ false
    by true e = let one : b ≡ a = one_name b a e in let tie : name_cmp a b ≡ name_cmp a a = ap (name_cmp a) one in
        let ties = name_cmp_itself a in cc
    by false e = e

-- ---- prefixes by rising PIDs

-- each is of this PID or of one behind it
abbrev AreFrom : Name → Owned → Type 0
AreFrom pid prefixes = AllByRecursion (λ p. AtOrAfter pid p.1) prefixes

-- their PIDs rise
abbrev Rise : Owned → Type 0
Rise [] = Unit {0}
Rise (first ∷ rest) = AreFrom first.1 rest × Rise rest

from_earlier : (a b : Name) (prefixes : Owned) → AtOrAfter a b → AreFrom b prefixes → AreFrom a prefixes
from_earlier a b [] behind all = tt
from_earlier a b (first ∷ rest) behind all = (at_or_after a b first.1 behind all.0, from_earlier a b rest behind all.1)

-- those of a PID
abbrev owned : Name → Owned → List Prefix
owned pid prefixes = filter_map (λ p. if same_name pid p.1 then Some p.0 else None) prefixes

-- the rest rises, and has none of an earlier PID
rise_from : (pid : Name) (prefixes : Owned) → Rise prefixes
    → Rise (from_pid pid prefixes) × AreFrom pid (from_pid pid prefixes)
rise_from pid [] rise = (tt, tt)
rise_from pid (first ∷ rest) rise = by (is_lt (name_cmp first.1 pid)) refl (rise_from pid rest rise.1)
  where
    by : (b : Bool) → is_lt (name_cmp first.1 pid) ≡ b → Rise (from_pid pid rest) × AreFrom pid (from_pid pid rest)
        → Rise (from_pid pid (first ∷ rest)) × AreFrom pid (from_pid pid (first ∷ rest))
    by true e below = rw e below
    by false e below =
        let behind : AtOrAfter pid first.1 = not_before first.1 pid e in
        rw e (rise, (behind, from_earlier pid first.1 rest behind rise.0))

-- it has those of the PID and of each behind it
owned_from : (pid q : Name) (prefixes : Owned) → AtOrAfter pid q → owned q (from_pid pid prefixes) ≡ owned q prefixes
owned_from pid q [] behind = refl
owned_from pid q (first ∷ rest) behind = by (name_cmp first.1 pid) refl (owned_from pid q rest behind)
  where
    by : (o : Ordering) → name_cmp first.1 pid ≡ o → owned q (from_pid pid rest) ≡ owned q rest
        → owned q (from_pid pid (first ∷ rest)) ≡ owned q (first ∷ rest)
    by Less e below = rw (e, other_name first.1 q (before_all first.1 pid q e behind)) below
    by Equal e below = rw e refl
    by Greater e below = rw e refl

-- none of those behind a PID is its own
none_owned : (pid : Name) (prefixes : Owned) (least : Name) → name_cmp pid least ≡ Less → AreFrom least prefixes
    → owned pid prefixes ≡ []
none_owned pid [] least less all = refl
none_owned pid (first ∷ rest) least less all = rw (apart) (none_owned pid rest least less all.1)
  where
    apart : same_name pid first.1 ≡ false
    apart = by (same_name pid first.1) refl
      where
        by : (b : Bool) → same_name pid first.1 ≡ b → same_name pid first.1 ≡ false
        by true e = let one : pid ≡ first.1 = one_name pid first.1 e in
            let more : name_cmp pid first.1 ≡ Less = before_all pid least first.1 less all.0 in
            let tie : name_cmp pid pid ≡ name_cmp pid first.1 = ap (name_cmp pid) one in
            let ties = name_cmp_itself pid in cc
        by false e = e

-- those of the least PID stand first
leading_owned : (pid : Name) (prefixes : Owned) → Rise prefixes → AreFrom pid prefixes
    → leading_of pid prefixes ≡ owned pid prefixes
leading_owned pid [] rise all = refl
leading_owned pid (first ∷ rest) rise all = by (same_name pid first.1) refl (leading_owned pid rest rise.1 all.1)
  where
    past : AtOrAfter pid first.1 → same_name pid first.1 ≡ false → name_cmp pid first.1 ≡ Less
    past (inl same) e = let itself : same_name pid pid ≡ false = (ap (same_name pid) same) ∙ e in
        let ties = same_name_itself pid in cc
    past (inr less) e = less

    by : (b : Bool) → same_name pid first.1 ≡ b → leading_of pid rest ≡ owned pid rest
        → leading_of pid (first ∷ rest) ≡ owned pid (first ∷ rest)
    by true e below = rw e (ap (λ (more : List Prefix). first.0 ∷ more) below)
    by false e below = rw (e, none_owned pid rest first.1 (past all.0 e) rise.0) refl

-- ---- one PID after another

-- what holds of each PID of a list behind one holds of the prefixes from that on
owned_behind : (value : Name → List Prefix) (pid : Name) (pids : List Name) (left : Owned)
    → AllByRecursion (λ y. name_cmp pid y ≡ Less) pids
    → AllByRecursion (λ q. owned q left ≡ value q) pids
    → AllByRecursion (λ q. owned q (from_pid pid left) ≡ value q) pids
owned_behind value pid [] left behind each = tt
owned_behind value pid (q ∷ pids) left behind each =
    (owned_from pid q left (inr behind.0) ∙ each.0, owned_behind value pid pids left behind.1 each.1)

-- each PID has its own
merged_all : (value : Name → List Prefix) (members : Members) (pids : List Name) (left : Owned)
    → IsStrictlySortedBy name_cmp pids → Rise left
    → AllByRecursion (λ q. owned q left ≡ value q) pids
    → with_merged members pids left ≡ fold {A = Name × Data} (λ others m. with_member m.0 m.1 others)
    members (map (λ pid. (pid, group_of (value pid))) pids)
unfolding IsStrictlySortedBy
merged_all value put [] left sorted rise each = refl
merged_all value put (pid ∷ pids) left sorted rise each =
    let rest = rise_from pid left rise in
    let own : leading_of pid (from_pid pid left) ≡ value pid =
    leading_owned pid (from_pid pid left) rest.0 rest.1 ∙ (owned_from pid pid left (inl refl) ∙ each.0) in
    rw own (merged_all value (with_member pid (group_of (value pid)) put) pids (from_pid pid left) sorted.1
    rest.0 (owned_behind value pid pids left sorted.0 each.1))

-- ---- the rows

-- of a network's prefixes the keys stand as their PIDs
after_key : (net owner other : Name) (x y : Prefix) → key_cmp (key.Prefix net owner x) (key.Prefix net other y) ≡ Less
    → AtOrAfter owner other
unfolding key_cmp
after_key net owner other x y less = by (name_cmp owner other) refl (rw (tied_itself nat_list_cmp_total net) at less)
  where
    by : (o : Ordering) → name_cmp owner other ≡ o → ordering_then (name_cmp owner other) (prefix_cmp x y) ≡ Less
        → AtOrAfter owner other
    by Less e h = inr e
    by Equal e h = inl (name_cmp_exact owner other e)
    by Greater e h = let both : ordering_then Greater (prefix_cmp x y) ≡ Less = rw e at h in cc

-- so the prefixes of rows behind one's key are of its PID or of one behind
rows_from_pid : (net owner : Name) (x : Prefix) (rows : Rows) → ArePast (key.Prefix net owner x) rows
    → AreFrom owner (prefixes_in rows net)
rows_from_pid net owner x [] past = tt
rows_from_pid net owner x ((key.Prefix of other y, v) ∷ rows) past =
    by (same_name net of) refl (rows_from_pid net owner x rows past.1)
  where
    by : (b : Bool) → same_name net of ≡ b → AreFrom owner (prefixes_in rows net)
        → AreFrom owner (prefixes_in ((key.Prefix of other y, v) ∷ rows) net)
    by true e below = rw e (after_key net owner other x y (rw (← one_name net of e) at past.0), below)
    by false e below = rw e below
rows_from_pid net owner x (_ ∷ rows) past = rows_from_pid net owner x rows past.1

-- the PIDs of a network's prefixes rise
rise_all : (net : Name) (rows : Rows) → AreSorted rows → Rise (prefixes_in rows net)
rise_all net [] sorted = tt
rise_all net ((key.Prefix of owner x, v) ∷ rows) sorted =
    by (same_name net of) refl (rise_all net rows (sorted_rest (key.Prefix of owner x, v) rows sorted))
  where
    by : (b : Bool) → same_name net of ≡ b → Rise (prefixes_in rows net)
        → Rise (prefixes_in ((key.Prefix of owner x, v) ∷ rows) net)
    by true e below =
        rw e (
          rows_from_pid net owner x
              rows (rw (← one_name net of e) at (past_first (key.Prefix of owner x, v) rows sorted)),
          below,
        )
    by false e below = rw e below
rise_all net (first ∷ rows) sorted = rise_all net rows (sorted_rest first rows sorted)

-- of two PIDs of a network the keys stand as the names
pid_cmp : (net low pid : Name) → key_cmp (key.Pid net low) (key.Pid net pid) ≡ name_cmp low pid
unfolding key_cmp
pid_cmp net low pid = rw (tied_itself nat_list_cmp_total net) refl

-- the PIDs of rows behind a PID's key are behind it
pids_behind : (net pid : Name) (rows : Rows) → ArePast (key.Pid net pid) rows
    → AllByRecursion (λ other. name_cmp pid other ≡ Less) (pids_of rows net)
pids_behind net pid [] past = tt
pids_behind net pid ((key.Pid of other, v) ∷ rows) past = by (same_name net of) refl (pids_behind net pid rows past.1)
  where
    by : (b : Bool) → same_name net of ≡ b → AllByRecursion (λ more. name_cmp pid more ≡ Less) (pids_of rows net)
        → AllByRecursion (λ more. name_cmp pid more ≡ Less) (pids_of ((key.Pid of other, v) ∷ rows) net)
    by true e below = rw e (sym (pid_cmp net pid other) ∙ (rw (← one_name net of e) at past.0), below)
    by false e below = rw e below
pids_behind net pid (_ ∷ rows) past = pids_behind net pid rows past.1

-- a network's PIDs rise
pub pids_rise : (net : Name) (rows : Rows) → AreSorted rows → IsStrictlySortedBy name_cmp (pids_of rows net)
unfolding IsStrictlySortedBy
pids_rise net [] sorted = tt
pids_rise net ((key.Pid of pid, v) ∷ rows) sorted =
    by (same_name net of) refl (pids_rise net rows (sorted_rest (key.Pid of pid, v) rows sorted))
  where
    by : (b : Bool) → same_name net of ≡ b → IsStrictlySortedBy name_cmp (pids_of rows net)
        → IsStrictlySortedBy name_cmp (pids_of ((key.Pid of pid, v) ∷ rows) net)
    by true e below =
        rw e (
          pids_behind net pid rows (rw (← one_name net of e) at (past_first (key.Pid of pid, v) rows sorted)),
          below,
        )
    by false e below = rw e below
pids_rise net (first ∷ rows) sorted = pids_rise net rows (sorted_rest first rows sorted)

-- those of a PID among all are its own
owned_all : (net pid : Name) (rows : Rows) → owned pid (prefixes_in rows net) ≡ prefixes_owned rows net pid
owned_all net pid [] = refl
owned_all net pid ((key.Prefix of owner x, v) ∷ rows) =
    by (same_name net of) (same_name pid owner) refl refl (owned_all net pid rows)
  where
    by : (a b : Bool) → same_name net of ≡ a → same_name pid owner ≡ b
        → owned pid (prefixes_in rows net) ≡ prefixes_owned rows net pid
        → owned pid (prefixes_in ((key.Prefix of owner x, v) ∷ rows) net)
        ≡ prefixes_owned ((key.Prefix of owner x, v) ∷ rows) net pid
    by true true e f below = rw (e, f) (ap (λ (more : List Prefix). x ∷ more) below)
    by true false e f below = rw (e, f) below
    by false b e f below = rw e below
owned_all net pid (_ ∷ rows) = owned_all net pid rows

-- the groups of a map, made by one walk over its PIDs and one over their prefixes
pub groups_merged : (net : Name) (rows : Rows) → AreSorted rows
    → with_merged no_members (pids_of rows net) (prefixes_in rows net)
    ≡ members_of (map (λ pid. (pid, group_object (net_face net rows) pid)) (pids_of rows net))
groups_merged net rows sorted =
    merged_all (prefixes_owned rows net) no_members (pids_of rows net) (prefixes_in rows net)
    (pids_rise net rows sorted) (rise_all net rows sorted) (each (pids_of rows net))
    ∙ (λ i. members_of (map (λ pid. (pid, group_owned rows net pid i)) (pids_of rows net)))
  where
    each : (pids : List Name) → AllByRecursion (λ q. owned q (prefixes_in rows net) ≡ prefixes_owned rows net q) pids
    each [] = tt
    each (pid ∷ pids) = (owned_all net pid rows, each pids)
