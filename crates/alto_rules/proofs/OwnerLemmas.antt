-- The owners of a draft stay true under a write, and tell who has a prefix.
use Rattle.std.proofs.Common.{◌≡◌, refl, ap, sym, ◌∙◌}
use Rattle.std.proofs.lemmas.Bool.{and_parts}
use Rattle.std.specs.Prelude.{ℕ, Bool, true, false, cond, not, ◌&&◌, List, [], Option, Some, None, is_some}
use Rattle.std.specs.BTreeMap as maps
use Rattle.std.specs.BTreeMap.{BTreeMap, get}
use Rattle.std.specs.BTreeSet.{BTreeSet, contains}
use Rattle.std.specs.Ordering.{is_eq}
use Rattle.alto_addr.specs.declared.prefix.Prefix.{Prefix}
use Rattle.alto_rows.specs.declared.key.Key.{Key}
use Rattle.alto_rows.specs.declared.key.Key.TheVariants as key
use Rattle.alto_rows.specs.declared.value.Value.{Value}
use Rattle.alto_rows.specs.Order.{key_cmp, name_cmp, same_name}
use Rattle.alto_rows.specs.Rows.{Rows, AreSorted, has_row, value_of, with_value}
use Rattle.alto_rows.proofs.OrderLemmas.{key_cmp_itself, one_key}
use Rattle.alto_rows.proofs.TouchesLemmas.{one_name}
use Rattle.alto_rows.proofs.WriteLemmas.{value_of-with_value}
use Rattle.alto_rules.specs.declared.place.Place.{Place}
use Rattle.alto_rules.specs.Draft.{GivesAlone, HasOwner, HaveOneOwner}
use Rattle.alto_rules.specs.Owners.{AreOwners, HasChanged, owner_from, owner_left}
use Rattle.alto_rules.specs.Owners.{place_cmp, place_of}
use Rattle.alto_rules.proofs.Orders.{one_place}
use Rattle.alto_rules.proofs.ToldLemmas.{apart_places, apart_pids, another_not}

-- ---- the owners after a write

-- the rows of which the owners tell have one PID for a prefix
pub one_owner_later : (rows later : Rows) (of : BTreeMap Place (Option (List ℕ))) (known : BTreeSet (List ℕ))
    → AreOwners rows later of known
    → HaveOneOwner rows → HaveOneOwner later
one_owner_later rows later of known own one net first second prefix f s =
    by (get place_cmp of (place_of net prefix)) (sym (own net first prefix) ∙ f) (sym (own net second prefix) ∙ s)
  where
    by : (g : Option (Option (List ℕ)))
        → owner_from g (not (contains name_cmp known net) && has_row rows (key.Prefix net first prefix)) first ≡ true
        → owner_from g (not (contains name_cmp known net) && has_row rows (key.Prefix net second prefix)) second ≡ true
        → first ≡ second
    by None a b =
        one net first second prefix
        (and_parts (not (contains name_cmp known net)) (has_row rows (key.Prefix net first prefix)) a).1
        (and_parts (not (contains name_cmp known net)) (has_row rows (key.Prefix net second prefix)) b).1
    by (Some None) a b = cc
    by (Some (Some o)) a b = sym (one_name o first a) ∙ one_name o second b

-- after a prefix is put in a PID
owners_put : (rows later : Rows) (n p : List ℕ) (x : Prefix) (w : Value) (of of' : BTreeMap Place (Option (List ℕ)))
    (known : BTreeSet (List ℕ))
    → GivesAlone later (key.Prefix n p x) → AreOwners rows later of known
    → maps.Updates place_cmp of of' (place_of n x) (Some (Some p))
    → (net pid : List ℕ) (prefix : Prefix)
    → is_some (cond (is_eq (key_cmp (key.Prefix net pid prefix) (key.Prefix n p x))) (Some w)
    (value_of later (key.Prefix net pid prefix)))
    ≡ owner_from (get place_cmp of' (place_of net prefix)) (not (contains name_cmp known net)
    && has_row rows (key.Prefix net pid prefix)) pid
owners_put rows later n p x w of of' known alone old change net pid prefix =
    rw (change.0 (place_of net prefix)) (by (is_eq (place_cmp (place_of n x) (place_of net prefix))) refl)
  where
    here : (b : Bool) → same_name p pid ≡ b
        → is_some (cond (is_eq (key_cmp (key.Prefix n pid x) (key.Prefix n p x))) (Some w)
        (value_of later (key.Prefix n pid x))) ≡ b
    here true e = rw (← one_name p pid e, key_cmp_itself (key.Prefix n p x)) refl
    here false e = rw (apart_pids n pid p x e) (another_not later n pid p x (λ h. alone n p pid x refl h) e)

    by : (b : Bool) → is_eq (place_cmp (place_of n x) (place_of net prefix)) ≡ b
        → is_some (cond (is_eq (key_cmp (key.Prefix net pid prefix) (key.Prefix n p x))) (Some w)
        (value_of later (key.Prefix net pid prefix)))
        ≡ owner_from (cond b (Some (Some p)) (get place_cmp of (place_of net prefix)))
        (not (contains name_cmp known net) && has_row rows (key.Prefix net pid prefix)) pid
    by true e =
        let same : (n ≡ net) × (x ≡ prefix) = one_place n net x prefix e in
        rw (← same.0, ← same.1) (here (same_name p pid) refl)
    by false e = rw (apart_places n net p pid x prefix e) (old net pid prefix)

-- after a prefix that was in a PID is deleted
owners_gone : (rows later : Rows) (n p : List ℕ) (x : Prefix) (of of' : BTreeMap Place (Option (List ℕ)))
    (known : BTreeSet (List ℕ))
    → HaveOneOwner later → has_row later (key.Prefix n p x) ≡ true → AreOwners rows later of known
    → maps.Updates place_cmp of of' (place_of n x) (Some None)
    → (net pid : List ℕ) (prefix : Prefix)
    → is_some (cond (is_eq (key_cmp (key.Prefix net pid prefix) (key.Prefix n p x)))
    None (value_of later (key.Prefix net pid prefix)))
    ≡ owner_from (get place_cmp of' (place_of net prefix)) (not (contains name_cmp known net)
    && has_row rows (key.Prefix net pid prefix)) pid
owners_gone rows later n p x of of' known one had old change net pid prefix =
    rw (change.0 (place_of net prefix)) (by (is_eq (place_cmp (place_of n x) (place_of net prefix))) refl)
  where
    here : (b : Bool) → same_name p pid ≡ b
        → is_some (cond (is_eq (key_cmp (key.Prefix n pid x) (key.Prefix n p x)))
        None (value_of later (key.Prefix n pid x))) ≡ false
    here true e = rw (← one_name p pid e, key_cmp_itself (key.Prefix n p x)) refl
    here false e = rw (apart_pids n pid p x e) (another_not later n pid p x (λ h. one n pid p x h had) e)

    by : (b : Bool) → is_eq (place_cmp (place_of n x) (place_of net prefix)) ≡ b
        → is_some (cond (is_eq (key_cmp (key.Prefix net pid prefix) (key.Prefix n p x)))
        None (value_of later (key.Prefix net pid prefix)))
        ≡ owner_from (cond b (Some None) (get place_cmp of (place_of net prefix))) (not (contains name_cmp known net)
        && has_row rows (key.Prefix net pid prefix)) pid
    by true e =
        let same : (n ≡ net) × (x ≡ prefix) = one_place n net x prefix e in
        rw (← same.0, ← same.1) (here (same_name p pid) refl)
    by false e = rw (apart_places n net p pid x prefix e) (old net pid prefix)

-- after a prefix that wasn't in a PID is deleted
owners_kept : (rows later : Rows) (at : Key) (of : BTreeMap Place (Option (List ℕ))) (known : BTreeSet (List ℕ))
    → has_row later at ≡ false → AreOwners rows later of known → (net pid : List ℕ) (prefix : Prefix)
    → is_some (cond (is_eq (key_cmp (key.Prefix net pid prefix) at)) None (value_of later (key.Prefix net pid prefix)))
    ≡ owner_from (get place_cmp of (place_of net prefix)) (not (contains name_cmp known net)
    && has_row rows (key.Prefix net pid prefix)) pid
owners_kept rows later at of known had old net pid prefix = by (is_eq (key_cmp (key.Prefix net pid prefix) at)) refl
    ∙ old net pid prefix
  where
    by : (b : Bool) → is_eq (key_cmp (key.Prefix net pid prefix) at) ≡ b
        → is_some (cond b None (value_of later (key.Prefix net pid prefix))) ≡ has_row later (key.Prefix net pid prefix)
    by true e = sym (rw (one_key (key.Prefix net pid prefix) at e) had)
    by false e = refl

-- after a write of a prefix's key
owners_prefix : (rows later : Rows) (n p : List ℕ) (x : Prefix) (v : Option Value) (had : Bool)
    (of of' : BTreeMap Place (Option (List ℕ))) (known : BTreeSet (List ℕ))
    → HaveOneOwner rows → had ≡ has_row later (key.Prefix n p x)
    → (is_some v ≡ true → GivesAlone later (key.Prefix n p x))
    → AreOwners rows later of known → HasChanged (owner_left (key.Prefix n p x) had (is_some v)) of of'
    → (net pid : List ℕ) (prefix : Prefix)
    → is_some (cond (is_eq (key_cmp (key.Prefix net pid prefix) (key.Prefix n p x)))
    v (value_of later (key.Prefix net pid prefix)))
    ≡ owner_from (get place_cmp of' (place_of net prefix)) (not (contains name_cmp known net)
    && has_row rows (key.Prefix net pid prefix)) pid
owners_prefix rows later n p x (Some w) had of of' known one is_had alone old change =
    owners_put rows later n p x w of of' known (alone refl) old change
owners_prefix rows later n p x None true of of' known one is_had alone old change =
    owners_gone rows later n p x of of' known (one_owner_later rows later of known old one) (sym is_had) old change
owners_prefix rows later n p x None false of of' known one is_had alone old change =
    λ net pid prefix. rw change (owners_kept rows later (key.Prefix n p x) of known (sym is_had) old net pid prefix)

-- the owners stay true under a write, where they have gained it
pub owners_more : (rows later : Rows) (at : Key) (v : Option Value) (had : Bool)
    (of of' : BTreeMap Place (Option (List ℕ))) (known : BTreeSet (List ℕ))
    → HaveOneOwner rows → AreSorted later → had ≡ has_row later at → (is_some v ≡ true → GivesAlone later at)
    → AreOwners rows later of known → HasChanged (owner_left at had (is_some v)) of of'
    → AreOwners rows (with_value later at v) of' known
unfolding key_cmp
owners_more rows later at v had of of' known one s is_had alone old change net pid prefix =
    ap is_some (value_of-with_value later at v (key.Prefix net pid prefix) s) ∙ by at is_had alone change
  where
    by : (at : Key) → had ≡ has_row later at → (is_some v ≡ true → GivesAlone later at)
        → HasChanged (owner_left at had (is_some v)) of of'
        → is_some (cond (is_eq (key_cmp (key.Prefix net pid prefix) at)) v (value_of later (key.Prefix net pid prefix)))
        ≡ owner_from (get place_cmp of' (place_of net prefix)) (not (contains name_cmp known net)
        && has_row rows (key.Prefix net pid prefix)) pid
    by (key.Prefix n p x) is_had alone change = owners_prefix rows later n p x v had of of' known one is_had alone old
        change net pid prefix
    by _ is_had alone change = rw change (old net pid prefix)

-- ---- what the owners tell

-- without any write
pub owners_opened : (rows : Rows) (of : BTreeMap Place (Option (List ℕ))) (known : BTreeSet (List ℕ)) → of.entries ≡ []
    → known.keys ≡ []
    → AreOwners rows rows of known
owners_opened rows of known e f net pid prefix = rw (e, f) refl

-- the owner that is kept
pub owner_found : (rows later : Rows) (of : BTreeMap Place (Option (List ℕ))) (known : BTreeSet (List ℕ))
    → AreOwners rows later of known
    → (net : List ℕ) (prefix : Prefix) (owner : Option (List ℕ)) → Some owner ≡ get place_cmp of (place_of net prefix)
    → HasOwner later net prefix owner
owner_found rows later of known old net prefix owner h pid = old net pid prefix ∙ rw (← h) refl

-- none where the network is known and no owner is kept
pub owner_none : (rows later : Rows) (of : BTreeMap Place (Option (List ℕ))) (known : BTreeSet (List ℕ))
    → AreOwners rows later of known
    → (net : List ℕ) (prefix : Prefix) → None ≡ get place_cmp of (place_of net prefix)
    → contains name_cmp known net ≡ true → HasOwner later net prefix None
owner_none rows later of known old net prefix h known_net pid = old net pid prefix ∙ rw (← h, known_net) refl

-- else as before the writes
pub owner_as_before : (rows later : Rows) (of : BTreeMap Place (Option (List ℕ))) (known : BTreeSet (List ℕ))
    → AreOwners rows later of known
    → (net : List ℕ) (prefix : Prefix) (owner : Option (List ℕ)) → None ≡ get place_cmp of (place_of net prefix)
    → contains name_cmp known net ≡ false
    → HasOwner rows net prefix owner → HasOwner later net prefix owner
owner_as_before rows later of known old net prefix owner h unknown has pid = old net pid prefix
    ∙ rw (← h, unknown) (has pid)
