-- Operations one after another, on members and within them.
use Rattle.std.proofs.Common.{◌≡◌, ℕ, ◌+◌, refl, ap, sym, ◌∙◌}
use Rattle.std.specs.Prelude.{Bool, true, false, ◌||◌, cond, List, [], ◌∷◌, ◌++◌, map, Option, Some, None, Result, Ok}
use Rattle.std.specs.Prelude.{Err}
use Rattle.std.specs.List.{list_any, flat_map}
use Rattle.std.specs.List.Sorted.{IsStrictlySortedBy}
use Rattle.serde_json.specs.Data.{Data, object, Members}
use Rattle.serde_json.specs.Find.{get_member}
use Rattle.json_tree.specs.Order.{AreInOrder}
use Rattle.json_tree.proofs.OrderLemmas.{get_member-with, AreInOrder-with_member, same_members}
use Rattle.json_patch.specs.Merge.{without}
use Rattle.json_patch.proofs.MemberLemmas.{get_member-without, get_member-without_other, AreInOrder-without}
use Rattle.alto_maps.specs.Shape.{Name, same_name}
use Rattle.json_patch.specs.Operations.{Operation, Refusal, with_value, in_member, changed_at, whole, at_place}
use Rattle.json_patch.specs.Operations.{and_then, applied_from}
use Rattle.alto_maps.specs.OperationForm.{under}
use Rattle.alto_maps.proofs.SetLemmas.{Rise, one, itself, other_name, none_above}
use Rattle.alto_maps.proofs.ObjectLemmas.{found-with}

-- ---- members with something or nothing at a name

pub found-with_value : (q k : Name) (value : Option Data) (ms : Members)
    → get_member q (with_value k value ms) ≡ cond (same_name q k) value (get_member q ms)
found-with_value q k (Some d) ms = found-with q k d ms
found-with_value q k None ms = by (same_name q k) refl
  where
    by : (b : Bool) → same_name q k ≡ b → get_member q (without k ms) ≡ cond b None (get_member q ms)
    by true e = rw (one q k e) (get_member-without k ms)
    by false e = get_member-without_other q k ms (other_name q k e)

pub in_order-with_value : (k : Name) (value : Option Data) (ms : Members) → AreInOrder ms
    → AreInOrder (with_value k value ms)
in_order-with_value k (Some d) ms h = AreInOrder-with_member k d ms h
in_order-with_value k None ms h = AreInOrder-without k ms h

here-with_value : (k : Name) (value : Option Data) (ms : Members) → get_member k (with_value k value ms) ≡ value
here-with_value k (Some d) ms = get_member-with k d ms
here-with_value k None ms = get_member-without k ms

-- what is there, put there again
same-with_value : (k : Name) (ms : Members) → AreInOrder ms → with_value k (get_member k ms) ms ≡ ms
same-with_value k ms h =
    same_members _ ms (in_order-with_value k (get_member k ms) ms h) h (λ q. found-with_value q k (get_member k ms) ms
    ∙ by q (same_name q k) refl)
  where
    by : (q : Name) (b : Bool) → same_name q k ≡ b → cond b (get_member k ms) (get_member q ms) ≡ get_member q ms
    by q true e = ap (λ x. get_member x ms) (sym (one q k e))
    by q false e = refl

-- the last that is put counts
twice-with_value : (k : Name) (first then : Option Data) (ms : Members) → AreInOrder ms
    → with_value k then (with_value k first ms) ≡ with_value k then ms
twice-with_value k first then ms h =
    same_members _ _ (in_order-with_value k then _ (in_order-with_value k first ms h)) (in_order-with_value k then ms h)
    (λ q. rw (
      found-with_value q k then (with_value k first ms),
      found-with_value q k first ms,
      found-with_value q k then ms,
    ) (by (same_name q k) (get_member q ms)))
  where
    by : (b : Bool) (x : Option Data) → cond b then (cond b first x) ≡ cond b then x
    by true x = refl
    by false x = refl

-- ---- operations one after another

-- what operations make of what stands at a place, if anything does
abbrev pub ran : List Operation → Option Data → Result (Option Data) Refusal
ran [] old = Ok old
ran (operation ∷ operations) old = and_then (ran operations) (changed_at operation.path operation.action old)

pub ran-append : (first then : List Operation) (old : Option Data)
    → ran (first ++ then) old ≡ and_then (ran then) (ran first old)
ran-append [] then old = refl
ran-append (operation ∷ first) then old = by (changed_at operation.path operation.action old) (ran-append first then)
  where
    by : (r : Result (Option Data) Refusal)
        → ((new : Option Data) → ran (first ++ then) new ≡ and_then (ran then) (ran first new))
        → and_then (ran (first ++ then)) r ≡ and_then (ran then) (and_then (ran first) r)
    by (Ok new) rest = rest new
    by (Err fault) rest = refl

in_member-twice : (k : Name) (first : Option Data) (ms : Members) (r : Result (Option Data) Refusal) → AreInOrder ms
    → in_member k (with_value k first ms) r ≡ in_member k ms r
in_member-twice k first ms (Ok new) h = ap (λ x. Ok (Some (object x))) (twice-with_value k first new ms h)
in_member-twice k first ms (Err fault) h = refl

-- operations on a member are run on what stands at its name
pub ran_under : (k : Name) (operations : List Operation) (ms : Members) → AreInOrder ms
    → ran (map (under k) operations) (Some (object ms)) ≡ in_member k ms (ran operations (get_member k ms))
ran_under k [] ms h = ap (λ x. Ok (Some (object x))) (sym (same-with_value k ms h))
ran_under k (operation ∷ operations) ms h =
    by (changed_at operation.path operation.action (get_member k ms))
    (λ next. ran_under k operations (with_value k next ms) (in_order-with_value k next ms h))
  where
    by : (r : Result (Option Data) Refusal)
        → ((next : Option Data) → ran (map (under k) operations) (Some (object (with_value k next ms)))
        ≡ in_member k (with_value k next ms) (ran operations (get_member k (with_value k next ms))))
        → and_then (ran (map (under k) operations)) (in_member k ms r) ≡ in_member k ms (and_then (ran operations) r)
    by (Ok next) rest = rest next ∙ (ap (λ x. in_member k (with_value k next ms) (ran operations x))
        (here-with_value k next ms) ∙ in_member-twice k next ms (ran operations next) h)
    by (Err fault) rest = refl

-- operations on a member of a whole document, the first of which is the n-th
pub applied_ran : (n : ℕ) (k : Name) (operations : List Operation) (ms : Members) (new : Data)
    → ran (map (under k) operations) (Some (object ms)) ≡ Ok (Some new)
    → applied_from n (map (under k) operations) (object ms) ≡ Ok new
applied_ran n k [] ms new is = let same : object ms ≡ new = cc in ap (λ d. Ok d) same
applied_ran n k (operation ∷ operations) ms new is =
    by (changed_at operation.path operation.action (get_member k ms))
    (λ next. applied_ran (n + 1) k operations (with_value k next ms) new) is
  where
    by : (r : Result (Option Data) Refusal)
        → ((next : Option Data) → ran (map (under k) operations) (Some (object (with_value k next ms))) ≡ Ok (Some new)
        → applied_from (n + 1) (map (under k) operations) (object (with_value k next ms)) ≡ Ok new)
        → and_then (ran (map (under k) operations)) (in_member k ms r) ≡ Ok (Some new)
        → and_then (applied_from (n + 1) (map (under k) operations)) (at_place n (whole (in_member k ms r))) ≡ Ok new
    by (Ok next) rest is = rest next is
    by (Err refusal) rest is = cc

-- ---- one name after another

-- members in which each of these names comes to what is wanted there
abbrev pub settled : (Name → Option Data) → List Name → Members → Members
settled want [] ms = ms
settled want (n ∷ ns) ms = settled want ns (with_value n (want n) ms)

pub found-settled : (want : Name → Option Data) (ns : List Name) (ms : Members) (q : Name)
    → get_member q (settled want ns ms) ≡ cond (list_any (same_name q) ns) (want q) (get_member q ms)
found-settled want [] ms q = refl
found-settled want (n ∷ ns) ms q = found-settled want ns (with_value n (want n) ms) q
    ∙ rw (found-with_value q n (want n) ms) (by (same_name q n) refl (list_any (same_name q) ns))
  where
    by : (b : Bool) → same_name q n ≡ b → (among : Bool)
        → cond among (want q) (cond b (want n) (get_member q ms)) ≡ cond (b || among) (want q) (get_member q ms)
    by true e true = refl
    by true e false = ap want (sym (one q n e))
    by false e true = refl
    by false e false = refl

pub in_order-settled : (want : Name → Option Data) (ns : List Name) (ms : Members) → AreInOrder ms
    → AreInOrder (settled want ns ms)
in_order-settled want [] ms h = h
in_order-settled want (n ∷ ns) ms h =
    in_order-settled want ns (with_value n (want n) ms) (in_order-with_value n (want n) ms h)

-- where each name's operations bring about what is wanted there, so do those of all the names
pub in_turn : (operations : Name → List Operation) (want : Name → Option Data) (old : Name → Option Data)
    → ((n : Name) (ms : Members) → AreInOrder ms → get_member n ms ≡ old n
    → ran (operations n) (Some (object ms)) ≡ Ok (Some (object (with_value n (want n) ms))))
    → (ns : List Name) (ms : Members) → Rise ns → AreInOrder ms
    → ((n : Name) → list_any (same_name n) ns ≡ true → get_member n ms ≡ old n)
    → ran (flat_map operations ns) (Some (object ms)) ≡ Ok (Some (object (settled want ns ms)))
unfolding IsStrictlySortedBy
in_turn operations want old each [] ms sorted h same = refl
in_turn operations want old each (n ∷ ns) ms sorted h same =
    ran-append (operations n) (flat_map operations ns) (Some (object ms))
    ∙ (ap (and_then (ran (flat_map operations ns)))
    (each n ms h (same n (ap (λ b. b || list_any (same_name n) ns) (itself n))))
    ∙ in_turn operations want old each ns (with_value n (want n) ms) sorted.1 (in_order-with_value n (want n) ms h)
    (λ m among. found-with_value m n (want n) ms ∙ by m (same_name m n) refl among))
  where
    by : (m : Name) (b : Bool) → same_name m n ≡ b → list_any (same_name m) ns ≡ true
        → cond b (want n) (get_member m ms) ≡ old m
    by m true e among = let none : list_any (same_name m) ns ≡ false = none_above m n ns sorted.0 (one m n e) in cc
    by m false e among = same m (rw e among)
