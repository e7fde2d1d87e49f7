-- What a row needs: rows of the four kinds that declare names, of its own network; what these need, the row needs too.
use Rattle.std.proofs.Common.{◌≡◌, refl}
use Rattle.std.specs.Prelude.{ℕ, Bool, true, false, ◌||◌, List, [], ◌∷◌, map}
use Rattle.std.specs.List.{AllByRecursion, list_any}
use Rattle.std.specs.Ordering.{is_eq}
use Rattle.alto_rows.specs.declared.entity.Entity.TheVariants as entity
use Rattle.alto_rows.specs.declared.key.Key.{Key}
use Rattle.alto_rows.specs.declared.key.Key.TheVariants as key
use Rattle.alto_rows.specs.declared.value.Value.{Value}
use Rattle.alto_rows.specs.declared.value.Value.TheVariants as value
use Rattle.alto_rows.specs.Good.{value_needs, needs}
use Rattle.alto_rows.specs.Order.{key_cmp}
use Rattle.alto_rows.proofs.OrderLemmas.{one_key, key_cmp_itself}

-- a row of the key declares a name: of a network, a PID, a metric or an abstract network element
abbrev pub declares : Key → Bool
declares (key.Net net) = true
declares (key.Pid net pid) = true
declares (key.Metric net metric) = true
declares (key.Ane net ane) = true
declares _ = false

-- a key is among keys
abbrev pub is_among : Key → List Key → Bool
is_among at keys = list_any (λ other. is_eq (key_cmp at other)) keys

-- what holds of all keys holds of one that is among them
pub of_among : (P : Key → Type 0) (at : Key) (keys : List Key) → AllByRecursion P keys → is_among at keys ≡ true → P at
of_among P at [] all h = cc
of_among P at (first ∷ keys) all h = by (λ g. of_among P at keys all.1 g) (is_eq (key_cmp at first)) refl h
  where
    by : (is_among at keys ≡ true → P at) → (b : Bool) → is_eq (key_cmp at first) ≡ b
        → (b || is_among at keys) ≡ true → P at
    by more true e g = rw (one_key at first e) all.0
    by more false e g = more g

-- a key is among keys that it begins
pub among_first : (at : Key) (keys : List Key) → is_among at (at ∷ keys) ≡ true
among_first at keys = rw (key_cmp_itself at) refl

-- ---- what rows need is of the kinds that declare

-- the abstract network elements of a path
anes_declare : (net : List ℕ) (anes : List (List ℕ))
    → AllByRecursion (λ need. declares need ≡ true) (map (key.Ane net) anes)
anes_declare net [] = tt
anes_declare net (ane ∷ anes) = (refl, anes_declare net anes)

-- each key that a row needs is of a kind that declares
pub needs_declare : (at : Key) (v : Value) → AllByRecursion (λ need. declares need ≡ true) (needs at v)
needs_declare (key.Pid net pid) v = (refl, tt)
needs_declare (key.Prefix net pid prefix) v = (refl, (refl, tt))
needs_declare (key.Metric net metric) v = (refl, tt)
needs_declare (key.Cost net metric source destination) v = (refl, (refl, (refl, (refl, tt))))
needs_declare (key.Prop net (entity.Block block) name) v = (refl, tt)
needs_declare (key.Prop net (entity.Pid pid) name) v = (refl, (refl, tt))
needs_declare (key.Ane net ane) v = (refl, tt)
needs_declare (key.AneProp net ane name) v = (refl, (refl, tt))
needs_declare (key.Path net source destination) (value.Names anes) = (refl, (refl, (refl, anes_declare net anes)))
needs_declare (key.Path net source destination) _ = (refl, (refl, (refl, tt)))
needs_declare _ v = tt

-- a key that a row needs is of a kind that declares
pub need_declares : (need at : Key) (v : Value) → is_among need (needs at v) ≡ true → declares need ≡ true
need_declares need at v h = of_among (λ need. declares need ≡ true) need (needs at v) (needs_declare at v) h

-- ---- what is needed by what a row needs

-- the keys that rows of a key need, whatever their value, are among keys
abbrev BringsNoMore : List Key → Key → Type 0
BringsNoMore keys need = (w : Value) (other : Key) → is_among other (needs need w) ≡ true → is_among other keys ≡ true

-- a network's row needs nothing
net_brings : (keys : List Key) (net : List ℕ) → BringsNoMore keys (key.Net net)
net_brings keys net w other h = cc

-- a row that needs its network alone brings no more to keys that begin with the network
only_net : (net : List ℕ) (keys : List Key) (other : Key) → is_among other (key.Net net ∷ []) ≡ true
    → is_among other (key.Net net ∷ keys) ≡ true
only_net net keys other h = by (is_eq (key_cmp other (key.Net net))) h
  where
    by : (b : Bool) → (b || false) ≡ true → (b || is_among other keys) ≡ true
    by true h = refl
    by false h = cc

-- keys bring no more to a network and them, where the rows of each need at most the network
all_bring : (net : List ℕ) (keys : List Key) → AllByRecursion (BringsNoMore (key.Net net ∷ [])) keys → (all : List Key)
    → AllByRecursion (BringsNoMore (key.Net net ∷ all)) keys
all_bring net [] bring all = tt
all_bring net (first ∷ keys) bring all =
    (λ w other h. only_net net all other (bring.0 w other h), all_bring net keys bring.1 all)

-- the rows of a PID, of a metric and of an abstract network element need their network alone
pid_brings : (net pid : List ℕ) → BringsNoMore (key.Net net ∷ []) (key.Pid net pid)
pid_brings net pid w other h = h

metric_brings : (net metric : List ℕ) → BringsNoMore (key.Net net ∷ []) (key.Metric net metric)
metric_brings net metric w other h = h

ane_brings : (net ane : List ℕ) → BringsNoMore (key.Net net ∷ []) (key.Ane net ane)
ane_brings net ane w other h = h

anes_bring : (net : List ℕ) (anes : List (List ℕ))
    → AllByRecursion (BringsNoMore (key.Net net ∷ [])) (map (key.Ane net) anes)
anes_bring net [] = tt
anes_bring net (ane ∷ anes) = (ane_brings net ane, anes_bring net anes)

-- a network and such keys
net_and : (net : List ℕ) (keys : List Key) → AllByRecursion (BringsNoMore (key.Net net ∷ [])) keys
    → AllByRecursion (BringsNoMore (key.Net net ∷ keys)) (key.Net net ∷ keys)
net_and net keys bring = (net_brings (key.Net net ∷ keys) net, all_bring net keys bring keys)

-- what a row needs brings no more
needs_bring : (at : Key) (v : Value) → AllByRecursion (BringsNoMore (needs at v)) (needs at v)
needs_bring (key.Pid net pid) v = net_and net [] tt
needs_bring (key.Prefix net pid prefix) v = net_and net (key.Pid net pid ∷ []) (pid_brings net pid, tt)
needs_bring (key.Metric net metric) v = net_and net [] tt
needs_bring (key.Cost net metric source destination) v =
    net_and net (key.Metric net metric ∷ key.Pid net source ∷ key.Pid net destination ∷ [])
    (metric_brings net metric, (pid_brings net source, (pid_brings net destination, tt)))
needs_bring (key.Prop net (entity.Block block) name) v = net_and net [] tt
needs_bring (key.Prop net (entity.Pid pid) name) v = net_and net (key.Pid net pid ∷ []) (pid_brings net pid, tt)
needs_bring (key.Ane net ane) v = net_and net [] tt
needs_bring (key.AneProp net ane name) v = net_and net (key.Ane net ane ∷ []) (ane_brings net ane, tt)
needs_bring (key.Path net source destination) v =
    net_and net (key.Pid net source ∷ key.Pid net destination ∷ value_needs net v)
    (pid_brings net source, (pid_brings net destination, value_brings v))
  where
    value_brings : (v : Value) → AllByRecursion (BringsNoMore (key.Net net ∷ [])) (value_needs net v)
    value_brings (value.Names anes) = anes_bring net anes
    value_brings _ = tt
needs_bring _ v = tt

-- what is needed by a row that another row needs, that other row needs too
pub needs_transitive : (other need at : Key) (v w : Value) → is_among need (needs at v) ≡ true
    → is_among other (needs need w) ≡ true
    → is_among other (needs at v) ≡ true
needs_transitive other need at v w h g =
    of_among (BringsNoMore (needs at v)) need (needs at v) (needs_bring at v) h w other g
