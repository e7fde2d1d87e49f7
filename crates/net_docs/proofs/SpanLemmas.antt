-- What the rows of a span hold of a network map.
use Rattle.std.proofs.Common.{◌≡◌, refl, ap}
use Rattle.std.specs.Prelude.{Bool, true, false, List, [], ◌∷◌}
use Rattle.std.specs.List.{filter_map, cons_option}
use Rattle.alto_addr.specs.declared.prefix.Prefix.{Prefix}
use Rattle.alto_rows.specs.declared.key.Key.TheVariants as key
use Rattle.alto_rows.specs.declared.span.Span.TheVariants as span
use Rattle.alto_rows.specs.Order.{same_name}
use Rattle.alto_rows.specs.Rows.{Rows}
use Rattle.alto_rows.specs.Span.{rows_in}
use Rattle.alto_maps.specs.Shape.{Name}
use Rattle.net_docs.specs.NetworkMap.{pids_of, prefixes_of}
use Rattle.net_docs.specs.Prefixes.{pid_in, prefix_in, prefixes_owned, text_in_family, texts_in_family}

-- the rows of a network's PIDs hold them
pub pids_in_span : (rows : Rows) (net : Name) → filter_map pid_in (rows_in rows (span.Pids net)) ≡ pids_of rows net
pids_in_span [] net = refl
pids_in_span ((key.Pid of pid, v) ∷ rows) net = by (same_name net of) refl (pids_in_span rows net)
  where
    by : (b : Bool) → same_name net of ≡ b → filter_map pid_in (rows_in rows (span.Pids net)) ≡ pids_of rows net
        → filter_map pid_in (rows_in ((key.Pid of pid, v) ∷ rows) (span.Pids net))
        ≡ pids_of ((key.Pid of pid, v) ∷ rows) net
    by true e below = rw e (ap (λ (more : List Name). pid ∷ more) below)
    by false e below = rw e below
pids_in_span (_ ∷ rows) net = pids_in_span rows net

-- the rows of a PID's prefixes hold them
pub prefixes_in_span : (rows : Rows) (net pid : Name)
    → filter_map prefix_in (rows_in rows (span.PrefixesOf net pid)) ≡ prefixes_owned rows net pid
prefixes_in_span [] net pid = refl
prefixes_in_span ((key.Prefix of owner prefix, v) ∷ rows) net pid =
    by (same_name net of) (same_name pid owner) refl refl (prefixes_in_span rows net pid)
  where
    by : (a b : Bool) → same_name net of ≡ a → same_name pid owner ≡ b
        → filter_map prefix_in (rows_in rows (span.PrefixesOf net pid)) ≡ prefixes_owned rows net pid
        → filter_map prefix_in (rows_in ((key.Prefix of owner prefix, v) ∷ rows) (span.PrefixesOf net pid))
        ≡ prefixes_owned ((key.Prefix of owner prefix, v) ∷ rows) net pid
    by true true e f below = rw (e, f) (ap (λ (more : List Prefix). prefix ∷ more) below)
    by true false e f below = rw (e, f) below
    by false b e f below = rw e below
prefixes_in_span (_ ∷ rows) net pid = prefixes_in_span rows net pid

-- what a map lists of a PID are the texts of its prefixes
pub texts_owned : (rows : Rows) (net pid kind : Name)
    → texts_in_family kind (prefixes_owned rows net pid) ≡ prefixes_of rows net pid kind
texts_owned [] net pid kind = refl
texts_owned ((key.Prefix of owner prefix, v) ∷ rows) net pid kind =
    by (same_name net of) (same_name pid owner) refl refl (texts_owned rows net pid kind)
  where
    by : (a b : Bool) → same_name net of ≡ a → same_name pid owner ≡ b
        → texts_in_family kind (prefixes_owned rows net pid) ≡ prefixes_of rows net pid kind
        → texts_in_family kind (prefixes_owned ((key.Prefix of owner prefix, v) ∷ rows) net pid)
        ≡ prefixes_of ((key.Prefix of owner prefix, v) ∷ rows) net pid kind
    by true true e f below = rw (e, f) (ap (cons_option (text_in_family kind prefix)) below)
    by true false e f below = rw (e, f) below
    by false b e f below = rw e below
texts_owned (_ ∷ rows) net pid kind = texts_owned rows net pid kind
