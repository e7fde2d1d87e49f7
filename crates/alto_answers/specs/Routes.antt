-- The routes of each side, as the crate matchit reads and finds them.
use Rattle.std.specs.Prelude.{ℕ, Bool, false, List, [], ◌∷◌, ◌++◌, fold, length, Option, None, option_map, is_none}
use Rattle.std.specs.Prelude.{Result, Ok, Err, if◌then◌else◌, codes, ◌==◌}
use Rattle.std.specs.Str.Lossy.{utf8_valid_len}
use Rattle.matchit.specs.Order.{placed}
use Rattle.matchit.specs.Route.{Scan, parse_route}
use Rattle.matchit.specs.Router.{RouteOf, nearest, route_from}
use Rattle.matchit.specs.Rows.{RowsOf}
use Rattle.matchit.specs.Seek.{first}
use Rattle.matchit.specs.declared.error.InsertError.{InsertError}
use Rattle.alto_answers.specs.declared.route.Place.{Place}
use Rattle.alto_answers.specs.declared.route.Place.TheVariants as place
use Rattle.alto_answers.specs.declared.route.Query.TheVariants as query
use Rattle.alto_answers.specs.declared.route.Side.{Side}
use Rattle.alto_answers.specs.declared.route.Side.TheVariants as side

-- the routes of applications
abbrev pub public_routes : List (List ℕ × Place)
public_routes =
    (codes "/directory", place.Directory)
    ∷ (codes "/maps/{resource}", place.Maps)
    ∷ (codes "/lookup/{net}/{address}", place.Lookup)
    ∷ (codes "/filter/net/{net}", place.Query query.NetworkMap)
    ∷ (codes "/filter/cost/{net}", place.Query query.CostMap)
    ∷ (codes "/endpointcost/{net}", place.Query query.EndpointCosts)
    ∷ (codes "/filter/prop/{net}", place.Query query.PropertyMap)
    ∷ (codes "/pathvector/{net}", place.Query query.PathVector)
    ∷ (codes "/tips", place.Tips)
    ∷ (codes "/tips/{resource}/ug/{i}/{j}", place.Edge)
    ∷ []

-- the routes of the operator
abbrev pub operator_routes : List (List ℕ × Place)
operator_routes = (codes "/edits/{id}", place.Edits) ∷ []

-- the routes of a side
abbrev pub routes_of : Side → List (List ℕ × Place)
routes_of side.Public = public_routes
routes_of side.Operator = operator_routes
routes_of side.Both = public_routes ++ operator_routes

-- a router with one route more, if its text reads
abbrev pub with_route : Place → Result Scan InsertError → RowsOf (RouteOf Place) → RowsOf (RouteOf Place)
with_route to (Ok route) rows = placed (route.pattern, route_from route to) rows
with_route to (Err fault) rows = rows

-- whether a route's text reads and conflicts with no route that is there
abbrev pub fits : Result Scan InsertError → RowsOf (RouteOf Place) → Bool
fits (Ok route) rows = is_none (nearest route.pattern rows)
fits (Err fault) rows = false

-- the router of a side
abbrev pub router_of : Side → RowsOf (RouteOf Place)
router_of of = fold (λ rows route. with_route route.1 (parse_route route.0) rows) [] (routes_of of)

-- where a path leads, if it is text and has a route
unfoldable pub place_of : Side → List ℕ → Option Place
place_of of path =
    if utf8_valid_len path == length path then option_map (λ route. route.value) (first (router_of of) path) else None
