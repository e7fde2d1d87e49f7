-- Sets of names gathered one after another.
use Rattle.std.proofs.Common.{◌≡◌, refl}
use Rattle.std.specs.Prelude.{List, [], fold}
use Rattle.alto_maps.specs.Places.{set_of}
use Rattle.alto_maps.specs.Shape.{Name}
use Rattle.alto_directory.specs.Names.{with_name}

-- a set with names more
abbrev pub with_names : List Name → List Name → List Name
with_names set names = fold with_name set names

-- the set of names is all of them, gathered
pub set_of-gathered : (names : List Name) → set_of names ≡ with_names [] names
unfolding set_of
set_of-gathered names = refl
