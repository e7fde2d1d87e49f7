-- What a writer adds to a JSON text for the groups of a network map.
use Rattle.std.specs.Prelude.{◌≡◌, List, [], ◌∷◌, ◌++◌, map, if◌then◌else◌}
use Rattle.json.specs.Token.{Token, key, end_array}
use Rattle.json.specs.Tree.{json_tokens, items_tokens}
use Rattle.json.specs.Written.{Written}
use Rattle.serde_json.specs.Data.{Data, Members}
use Rattle.serde_json.specs.View.{items_of}
use Rattle.serde_json.specs.Written.{outline, items_outline}
use Rattle.json_tree.specs.Document.{array_of, members_of}
use Rattle.alto_addr.specs.declared.prefix.Prefix.{Prefix}
use Rattle.alto_maps.specs.Shape.{Name, group_object}
use Rattle.alto_rows.specs.Rows.{Rows}
use Rattle.net_docs.specs.NetworkMap.{is_empty, net_face, pids_of}
use Rattle.net_docs.specs.Prefixes.{texts_in_family}

-- the groups of a network map, each with its name
abbrev pub groups_of : Rows → Name → Members
groups_of rows net = members_of (map (λ pid. (pid, group_object (net_face net rows) pid)) (pids_of rows net))

-- the texts of a family as a member, nothing where there are none
abbrev pub family_tokens : Name → List Data → List Token
family_tokens kind texts = if is_empty texts then [] else key kind ∷ json_tokens (outline (array_of texts))

-- the member of a family
pub record AddsFamily (kind : Name) (prefixes : List Prefix) (old new : Written) : Type 0 where
  pub tokens : new.tokens ≡ old.tokens ++ family_tokens kind (texts_in_family kind prefixes)
  pub before : new.before ≡ old.before

-- the texts of a family in an array that was begun and isn't ended yet
pub record AddsTexts (kind : Name) (prefixes : List Prefix) (old new : Written) : Type 0 where
  pub tokens : new.tokens ++ end_array ∷ []
      ≡ old.tokens ++ items_tokens (items_outline (items_of (texts_in_family kind prefixes)))
  pub before : new.before ≡ old.before
