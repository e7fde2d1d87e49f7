-- Values and members that a writer adds to a JSON text.
use Rattle.std.specs.Prelude.{◌≡◌, ℕ, List, [], ◌∷◌, ◌++◌}
use Rattle.json.specs.Token.{end_object, key}
use Rattle.json.specs.Tree.{json_tokens, members_tokens}
use Rattle.json.specs.Written.{Written}
use Rattle.serde_json.specs.Data.{Data, Members}
use Rattle.serde_json.specs.Written.{outline, members_outline}

-- a value
pub record AddsValue (d : Data) (old new : Written) : Type 0 where
  pub tokens : new.tokens ≡ old.tokens ++ json_tokens (outline d)
  pub before : new.before ≡ old.before

-- all members of an object that was begun and isn't ended yet
pub record AddsMembers (ms : Members) (old new : Written) : Type 0 where
  pub tokens : new.tokens ++ end_object ∷ [] ≡ old.tokens ++ members_tokens (members_outline ms)
  pub before : new.before ≡ old.before

-- a member of such an object
pub record AddsMember (name : List ℕ) (d : Data) (old new : Written) : Type 0 where
  pub tokens : new.tokens ≡ old.tokens ++ key name ∷ json_tokens (outline d)
  pub before : new.before ≡ old.before
