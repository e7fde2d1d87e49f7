use Rattle.std.proofs.Common.{◌≡◌, ◌∷◌, ◌++◌, length}
use denote.Text.{Utf8}
use denote.Shadow.{shadow}
use Rattle.json_tree.specs.Pointer.{pointer_text}
use Rattle.json_tree.proofs.pointer.reading.read_tokens.Given as goal

-- the pointer along the names so far, and what is left behind a slash, make the whole
abbrev pub invariant-loop-token : goal.invariant-loop-token
invariant-loop-token l =
    record {
      text : shadow (Utf8 l.rest);
      parts : 47 ∷ l.tokens ≡ pointer_text l.names.items ++ 47 ∷ l.rest;
    }

abbrev pub decreases-loop-token : goal.decreases-loop-token
decreases-loop-token l = length l.rest
