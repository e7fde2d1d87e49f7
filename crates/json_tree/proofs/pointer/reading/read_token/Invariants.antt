use Rattle.std.proofs.Common.{◌≡◌, ◌≢◌, ◌++◌, ◌<◌, ℕ, length, get_or, string_bytes}
use denote.Text.{Utf8}
use denote.Shadow.{shadow}
use Rattle.json_tree.specs.Pointer.{token_of}
use Rattle.json_tree.proofs.pointer.reading.read_token.Given as goal

-- the token of the name so far, and what is left, make the token
abbrev pub invariant-loop-plain : goal.invariant-loop-plain
invariant-loop-plain l =
    record {
      text : shadow (Utf8 l.rest);
      parts : l.token ≡ token_of (string_bytes l.name) ++ l.rest;
      one : (i : ℕ) → i < length l.rest → get_or l.rest i 0 ≢ 47;
    }

abbrev pub decreases-loop-plain : goal.decreases-loop-plain
decreases-loop-plain l = length l.rest
