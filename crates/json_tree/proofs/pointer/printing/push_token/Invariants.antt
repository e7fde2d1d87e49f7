use Rattle.std.proofs.Common.{◌≡◌, ◌++◌, string_bytes}
use Rattle.std.specs.Str.Iter.{chars_rest}
use Rattle.json_tree.specs.Pointer.{token_of}
use Rattle.json_tree.proofs.pointer.printing.push_token.Given as goal

-- what is printed, with the token of what is left, makes the whole
abbrev pub invariant-loop-c : goal.invariant-loop-c
invariant-loop-c l = string_bytes l.text ++ token_of (chars_rest l.c-iterator) ≡ string_bytes l.fn.text
    ++ token_of l.fn.name
