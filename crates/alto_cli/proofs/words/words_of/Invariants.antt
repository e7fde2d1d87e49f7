-- The words so far and those that are left are the words behind the first.
use Rattle.std.proofs.Common.{◌≡◌, ◌++◌, map, string_bytes}
use Rattle.alto_cli.proofs.words.words_of.Given as goal

abbrev pub invariant-loop-word : goal.invariant-loop-word
invariant-loop-word l =
    l.words.items ++ map string_bytes l.word-iterator.rest.items ≡ map string_bytes l.initial.word-iterator.rest.items
