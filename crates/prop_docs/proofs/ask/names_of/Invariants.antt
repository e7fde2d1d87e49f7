use Rattle.std.proofs.Common.{◌≡◌, map, take}
use Rattle.prop_docs.proofs.ask.names_of.Given as goal

-- the names so far are the texts so far
abbrev pub invariant-loop-text : goal.invariant-loop-text
invariant-loop-text l = l.names.items ≡ map (λ text. text.now) (take l.text-index l.texts)
