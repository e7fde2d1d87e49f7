use Rattle.std.proofs.Common.{◌≡◌, drop}
use Rattle.alto_versions.specs.Texts.{text_in}
use Rattle.alto_versions.specs.Graphs.{entries}
use Rattle.alto_versions.proofs.texts.text_of.Given as goal

-- the texts so far are of other resources
abbrev pub invariant-loop-resource : goal.invariant-loop-resource
invariant-loop-resource l = text_in (entries l.texts) l.of ≡ text_in (entries (drop l.resource-index l.texts)) l.of
