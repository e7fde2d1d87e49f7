use Rattle.std.proofs.Common.{◌∙◌, ◌++◌, ◌∷◌, [], ap, false}
use Rattle.doc_pieces.proofs.PartLemmas.{whole-parts}
use Rattle.doc_pieces.specs.Parts.{whole, texts}
use Rattle.doc_pieces.proofs.parts.Parts.new.Goals as goal

pub returns : goal.returns
returns c =
    let beginning = c.args.beginning.now in
    let ending = c.args.ending.now in
    ap (λ groups. beginning ++ whole (texts false groups ++ ending ∷ [])) c.items.ensures.items
    ∙ whole-parts beginning ending c.args.groups.now
