use Rattle.std.proofs.Common.{◌≡◌, ◌++◌, length}
use Rattle.doc_pieces.specs.Parts.{whole}
use Rattle.doc_pieces.specs.Pieces.{text_of}
use Rattle.alto_replies.proofs.body.push_parts.Given as goal

-- what stands in the text and the parts that are left are the whole text
abbrev pub invariant-loop-part : goal.invariant-loop-part
invariant-loop-part l = l.text ++ whole l.parts ≡ l.fn.text ++ text_of l.fn.pieces

-- each step takes a part
abbrev pub decreases-loop-part : goal.decreases-loop-part
decreases-loop-part l = length l.parts
