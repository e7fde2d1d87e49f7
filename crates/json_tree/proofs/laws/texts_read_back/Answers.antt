use Rattle.json_tree.proofs.TextLemmas.{whole_value-compact_text}
use Rattle.json_tree.proofs.laws.texts_read_back.Goals as goal

pub returns : goal.returns
returns c = whole_value-compact_text
