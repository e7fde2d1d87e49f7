-- What a tree of each kind says.
use Rattle.std.proofs.Common.{◌≡◌, ℕ, List, Bool, Vec, BTreeMap, Global, rules}
use Rattle.serde_json.specs.Data.{null, boolean, number, string, array, object, unsigned}
use Rattle.json_tree.specs.Tree.{data_of, items_data, entries_data}
use Rattle.json_tree.specs.declared.tree.Tree.{Tree, the_lemmas}
use Rattle.json_tree.specs.declared.tree.Tree.TheVariants as tree

pub data_of_null : data_of tree.Null ≡ null
unfolding data_of
data_of_null = search (rules, the_lemmas)

pub data_of_bool : (b : Bool) → data_of (tree.Bool b) ≡ boolean b
unfolding data_of
data_of_bool b = search (rules, the_lemmas)

pub data_of_num : (n : ℕ) → data_of (tree.Num n) ≡ number (unsigned n)
unfolding data_of
data_of_num n = search (rules, the_lemmas)

pub data_of_text : (name : List ℕ) → data_of (tree.Text name) ≡ string name
unfolding data_of
data_of_text name = search (rules, the_lemmas)

pub data_of_list : (trees : Vec Tree Global) → data_of (tree.List trees) ≡ array (items_data trees.items)
unfolding data_of
data_of_list trees = search (rules, the_lemmas)

pub data_of_object : (members : BTreeMap (List ℕ) Tree)
    → data_of (tree.Object members) ≡ object (entries_data members.entries)
unfolding data_of
data_of_object members = search (rules, the_lemmas)
