use Rattle.idl_text.proofs.TreeLawLemmas.{IsFormed-tree, lines_in_forest-tree, only-tree}
use Rattle.idl_text.proofs.groups.tree.tree_of_lines.Goals as goal

pub returns : goal.returns
returns c = record { lines = lines_in_forest-tree; formed = IsFormed-tree; only = only-tree }
