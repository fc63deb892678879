-- The code's nodes as the definitions have them.
use Rattle.std.specs.Prelude.{ℕ, List, get_or}
use Rattle.xpath.specs.Document.{Node, node}
use Rattle.xpath.specs.declared.document.Node.{Node as CodeNode}

abbrev pub node_of : CodeNode → Node
node_of n = record { kind = n.kind; parent = n.parent; name = n.name }

-- three numbers as a node
abbrev pub node_in : List ℕ → Node
node_in xs = node (get_or xs 0 0) (get_or xs 1 0) (get_or xs 2 0)
