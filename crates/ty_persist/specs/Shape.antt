-- What a node of the tree is seen as, and what holds of it.
use Rattle.std.specs.Prelude.{◌≡◌, ℕ, ◌+◌, ◌≤◌, max, List, [], ◌∷◌, ◌++◌}
use Rattle.std.specs.declared.cmp.Ordering.{Ordering}
use Rattle.ty_persist.specs.Contents.{Contents, IsAscending, IsLow}
use Rattle.ty_persist.specs.declared.entry.Entry.{Entry}
use Rattle.ty_persist.specs.declared.tree.Node.{Node}
use Rattle.ty_persist.specs.declared.tree.Root.{Root}
use Rattle.ty_persist.specs.declared.tree.Root.TheVariants.{Leaf, Fork}

-- an entry as the pair of its key and its value
abbrev pub pair : {K V : Type 0} → Entry K V → K × V
pair e = (e.key, e.value)

-- a node's entries in order, and the height that it stores
abbrev pub node_contents : {K V : Type 0} → Node K V → Contents K V
node_contents n = record { entries = n.left.entries ++ pair n.entry.value ∷ n.right.entries; height = n.height }

-- the entries in order, and the height that the root stores
abbrev pub contents : {K V : Type 0} → Root K V → Contents K V
contents Leaf = record { entries = []; height = 0 }
contents (Fork n) = node_contents n.value

-- keys that ascend, a height that is low for their number and stored rightly, and sides whose heights differ by at most one
abbrev pub IsBalanced : {K V : Type 0} → (K → K → Ordering) → Node K V → Type 0
IsBalanced cmp n = IsAscending cmp (node_contents n).entries × IsLow (node_contents n)
    × (n.height ≡ max n.left.height n.right.height + 1)
    × (n.left.height ≤ n.right.height + 1) × (n.right.height ≤ n.left.height + 1)

-- no entry, or a balanced node
abbrev pub IsAvl : {K V : Type 0} → (K → K → Ordering) → Root K V → Type 0
IsAvl cmp Leaf = Unit {0}
IsAvl cmp (Fork n) = IsBalanced cmp n.value

-- the entries of both sides round e
abbrev pub around : {K V : Type 0} → Contents K V → Entry K V → Contents K V → List (K × V)
around l e r = l.entries ++ pair e ∷ r.entries

-- neither height is more than this above the other
abbrev pub DifferByAtMost : ℕ → ℕ → ℕ → Type 0
DifferByAtMost by l r = (l ≤ r + by) × (r ≤ l + by)

-- the height h of what a node with sides of the heights l and r settles to
abbrev pub IsHeightAfterRebalance : ℕ → ℕ → ℕ → Type 0
IsHeightAfterRebalance l r h = (max l r ≤ h) × (h ≤ max l r + 1) × (DifferByAtMost 1 l r → h ≡ max l r + 1)
