-- Where a key is looked for, and what is found there, on any pages.
use Rattle.std.specs.Prelude.{ℕ, cond, ◌||◌, List, [], ◌∷◌, Some, None, Option}
use Rattle.tree.specs.Orders.{KeyOrdering}
use Rattle.tree.specs.Nodes.{Entry, find, entries, leaf_form, root_form}

-- the contents of each page, by its number
abbrev pub Pages : Type 0
Pages = ℕ → List ℕ

-- the value of the last entry whose key is at most k; d where there is none
abbrev pub last_up_to : KeyOrdering → ℕ → ℕ → List Entry → ℕ
last_up_to o k d [] = d
last_up_to o k d (e ∷ es) = last_up_to o k (cond (o.less k e.0) d e.1) es

-- the page of the leaf for key k: page 0, or, where page 0 is a root, the value of its last entry whose key is at most k
unfoldable pub leaf_page : KeyOrdering → Pages → ℕ → ℕ
leaf_page o s k = cond (root_form o (s 0)) (last_up_to o k 0 (entries (s 0))) 0

-- the value of key k in its leaf
unfoldable pub lookup : KeyOrdering → Pages → ℕ → Option ℕ
lookup o s k = find k (entries (s (leaf_page o s k)))

-- the page at which a lookup of key k fails: page 0 where it is neither a leaf nor a root, else the leaf's page where that is no leaf
unfoldable pub get_fault : KeyOrdering → Pages → ℕ → Option ℕ
get_fault o s k = cond (leaf_form o (s 0) || root_form o (s 0)) (cond (leaf_form o (s (leaf_page o s k))) None (Some (leaf_page o s k))) (Some 0)
