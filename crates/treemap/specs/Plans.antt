-- What a step makes of pages, and the steps of a put.
use Rattle.std.specs.Prelude.{ℕ, ◌+◌, ◌*◌, Bool, cond, ◌&&◌, List, [], ◌∷◌, ◌++◌, Some, None, Ok, Err, Option, Result, ◌==◌}
use Rattle.std.specs.List.{flat_map}
use Rattle.sets.specs.Sets as in_set
use Rattle.sets.specs.Sets.{has, pages}
use Rattle.sets.specs.Words.{part}
use Rattle.tree.specs.declared.step.Step.{Step}
use Rattle.tree.specs.declared.step.Step.TheVariants.{Insert, Lower, Upper, Cut, Grow}
use Rattle.tree.specs.Orders.{KeyOrdering}
use Rattle.tree.specs.Nodes.{absent, count, entries, full_leaf, root_form, middle_key}
use Rattle.tree.specs.Steps.{sets, change}
use Rattle.treemap.specs.Lookups.{Pages, leaf_page, get_fault}

-- ---- steps on pages

-- the contents of the pages of a set, rising
abbrev pub gathered : ℕ → Pages → List ℕ
gathered set s = flat_map s (pages set)

-- of contents that stand one after another for the pages of a set, rising: those of page p
abbrev pub share_of : ℕ → List ℕ → ℕ → List ℕ
share_of set new p = part (224 * in_set.count (has set) p) 224 new

-- the pages after those of a set took new contents
unfoldable pub written : ℕ → List ℕ → Pages → Pages
written set new s p = cond (has set p) (share_of set new p) (s p)

abbrev pub stepped_by : ℕ → Pages → Result (List ℕ) ℕ → Result Pages ℕ
stepped_by set s (Ok new) = Ok (written set new s)
stepped_by set s (Err c) = Err c

-- the pages that a step makes of pages s, or its code
unfoldable pub stepped : KeyOrdering → Step → Pages → Result Pages ℕ
stepped o st s = stepped_by (sets st).1 s (change o st (gathered (sets st).0 s))

-- a refused step leaves the pages
abbrev pub taken : Result Pages ℕ → Pages → Pages
taken (Ok t) s = t
taken (Err c) s = s

abbrev pub run_all : KeyOrdering → List Step → Pages → Pages
run_all o [] s = s
run_all o (st ∷ sts) s = run_all o sts (taken (stepped o st s) s)

-- ---- the steps of a put

-- whether the leaf of key k has to be split before the key can be put in: it is full, and the key is not in it
unfoldable pub splits : KeyOrdering → Pages → ℕ → Bool
splits o s k = full_leaf o (s (leaf_page o s k)) && absent k (entries (s (leaf_page o s k)))

-- the steps that split it: page 0 as a leaf becomes a root over its two halves; a leaf under the root gives its upper half to the
-- page after the last one under the root
unfoldable pub splitting : KeyOrdering → Pages → ℕ → List Step
splitting o s k = cond (root_form o (s 0)) (Upper (leaf_page o s k) (count (s 0) + 1) ∷ Cut (leaf_page o s k) (count (s 0) + 1) ∷ []) (Lower 0 1 ∷ Upper 0 2 ∷ Grow ∷ [])

-- the steps of a put of key k with value v: where needed a split; then the key goes into the leaf that is now its leaf
unfoldable pub plan : KeyOrdering → Pages → ℕ → ℕ → List Step
plan o s k v = cond (splits o s k) (splitting o s k ++ (Insert (leaf_page o (run_all o (splitting o s k) s) k) k v ∷ [])) (Insert (leaf_page o s k) k v ∷ [])

-- why a put is refused
pub data PutFault : Type 0 where
  -- the page is not what it should be
  bad_page : ℕ → PutFault
  -- a split, and the root has 26 entries
  no_room : PutFault

-- why the leaf on page p under a root cannot be split: its middle key is in the root, or the root is full
abbrev pub split_fault : ℕ → List ℕ → List ℕ → Option PutFault
split_fault p root leaf = cond (absent (middle_key leaf) (entries root)) (cond (count root == 26) (Some no_room) None) (Some (bad_page p))

abbrev pub fault_by : Option ℕ → Option PutFault → Option PutFault
fault_by (Some p) next = Some (bad_page p)
fault_by None next = next

-- why a put of key k is refused: as a lookup is; or because its leaf, under a root, has to be split and cannot be
unfoldable pub put_fault : KeyOrdering → Pages → ℕ → Option PutFault
put_fault o s k = fault_by (get_fault o s k) (cond (splits o s k && root_form o (s 0)) (split_fault (leaf_page o s k) (s 0) (s (leaf_page o s k))) None)
