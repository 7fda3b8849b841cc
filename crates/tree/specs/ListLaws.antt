-- Lists of entries in the library's words.
use Rattle.std.specs.Prelude.{◌≡◌, ℕ, suc, ◌+◌, Bool, true, false, cond, not, ◌&&◌, List, [], ◌∷◌, Some, ◌==◌, refl}
use Rattle.std.proofs.Common.{arith}
use Rattle.std.specs.List.{find as find_first, prefix_len}
use Rattle.std.specs.Option.{option_map, is_none}
use Rattle.tree.specs.Orders.{KeyOrdering}
use Rattle.tree.specs.Nodes.{Entry, find, absent, before}

pub find_is : (k : ℕ) (es : List Entry) → find k es ≡ option_map (λ e. e.1) (find_first (λ e. e.0 == k) es)
find_is k [] = refl
find_is k (e ∷ es) = by (e.0 == k) (find_is k es)
  where
    by : (b : Bool) → find k es ≡ option_map (λ e. e.1) (find_first (λ e. e.0 == k) es) → cond b (Some e.1) (find k es) ≡ option_map (λ e. e.1) (cond b (Some e) (find_first (λ e. e.0 == k) es))
    by true ih = refl
    by false ih = ih

pub absent_is : (k : ℕ) (es : List Entry) → is_none (find k es) ≡ absent k es
absent_is k [] = refl
absent_is k (e ∷ es) = by (e.0 == k) (absent_is k es)
  where
    by : (b : Bool) → is_none (find k es) ≡ absent k es → is_none (cond b (Some e.1) (find k es)) ≡ (not b && absent k es)
    by true ih = refl
    by false ih = ih

pub before_is : (o : KeyOrdering) (k : ℕ) (es : List Entry) → prefix_len (λ e. o.less e.0 k) es ≡ before o k es
before_is o k [] = refl
before_is o k (e ∷ es) = by (o.less e.0 k) (before_is o k es)
  where
    by : (b : Bool) → prefix_len (λ e. o.less e.0 k) es ≡ before o k es → cond b (1 + prefix_len (λ e. o.less e.0 k) es) 0 ≡ cond b (suc (before o k es)) 0
    by true ih = omega arith
    by false ih = refl
