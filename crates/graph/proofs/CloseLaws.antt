-- One round of the closure after the other.
use Rattle.std.proofs.Common.{◌≡◌, ℕ, ◌+◌, ◌<◌, Bool, ◌&&◌, ◌||◌, List, length, sym, refl, ap, ◌∙◌, ap₂, add-one}
use Rattle.redo.specs.Closure.{via, pages_below}
use Rattle.graph.specs.Rows.{leads}

-- the pages below k are let in between
pub record ClosedBelow (arrows : List ℕ) (k : ℕ) (rows : List ℕ) : Type 0 where
  pub long : length rows ≡ 64
  pub closed : (a b : ℕ) → a < 64 → leads rows a b ≡ via (leads arrows) (pages_below k) a b

pub close_none : (arrows : List ℕ) → length arrows ≡ 64 → ClosedBelow arrows 0 arrows
unfolding via pages_below
close_none arrows l = record { long = l; closed = λ a b h. refl }

pub close_more : (arrows : List ℕ) (k : ℕ) (rows new : List ℕ) → ClosedBelow arrows k rows → k < 64 → length new ≡ 64
    → ((a b : ℕ) → a < 64 → leads new a b ≡ (leads rows a b || (leads rows a k && leads rows k b)))
    → ClosedBelow arrows (k + 1) new
unfolding via pages_below
close_more arrows k rows new was l long step = record { long = long; closed = closed_at }
  where
    r : ℕ → ℕ → Bool
    r = via (leads arrows) (pages_below k)

    closed_at : (a b : ℕ) → a < 64 → leads new a b ≡ via (leads arrows) (pages_below (k + 1)) a b
    closed_at a b h =
        step a b h
        ∙ ap₂ (λ x y. x || y) (was.closed a b h) (ap₂ (λ x y. x && y) (was.closed a k h) (was.closed k b l))
        ∙ ap (λ j. via (leads arrows) (pages_below j) a b) (sym (add-one k))
