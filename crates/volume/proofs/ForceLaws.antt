-- Records written one after another.
use Rattle.std.proofs.Common.{◌≡◌, ℕ, ◌+◌, ◌<◌, List, [], ◌∷◌, length, get_or, drop, Some, None, Option, sym, refl, ap, ◌∙◌, subst, add-one, drop-cons}
use Rattle.faults.specs.Faults.{Report}
use Rattle.media.specs.Media.{Device, Wrote}
use Rattle.volume.specs.Working.{number_of}
use Rattle.volume.specs.LogReading.{place_of}
use Rattle.volume.specs.Forcing.{Logged, all, dies, goes}

pub drop-next : (bs : List (List ℕ)) (i : ℕ) (d : List ℕ) → i < length bs → drop i bs ≡ get_or bs i d ∷ drop (i + 1) bs
drop-next bs i d l = drop-cons bs i d l ∙ ap (λ j. get_or bs i d ∷ drop j bs) (sym (add-one i))

pub drop-end : (bs : List (List ℕ)) → drop (length bs) bs ≡ []
drop-end [] = refl
drop-end (b ∷ bs) = drop-end bs

-- the i-th record is written, and what becomes of those behind it becomes of all from it on
pub logged-on : (bs : List (List ℕ)) (i : ℕ) (d : List ℕ) (m m₁ m' : Device) (o : Option Report) (left : List (List ℕ)) → i < length bs
    → Wrote m (place_of (number_of (get_or bs i d))) (get_or bs i d) None m₁ → Logged m₁ (drop (i + 1) bs) o m' left → Logged m (drop i bs) o m' left
logged-on bs i d m m₁ m' o left l (f, w) rest = subst (λ x. Logged m x o m' left) (sym (drop-next bs i d l)) (goes f w rest)

-- the i-th record's write is refused: it still waits
pub logged-dies : (bs : List (List ℕ)) (i : ℕ) (d : List ℕ) (m m' : Device) (r : Report) → i < length bs
    → Wrote m (place_of (number_of (get_or bs i d))) (get_or bs i d) (Some r) m' → Logged m (drop i bs) (Some r) m' (drop i bs)
logged-dies bs i d m m' r l (f, w) = subst (λ x. Logged m x (Some r) m' x) (sym (drop-next bs i d l)) (dies f w)

pub logged-end : (bs : List (List ℕ)) (n : ℕ) (m : Device) → n ≡ length bs → Logged m (drop n bs) None m (drop n bs)
logged-end bs n m e = subst (λ x. Logged m x None m x) (sym (ap (λ j. drop j bs) e ∙ drop-end bs)) all
