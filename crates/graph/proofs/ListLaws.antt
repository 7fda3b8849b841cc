-- Lists of the dirty operations of a history.
use Rattle.std.proofs.Common.{◌≡◌, ℕ, zero, suc, ◌<◌, Bool, true, false, cond, not, ◌&&◌, eqb, ltb, leb, List, [], ◌∷◌, ◌++◌, map, length, get_or, filter, sym, refl, ap, ◌∙◌, subst, ap₂, inl, inr, arith}
use mathlib.Core.Path.{fun_ext}
use Rattle.std.specs.List.{ContainsAt as Has, AllByRecursion}
use Rattle.std.proofs.lemmas.List.{length-map, get_or-map, map_push}
use Rattle.std.proofs.lemmas.List.Elements.{filter-append}
use Rattle.std.proofs.ByRecursion.{All-get_or, All-from_get_or, All-append, All-push, All-weaker, all_kept_by, has_append_left, has_append_right}
use Rattle.std.proofs.lemmas.Bool.{both_ways, or_right, cases_eq, cond-true, ltb-true, lt-ltb, le-leb, eq-eqb, ne_eqb}
use Rattle.sets.specs.Sets.{has, rising}
use Rattle.redo.specs.Histories.{page_count, Operation, History, reads, writes}
use Rattle.redo.specs.Prefixes.{uninstalled}
use Rattle.redo.specs.Recovery.{some}
use Rattle.redo.specs.WriteGraph.{operations, Among}
use Rattle.redo.specs.Installation.{joined, extended}
use Rattle.redo.proofs.TestLaws.{rising-like}
use Rattle.redo.proofs.InstallLaws.{uninstalled-parts, joined-dirty}
use Rattle.redo.proofs.KeepLaws.{reads_same, writes_same, new-operation, newly_dirty, or-none}
use Rattle.redo.proofs.GraphLaws.{graph_by_operations_lem}
use Rattle.graph.specs.declared.op.Op.{Op}
use Rattle.graph.specs.Ops.{nothing, dirty_ops}
use Rattle.graph.specs.Listing.{ScopeOf, Lists, writes_inside, ListedGraph, ListedRun, ListedInstall}

-- ---- rising lists

pub rising-has : (f : ℕ → Bool) (n m : ℕ) → m < n → f m ≡ true → Has (rising f n) m
unfolding rising
rising-has f zero m l e = absurd (omega arith)
rising-has f (suc n) m l e = elim (cases_eq m n) [
  | inl same ↦ has_append_right (rising f n) (cond (f n) (n ∷ []) []) m
      (subst (λ (xs : List ℕ). Has xs m) (sym (cond-true (f n) (n ∷ []) [] (ap f (sym same) ∙ e))) (0, omega arith, λ d. sym same))
  | inr other ↦ has_append_left (rising f n) (cond (f n) (n ∷ []) []) m (rising-has f n m (omega arith) e)
]

rising-all : (f : ℕ → Bool) (n : ℕ) → AllByRecursion (λ m. f m ≡ true) (rising f n)
unfolding rising
rising-all f zero = tt
rising-all f (suc n) = All-append (λ m. f m ≡ true) (rising f n) (cond (f n) (n ∷ []) []) (rising-all f n) (last (f n) refl)
  where
    last : (b : Bool) → f n ≡ b → AllByRecursion (λ m. f m ≡ true) (cond b (n ∷ []) [])
    last true e = (e, tt)
    last false e = tt

rising-kept : (f g : ℕ → Bool) (n : ℕ) → rising (λ m. f m && g m) n ≡ filter g (rising f n)
unfolding rising
rising-kept f g zero = refl
rising-kept f g (suc n) =
    ap₂ ◌++◌ (rising-kept f g n) (last (f n)) ∙ sym (filter-append g (rising f n) (cond (f n) (n ∷ []) []))
  where
    last : (b : Bool) → cond (b && g n) (n ∷ []) [] ≡ filter g (cond b (n ∷ []) [])
    last true = refl
    last false = refl

-- ---- the list and the history

module _ (ops : List Op) (h : History) (I : ℕ → Bool) (n : ℕ) (lists : Lists ops h I n) where
  number_at : (i : ℕ) → i < length ops → get_or (rising (uninstalled h I n) n) i 0 ≡ (get_or ops i nothing).number
  number_at i l = ap (λ (xs : List ℕ). get_or xs i 0) (sym lists.numbers) ∙ get_or-map (λ (o : Op). o.number) ops i nothing 0 l

  same_length : length (rising (uninstalled h I n) n) ≡ length ops
  same_length = ap length (sym lists.numbers) ∙ length-map ops (λ (o : Op). o.number)

  pub listed-dirty : (i : ℕ) → i < length ops → uninstalled h I n (get_or ops i nothing).number ≡ true
  listed-dirty i l =
      ap (uninstalled h I n) (sym (number_at i l))
      ∙ All-get_or (λ m. uninstalled h I n m ≡ true) (rising (uninstalled h I n) n) i 0 (let e = same_length in omega arith) (rising-all (uninstalled h I n) n)

  pub scope-at : (i : ℕ) → i < length ops → ScopeOf h (get_or ops i nothing)
  scope-at i l = All-get_or (ScopeOf h) ops i nothing l lists.scopes

  listed-among : Among (dirty_ops ops) (operations h I n)
  listed-among i e =
      let l = ltb-true i (length ops) e in
      ((get_or ops i nothing).number, listed-dirty i l, refl, (scope-at i l).0, (scope-at i l).1)

  pub dirty-among : Among (operations h I n) (dirty_ops ops)
  dirty-among m e =
      let at = rising-has (uninstalled h I n) n m (uninstalled-parts h I n m e).1 e in
      let i = at.0 in
      let l : i < length ops = let s = same_length in omega (arith, at.1) in
      let num : (get_or ops i nothing).number ≡ m = sym (number_at i l) ∙ at.2 0 in (
        i,
        lt-ltb i (length ops) l,
        sym num,
        λ p. ap (λ k. reads h k p) (sym num) ∙ sym ((scope-at i l).0 p),
        λ p. ap (λ k. writes h k p) (sym num) ∙ sym ((scope-at i l).1 p),
      )

pub listed-graph : ListedGraph
listed-graph ops h I n lists = graph_by_operations_lem (dirty_ops ops) (operations h I n) (listed-among ops h I n lists) (dirty-among ops h I n lists)

pub listed-run : ListedRun
unfolding rising
listed-run ops h I n o op lists f out num rd wr = record { numbers = numbers-at; scopes = All-push (ScopeOf (extended h n op)) ops o olds new }
  where
    still : (k : ℕ) → k < n → uninstalled (extended h n op) I (suc n) k ≡ uninstalled h I n k
    still k l = newly_dirty h I n op f out k ∙ or-none (uninstalled h I n k) (eqb k n) (ne_eqb k n (λ e. omega arith))

    joins : uninstalled (extended h n op) I (suc n) n ≡ true
    joins = newly_dirty h I n op f out n ∙ or_right (uninstalled h I n n) (eqb n n) (eq-eqb n n refl)

    numbers-at : map (λ (o : Op). o.number) (ops ++ o ∷ []) ≡ rising (uninstalled (extended h n op) I (suc n)) (suc n)
    numbers-at =
        map_push (λ (o : Op). o.number) ops o
        ∙ ap₂ (λ (xs : List ℕ) (k : ℕ). xs ++ k ∷ []) (lists.numbers ∙ sym (rising-like (uninstalled (extended h n op) I (suc n)) (uninstalled h I n) n still)) num
        ∙ ap (λ (xs : List ℕ). rising (uninstalled (extended h n op) I (suc n)) n ++ xs) (sym (cond-true (uninstalled (extended h n op) I (suc n) n) (n ∷ []) [] joins))

    old : (i : ℕ) → i < length ops → ScopeOf (extended h n op) (get_or ops i nothing)
    old i l =
        let m = (get_or ops i nothing).number in
        let below = (uninstalled-parts h I n m (listed-dirty ops h I n lists i l)).1 in
        let sc = scope-at ops h I n lists i l in
        (λ p. sc.0 p ∙ sym (reads_same h n op m p below), λ p. sc.1 p ∙ sym (writes_same h n op m p below))

    olds : AllByRecursion (ScopeOf (extended h n op)) ops
    olds = All-from_get_or (ScopeOf (extended h n op)) ops nothing old

    new : ScopeOf (extended h n op) o
    new = (
      λ p. rd p ∙ sym (ap (λ k. reads (extended h n op) k p) num ∙ ap₂ (λ (b : Bool) (x : Operation). b && x.reads p) (le-leb h.first n f) (new-operation h n op)),
      λ p. wr p ∙ sym (ap (λ k. writes (extended h n op) k p) num ∙ ap₂ (λ (b : Bool) (x : Operation). b && x.writes p) (le-leb h.first n f) (new-operation h n op)),
    )

-- numbers of what a filter keeps
numbers-kept : (t : Op → Bool) (g : ℕ → Bool) (ops : List Op) → AllByRecursion (λ (o : Op). t o ≡ g o.number) ops
    → map (λ (o : Op). o.number) (filter t ops) ≡ filter g (map (λ (o : Op). o.number) ops)
numbers-kept t g [] all = refl
numbers-kept t g (o ∷ ops) all = go (t o) (g o.number) all.0 (numbers-kept t g ops all.1)
  where
    go : (a b : Bool) → a ≡ b → map (λ (o : Op). o.number) (filter t ops) ≡ filter g (map (λ (o : Op). o.number) ops)
        → map (λ (o : Op). o.number) (cond a (o ∷ filter t ops) (filter t ops)) ≡ cond b (o.number ∷ filter g (map (λ (o : Op). o.number) ops)) (filter g (map (λ (o : Op). o.number) ops))
    go true true e ih = ap (λ (xs : List ℕ). o.number ∷ xs) ih
    go false false e ih = ih
    go true false e ih = absurd (both_ways true e refl)
    go false true e ih = absurd (both_ways false refl e)

pub listed-install : ListedInstall
listed-install ops h I n g lists = record { numbers = numbers-at; scopes = all_kept_by (λ o. not (writes_inside g o)) (ScopeOf h) ops lists.scopes }
  where
    outside : ℕ → Bool
    outside m = not (some page_count (λ q. writes h m q && has g q))

    same_test : (o : Op) → ScopeOf h o → not (writes_inside g o) ≡ outside o.number
    same_test o sc = ap (λ (f : ℕ → Bool). not (some page_count (λ q. f q && has g q))) (fun_ext sc.1)

    numbers-at : map (λ (o : Op). o.number) (filter (λ o. not (writes_inside g o)) ops) ≡ rising (uninstalled h (joined h I n (has g)) n) n
    numbers-at =
        numbers-kept (λ o. not (writes_inside g o)) outside ops (All-weaker (ScopeOf h) (λ (o : Op). not (writes_inside g o) ≡ outside o.number) same_test ops lists.scopes)
        ∙ ap (filter outside) lists.numbers
        ∙ sym (rising-kept (uninstalled h I n) outside n)
        ∙ sym (rising-like (uninstalled h (joined h I n (has g)) n) (λ m. uninstalled h I n m && outside m) n
        (λ m l. joined-dirty (leb h.first m) (ltb m n) (I m) (some page_count (λ q. writes h m q && has g q))))
