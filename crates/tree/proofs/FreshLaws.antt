-- What a fold over the entries of a page answers that breaks off at a value that is not new.
use Rattle.std.proofs.Common.{◌≡◌, ℕ, Bool, true, false, not, nat_le, eqb, ◌&&◌, ◌||◌, List, [], ◌∷◌, Option, Some, None, sym, ap, subst, ◌∙◌, ◌<◌, nat_lt, arith}
use Rattle.std.proofs.Math.Path.{fun_ext}
use Rattle.std.proofs.lemmas.Bool.Decides.{nat_tests}
use Rattle.std.specs.Bool.{then_some}
use denote.Param.Members.{Mut}
use Rattle.std.specs.Fn.{Called}
use Rattle.std.specs.Iterator.{YieldsFirstBy, Yields, TryFoldTurn}
use Rattle.std.specs.ControlFlow.{continue_value}
use Rattle.std.specs.List.{FoldsTo}
use Rattle.std.specs.Option.{MatchOption, is_some}
use Rattle.sets.specs.Sets.{has, SetOf}
use Rattle.tree.specs.declared.entries.Entry.{Entry}
use Rattle.tree.specs.declared.entries.Entries.{Entries}
use Rattle.tree.specs.Nodes.{fresh}
use Rattle.tree.specs.Views.{pair, left}

-- a value is one of 1 to n, and not in a set
abbrev pub new : ℕ → ℕ → ℕ → Bool
new n s v = nat_le 1 v && (nat_le v n && not (has s v))

-- a turn gives the set with a new value, or none
abbrev pub Took : ℕ → ℕ → ℕ → Option ℕ → Type 0
Took n s v o = MatchOption o (new n s v ≡ false) (λ t. (new n s v ≡ true) × (has t ≡ (λ q. has s q || eqb q v)))

pub took : (n s v : ℕ) (o : Option ℕ) → n < 64 → ((b : Bool) × (t : ℕ) × (w : ℕ) × (o ≡ then_some b t) × (b ≡ new n s v) × SetOf w (λ q. eqb q v && nat_lt v 64) × SetOf t (λ q. has s q || has w q)) → Took n s v o
took n s v o few d = subst (Took n s v) (sym d.3) (at d.0 d.1 d.2 d.4 d.5 d.6)
  where
    at : (b : Bool) (t w : ℕ) → b ≡ new n s v → SetOf w (λ q. eqb q v && nat_lt v 64) → SetOf t (λ q. has s q || has w q) → Took n s v (then_some b t)
    at false t w e hw ht = sym e
    at true t w e hw ht = (sym e, fun_ext (λ q. ht q ∙ ap (λ x. has s q || x) (hw q ∙ small q e)))
      where
        small : (q : ℕ) → true ≡ new n s v → (eqb q v && nat_lt v 64) ≡ eqb q v
        small q e = grind (arith, nat_tests)

module _ {F : Type 0} (E : Type 0) (n : ℕ) (g : Mut F (ℕ × (Entry × Unit {0})) (Option ℕ)) (f : F) (acts : (s : ℕ) (x : Entry) (o : Option ℕ) (q : F) → Called g f (s, (x, tt)) o q → (q ≡ f) × Took n s x.value o) (r : Option ℕ) where
  abbrev Turn : F × ℕ → Entry → F × ℕ → Type 0
  Turn = TryFoldTurn {E = E} g (λ v c. v ≡ continue_value c)

  abbrev End : Option Entry → F × ℕ → Type 0
  End e q = MatchOption e (r ≡ Some q.1) (λ x. (v : Option ℕ) × (h : F) × (b : E) × Called g q.0 (q.1, (x, tt)) v h × (v ≡ None) × (r ≡ None))

  last : (e : Option Entry) (u j : Entries) (s : ℕ) → YieldsFirstBy pair left j e u → End e (f, s) → is_some r ≡ fresh n (has s) (left j)
  last None u j s y m = ap is_some m ∙ ap (fresh n (has s)) (sym y.0)
  last (Some x) u j s y m =
      let b = subst (Took n s x.value) m.4 (acts s x m.0 m.1 m.3).1 in
      ap is_some m.5 ∙ ap (λ t. t && fresh n (λ v. has s v || eqb v x.value) (left u)) (sym b) ∙ ap (fresh n (has s)) (sym y)

  pub fresh_folded : (xs : List Entry) (e : Option Entry) (u j t : Entries) (s : ℕ) (q : F × ℕ) → Yields (YieldsFirstBy pair left) j xs t → FoldsTo {P = F × ℕ} Turn (f, s) xs q → YieldsFirstBy pair left t e u → End e q → is_some r ≡ fresh n (has s) (left j)
  fresh_folded [] e u j t s q y k z m = last e u j s (subst (λ w. YieldsFirstBy pair left w e u) (sym y) z) (subst (End e) (sym k) m)
  fresh_folded (x ∷ xs) e u j t s q y k z m =
      let a = acts s x k.1.0 k.0.0 k.1.1 in
      let b = subst (Took n s x.value) k.1.2 a.1 in
      let p : k.0 ≡ (f, k.0.1) = (λ i. (a.0 i, k.0.1)) in
      fresh_folded xs e u y.0 t k.0.1 q y.2 (subst (λ w. FoldsTo {P = F × ℕ} Turn w xs q) p k.2) z m
      ∙ ap (λ h. fresh n h (left y.0)) b.1
      ∙ ap (λ c. c && fresh n (λ v. has s v || eqb v x.value) (left y.0)) (sym b.0)
      ∙ ap (fresh n (has s)) (sym y.1)
