-- What `is_sorted_by` answers on the entries of a page.
use Rattle.std.proofs.Common.{◌≡◌, Bool, true, false, ◌&&◌, List, [], ◌∷◌, Option, Some, None, inl, inr, sym, ap, subst, ◌∙◌}
use denote.Param.Members.{Mut}
use denote.Ref.{Bor}
use Rattle.std.specs.Fn.{CalledAtTwo}
use Rattle.std.specs.Iterator.{YieldsFirstBy, Yields}
use Rattle.std.specs.Iterator.Order.{ChecksNeighbours, OrderTurn}
use Rattle.std.specs.List.{FoldsTo}
use Rattle.std.specs.Option.{MatchOption}
use Rattle.tree.specs.declared.entries.Entry.{Entry}
use Rattle.tree.specs.declared.entries.Entries.{Entries}
use Rattle.tree.specs.Orders.{KeyOrdering}
use Rattle.tree.specs.Nodes.{above, rising}
use Rattle.tree.specs.Views.{pair, left}

module _ {F : Type 0} (g : Mut F (Bor Entry × (Bor Entry × Unit {0})) Bool) (o : KeyOrdering) (f : F) (acts : (x y : Entry) (b : Bool) (f' : F) → CalledAtTwo g f x y b f' → (f' ≡ f) × (b ≡ o.less x.key y.key)) (r : Bool) where
  abbrev End : Option Entry → F × Entry → Type 0
  End e q = MatchOption e (r ≡ true) (λ y. (r ≡ false) × ((h : F) × CalledAtTwo g q.0 q.1 y false h))

  last : (e : Option Entry) (u j : Entries) (x : Entry) → YieldsFirstBy pair left j e u → End e (f, x) → r ≡ above o x.key (left j)
  last None u j x s m = m ∙ ap (above o x.key) (sym s.0)
  last (Some y) u j x s m = m.0 ∙ ap (λ b. b && above o y.key (left u)) (acts x y false m.1.0 m.1.1).1 ∙ ap (above o x.key) (sym s)

  onward : (xs : List Entry) (e : Option Entry) (u j t : Entries) (x : Entry) (q : F × Entry) → Yields (YieldsFirstBy pair left) j xs t → FoldsTo {P = F × Entry} (OrderTurn g) (f, x) xs q → YieldsFirstBy pair left t e u → End e q → r ≡ above o x.key (left j)
  onward [] e u j t x q y k s m = last e u j x (subst (λ w. YieldsFirstBy pair left w e u) (sym y) s) (subst (End e) (sym k) m)
  onward (z ∷ zs) e u j t x q y k s m =
      let a = acts x z true k.0.0 k.1.0 in
      let p : k.0 ≡ (f, z) = (λ i. (a.0 i, k.1.1 i)) in
      onward zs e u y.0 t z q y.2 (subst (λ w. FoldsTo {P = F × Entry} (OrderTurn g) w zs q) p k.2) s m
      ∙ ap (λ b. b && above o z.key (left y.0)) a.1
      ∙ ap (above o x.key) (sym y.1)

  pub rising-checked : (s : Entries) → ChecksNeighbours g (YieldsFirstBy pair left) s f r → r ≡ rising o (left s)
  rising-checked s (inl d) = d.1 ∙ ap (rising o) (sym (ap left d.0.1.1 ∙ d.0.1.2.0))
  rising-checked s (inr d) = onward d.1 d.2 d.3 d.5.1.0 d.5.0 d.0 d.4 d.5.1.2 d.6 d.5.2 d.7 ∙ ap (rising o) (sym d.5.1.1)
