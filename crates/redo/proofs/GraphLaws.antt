-- Laws of reach, groups and the order among them.
use Rattle.std.proofs.Common.{ℕ, ◌<◌, sym, ◌∙◌, subst₂, inl, inr}
use Rattle.redo.specs.WriteGraph.{Operations, Arrow, Reaches, one, more, Dirty, SameGroup, DirectlyBefore, Before, step, steps, Among}
use Rattle.redo.specs.Theorems.{GroupsPart, NoCircle, GraphByOperations}

pub reach-trans : (d : Operations) {a b c : ℕ} → Reaches d a b → Reaches d b c → Reaches d a c
reach-trans d (one ar) r = more ar r
reach-trans d (more ar s) r = more ar (reach-trans d s r)

-- a dirty page reaches itself, and the pages at both ends of an arrow are dirty
pub dirty-arrow : (d : Operations) (p : ℕ) → Dirty d p → Arrow d p p
dirty-arrow d p (m, dirty, wr) = inl (record { op = m; is_dirty = dirty; writes_a = wr; writes_b = wr })

pub arrow-from : (d : Operations) (a b : ℕ) → Arrow d a b → Dirty d a
arrow-from d a b (inl x) = (x.op, x.is_dirty, x.writes_a)
arrow-from d a b (inr x) = (x.O, x.o_dirty, x.writes_a)

pub arrow-to : (d : Operations) (a b : ℕ) → Arrow d a b → Dirty d b
arrow-to d a b (inl x) = (x.op, x.is_dirty, x.writes_b)
arrow-to d a b (inr x) = (x.P, x.p_dirty, x.writes_b)

pub reach-from : (d : Operations) {a b : ℕ} → Reaches d a b → Dirty d a
reach-from d (one {a = a} {b = b} ar) = arrow-from d a b ar
reach-from d (more {a = a} {b = b} ar s) = arrow-from d a b ar

pub reach-to : (d : Operations) {a b : ℕ} → Reaches d a b → Dirty d b
reach-to d (one {a = a} {b = b} ar) = arrow-to d a b ar
reach-to d (more ar s) = reach-to d s

-- groups
pub group-self : (d : Operations) (p : ℕ) → Dirty d p → SameGroup d p p
group-self d p dirty = (one (dirty-arrow d p dirty), one (dirty-arrow d p dirty))

pub group-sym : (d : Operations) (a b : ℕ) → SameGroup d a b → SameGroup d b a
group-sym d a b s = (s.1, s.0)

pub group-trans : (d : Operations) (a b c : ℕ) → SameGroup d a b → SameGroup d b c → SameGroup d a c
group-trans d a b c s t = (reach-trans d s.0 t.0, reach-trans d t.1 s.1)

pub groups-part : GroupsPart
groups-part d = record {
  in_one = group-self d;
  not_in_two = λ p q r s t. group-trans d q p r (group-sym d p q s) t;
  dirty_only = λ p q s. (reach-from d s.0, reach-to d s.0);
}

-- the order among groups
pub directly_reaches : (d : Operations) (a b : ℕ) → DirectlyBefore d a b → Reaches d a b
directly_reaches d a b x = reach-trans d x.from_group.0 (more x.arrow x.to_group.0)

pub before-reaches : (d : Operations) {a b : ℕ} → Before d a b → Reaches d a b
before-reaches d (step {a = a} {b = b} x) = directly_reaches d a b x
before-reaches d (steps {a = a} {b = b} x rest) = reach-trans d (directly_reaches d a b x) (before-reaches d rest)

no_return : (d : Operations) {a b : ℕ} → Before d a b → SameGroup d a b → ⊥
no_return d (step x) same = x.apart same
no_return d (steps {a = a} {b = b} x rest) same = x.apart (directly_reaches d a b x, reach-trans d (before-reaches d rest) same.1)

pub no_circle : NoCircle
no_circle d a b circle = no_return d circle.0 circle.1

-- the same dirty operations have the same graph
module _ (d e : Operations) (among : Among d e) where
  dirty-also : (p : ℕ) → Dirty d p → Dirty e p
  dirty-also p (m, dirty, wr) = let k = among m dirty in (k.0, k.1, sym (k.4 p) ∙ wr)

  arrow-also : (a b : ℕ) → Arrow d a b → Arrow e a b
  arrow-also a b (inl x) =
      let k = among x.op x.is_dirty in
      inl (record { op = k.0; is_dirty = k.1; writes_a = sym (k.4 a) ∙ x.writes_a; writes_b = sym (k.4 b) ∙ x.writes_b })
  arrow-also a b (inr x) =
      let o = among x.O x.o_dirty in
      let p = among x.P x.p_dirty in
      inr (record {
        O = o.0;
        P = p.0;
        page = x.page;
        o_dirty = o.1;
        p_dirty = p.1;
        earlier = subst₂ (λ (i j : ℕ). i < j) o.2 p.2 x.earlier;
        writes_a = sym (o.4 a) ∙ x.writes_a;
        writes_b = sym (p.4 b) ∙ x.writes_b;
        o_reads = sym (o.3 x.page) ∙ x.o_reads;
        p_writes = sym (p.4 x.page) ∙ x.p_writes;
      })

  reach-also : {a b : ℕ} → Reaches d a b → Reaches e a b
  reach-also (one {a = a} {b = b} ar) = one (arrow-also a b ar)
  reach-also (more {a = a} {b = b} ar s) = more (arrow-also a b ar) (reach-also s)

  group-also : (a b : ℕ) → SameGroup d a b → SameGroup e a b
  group-also a b s = (reach-also s.0, reach-also s.1)

order-also : (d e : Operations) → Among d e → Among e d → (a b : ℕ) → DirectlyBefore d a b → DirectlyBefore e a b
order-also d e de ed a b x = record {
  from = x.from;
  to = x.to;
  from_group = group-also d e de a x.from x.from_group;
  arrow = arrow-also d e de x.from x.to x.arrow;
  to_group = group-also d e de x.to b x.to_group;
  apart = λ s. x.apart (group-also e d ed a b s);
}

pub graph_by_operations_lem : GraphByOperations
graph_by_operations_lem d e de ed = record {
  dirty = λ p. (dirty-also d e de p, dirty-also e d ed p);
  arrows = λ a b. (arrow-also d e de a b, arrow-also e d ed a b);
  reach = λ a b. (λ s. reach-also d e de s, λ s. reach-also e d ed s);
  groups = λ a b. (group-also d e de a b, group-also e d ed a b);
  order = λ a b. (order-also d e de ed a b, order-also e d ed de a b);
}
