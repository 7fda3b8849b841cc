-- What the header and a record that was run read as.
use Rattle.std.proofs.Common.{◌≡◌, ℕ, ◌^◌, ◌<◌, ◌≤◌, true, cond, not, ◌&&◌, eqb, List, length, take, drop, replicate, Some, None, codes, Result, sym, refl, ap, ◌∙◌, subst, arith}
use Rattle.std.proofs.lemmas.Option.{cond_some}
use Rattle.std.proofs.lemmas.List.{length-append, take_at, drop_at}
use Rattle.std.proofs.lemmas.Bool.{and_parts, and_from, eqb-true, eq-eqb, ne_eqb, not_from_false, cond-true}
use Rattle.sets.specs.Words.{number, bytes_of, part}
use Rattle.sets.proofs.WordLaws.{bytes-length, number-bytes}
use Rattle.faults.specs.declared.fault.Fault.TheVariants.{SetsDiffer}
use Rattle.faults.specs.Faults.{report}
use Rattle.kinds.specs.Kinds.{Meaning, Lawful, Scoped}
use Rattle.logblocks.specs.Blocks.{Entry, zeros, same, block_of, is_record_block, entry_of, record_in, header_of, is_header_block, header_in}
use Rattle.logblocks.proofs.BlockLaws.{zeros-replicate, write-back}
use Rattle.volume.specs.Working.{number_of}
use Rattle.volume.specs.LogReading.{record_fault, entry_fault, sets_fault}
use Rattle.lives.proofs.Keeping.{Sound, entry_by}

pub header-length : (t : ℕ) → length (header_of t) ≡ 256
unfolding header_of
header-length t = let b = bytes-length 4 t in simp length-append (omega arith)

header-mid : (t : ℕ) → part 4 4 (header_of t) ≡ bytes_of 4 t
unfolding header_of
header-mid t = take_at (bytes_of 4 t) (replicate 248 0) 4 (bytes-length 4 t)

header-tail : (t : ℕ) → drop 8 (header_of t) ≡ replicate 248 0
unfolding header_of
header-tail t = drop_at (bytes_of 4 t) (replicate 248 0) 4 (bytes-length 4 t)

header-text : (t : ℕ) → same (take 4 (header_of t)) (codes "LTR1") ≡ true
unfolding header_of
header-text t = refl

-- a header reads as its first number
pub header-reads : (t : ℕ) → 1 ≤ t → t < 2 ^ 32 → header_in (header_of t) ≡ Some t
header-reads t one small = cond-true (is_header_block (header_of t)) (Some (number (part 4 4 (header_of t)))) None is ∙ ap Some num
  where
    num : number (part 4 4 (header_of t)) ≡ t
    num = ap number (header-mid t) ∙ number-bytes 4 t small

    is : is_header_block (header_of t) ≡ true
    is =
        and_from (eqb (length (header_of t)) 256) _ (eq-eqb (length (header_of t)) 256 (header-length t))
        (and_from (same (take 4 (header_of t)) (codes "LTR1")) _ (header-text t)
        (and_from (not (eqb (number (part 4 4 (header_of t))) 0)) _ (not_from_false (eqb (number (part 4 4 (header_of t))) 0) (ne_eqb (number (part 4 4 (header_of t))) 0 (λ e. omega (arith, num))))
        (ap zeros (header-tail t) ∙ zeros-replicate 248)))

-- a block that reads as something is a record, and says that
reads-entry : (bs : List ℕ) (e : Entry) → record_in bs ≡ Some e → (length bs ≡ 256) × (entry_of bs ≡ e)
reads-entry bs e h = let p = cond_some (is_record_block bs) (entry_of bs) e h in (eqb-true (length bs) 256 (and_parts (eqb (length bs) 256) _ p.0).0, p.1)

-- the block of a record that was run
pub record BlockOf (k : Meaning) (n : ℕ) (body : List ℕ) (bs : List ℕ) : Type 0 where
  pub long : length bs ≡ 256
  pub says : entry_of bs ≡ entry_by n body (k.scope body)
  pub number : number_of bs ≡ n
  pub faultless : record_fault k n bs ≡ None

pub block-of : (k : Meaning) → Lawful k → (n : ℕ) (body : List ℕ) → n < 2 ^ 32 → Sound k body → BlockOf k n body (block_of (entry_by n body (k.scope body)))
block-of k law n body small s = subst (λ (x : Result (ℕ × ℕ) ℕ). BlockOf k n body (block_of (entry_by n body x))) (sym s.taken) (record {
  long = two.0;
  says = two.1 ∙ ap (entry_by n body) (sym s.taken);
  number = ap (λ (x : Entry). x.number) two.1;
  faultless = ap (entry_fault k n) back ∙ ap (sets_fault n e) s.taken ∙ same-sets s.reads s.writes;
})
  where
    e : Entry
    e = record { number = n; reads = s.reads; writes = s.writes; body = body }

    sc : Scoped k.limit s.reads s.writes
    sc = law.scoped body s.reads s.writes s.taken

    back : record_in (block_of e) ≡ Some e
    back = write-back e small sc.reads_pages sc.writes_pages s.short

    two : (length (block_of e) ≡ 256) × (entry_of (block_of e) ≡ e)
    two = reads-entry (block_of e) e back

    same-sets : (r w : ℕ) → cond (eqb r r && eqb w w) None (Some (report (SetsDiffer n))) ≡ None
    same-sets r w = cond-true (eqb r r && eqb w w) None (Some (report (SetsDiffer n))) (and_from (eqb r r) (eqb w w) (eq-eqb r r refl) (eq-eqb w w refl))
