-- What each fault reports: its number, its place and its code. Every promise of a refusal speaks through `report`.
use Rattle.std.specs.Prelude.{ℕ, Bool, ◌&&◌, ◌==◌, nat_eq, List, ◌++◌, Some, None, Ok, Err, codes, decimal, Option, Result}
use Rattle.std.specs.Cmp.{IsPartialEquivalence, partial_equiv_from_equiv, nat_eq_equiv, on_per, and_per}
use Rattle.faults.specs.declared.fault.Fault.{Fault}
use Rattle.faults.specs.declared.fault.Fault.TheVariants.{NoSuchPage, NoSuchBlock, WrongLength, PowerLost, BodyRefused, WaitingFull, LogFull, NumbersSpent, PagesRefused, PageClean, GroupBefore, RecordWaiting, BadHeader, TooShort, BadRecord, SetsDiffer, PartlyInstalled, NumberAhead, RedoRefused, RootFull, NotFilePage, NotTreePage}

pub record Report : Type 0 where
  pub number : ℕ
  pub place : ℕ
  pub code : ℕ

abbrev pub reported : ℕ → ℕ → ℕ → Report
reported n p c = record { number = n; place = p; code = c }

-- number, place and code of each cause; the code is 0 unless a kind of operation gave one
abbrev pub report : Fault → Report
report (NoSuchPage page) = reported 1 page 0
report (NoSuchBlock block) = reported 2 block 0
report (WrongLength length) = reported 3 length 0
report (PowerLost block) = reported 4 block 0
report (BodyRefused code) = reported 5 0 code
report WaitingFull = reported 6 16 0
report LogFull = reported 7 128 0
report (NumbersSpent next) = reported 8 next 0
report (PagesRefused code) = reported 9 0 code
report (PageClean page) = reported 10 page 0
report (GroupBefore page) = reported 11 page 0
report (RecordWaiting number) = reported 12 number 0
report BadHeader = reported 13 0 0
report TooShort = reported 14 0 0
report (BadRecord number code) = reported 15 number code
report (SetsDiffer number) = reported 16 number 0
report (PartlyInstalled number) = reported 17 number 0
report (NumberAhead page) = reported 18 page 0
report (RedoRefused number code) = reported 19 number code
report RootFull = reported 20 26 0
report (NotFilePage page) = reported 21 page 0
report (NotTreePage page) = reported 22 page 0

-- the test whether two reports agree in all three
abbrev pub same_report : Report → Report → Bool
same_report r s = (r.number == s.number) && ((r.place == s.place) && (r.code == s.code))

-- it goes both ways round, and along a chain
pub same_report_laws : IsPartialEquivalence (λ f g. same_report (report f) (report g))
same_report_laws =
    let same : IsPartialEquivalence nat_eq = partial_equiv_from_equiv nat_eq_equiv in
    on_per report (and_per (on_per (λ (r : Report). r.number) same) (and_per (on_per (λ (r : Report). r.place) same) (on_per (λ (r : Report). r.code) same)))

-- what a call reports: nothing where it passes
abbrev pub refusal : {T : Type 0} → Result T Fault → Option Report
refusal (Ok x) = None
refusal (Err f) = Some (report f)

-- a report as text: `fault`, then number, place and code in decimal
abbrev pub text : Report → List ℕ
text r = codes "fault " ++ (decimal r.number ++ (codes " " ++ (decimal r.place ++ (codes " " ++ decimal r.code))))
