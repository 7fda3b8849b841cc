-- Whether a volume is well, and what halts it.
use Rattle.std.specs.Prelude.{cond, Some, None, Option, ◌==◌, Ok, Err, Result}
use Rattle.faults.specs.declared.fault.Fault.{Fault}
use Rattle.faults.specs.declared.fault.Fault.TheVariants.{NoSuchPage, NoSuchBlock, WrongLength, PowerLost, BodyRefused, WaitingFull, LogFull, NumbersSpent, PagesRefused, PageClean, GroupBefore, RecordWaiting, BadHeader, TooShort, BadRecord, SetsDiffer, PartlyInstalled, NumberAhead, RedoRefused, RootFull, NotFilePage, NotTreePage}
use Rattle.faults.specs.Faults.{Report, refusal}

-- a volume is well, or halted by a fault, which answers every call but stop
abbrev pub Status : Type 0
Status = Result (Unit {0}) Fault

-- the fault of a halted volume, as it reports it
abbrev pub halted_by : Status → Option Report
halted_by s = refusal s

-- the fault that reports this: `report` read backwards
abbrev pub fault_of : Report → Fault
fault_of r =
    cond (r.number == 1) (NoSuchPage r.place)
    (cond (r.number == 2) (NoSuchBlock r.place)
    (cond (r.number == 3) (WrongLength r.place)
    (cond (r.number == 4) (PowerLost r.place)
    (cond (r.number == 5) (BodyRefused r.code)
    (cond (r.number == 6) WaitingFull
    (cond (r.number == 7) LogFull
    (cond (r.number == 8) (NumbersSpent r.place)
    (cond (r.number == 9) (PagesRefused r.code)
    (cond (r.number == 10) (PageClean r.place)
    (cond (r.number == 11) (GroupBefore r.place)
    (cond (r.number == 12) (RecordWaiting r.place)
    (cond (r.number == 13) BadHeader
    (cond (r.number == 14) TooShort
    (cond (r.number == 15) (BadRecord r.place r.code)
    (cond (r.number == 16) (SetsDiffer r.place)
    (cond (r.number == 17) (PartlyInstalled r.place)
    (cond (r.number == 18) (NumberAhead r.place)
    (cond (r.number == 19) (RedoRefused r.place r.code)
    (cond (r.number == 20) RootFull
    (cond (r.number == 21) (NotFilePage r.place)
    (NotTreePage r.place)))))))))))))))))))))

-- a call in which the power failed, and no other, halts a well volume with its fault
abbrev pub lost : Option Report → Status
lost None = Ok tt
lost (Some r) = cond (r.number == 4) (Err (fault_of r)) (Ok tt)

abbrev pub halting : Status → Option Report → Status
halting (Err f) o = Err f
halting (Ok x) o = lost o
