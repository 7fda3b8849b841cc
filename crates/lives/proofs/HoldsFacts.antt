-- The law holds at every point of every life.
use Rattle.volume.proofs.MountLaws.{mount-recovers, operation-well_formed}
use Rattle.lives.specs.Laws.{LawHolds}
use Rattle.lives.proofs.LawFacts.{law-at}

pub law-holds : LawHolds
law-holds k law f es s life = law-at k law (operation-well_formed k law) (mount-recovers k law) f es s life
