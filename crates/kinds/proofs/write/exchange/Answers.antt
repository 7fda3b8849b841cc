use Rattle.std.proofs.Common.{refl}
use Rattle.kinds.proofs.BufferLaws.{exchange_is}
use Rattle.kinds.proofs.write.exchange.Goals as goal

pub returns : goal.returns
returns c = exchange_is 224 0 c.args.old.now c.args.new.now c.copy_from_slice.new.self c.copy_from_slice-2.new.self refl c.requires.0 c.requires.1 c.copy_from_slice.ensures.after c.copy_from_slice-2.ensures.after
