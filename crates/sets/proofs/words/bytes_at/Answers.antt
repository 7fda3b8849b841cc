use Rattle.sets.proofs.WordLaws.{read_word}
use Rattle.sets.proofs.words.bytes_at.Goals as goal

pub returns : goal.returns
returns g c =
    read_word g.row.N c.args.at c.min-from.result c.room-n.result c.args.bytes.now
    c.min-from.ensures c.room-n.ensures c.copy_from_slice.new.self c.copy_from_slice.ensures.after
