use Rattle.std.proofs.Common.{◌≡◌, ◌+◌, ◌-◌, length, set, replicate, refl, ap, ◌∙◌, arith, rules}
use borrow.Rule.Slice.PartMut.{put_mid}
use Rattle.logblocks.specs.Blocks.{block_of, record_in}
use Rattle.logblocks.specs.Views.{view}
use Rattle.logblocks.proofs.BlockLaws.{write-record, write-back}
use Rattle.logblocks.proofs.record.Record.write.Goals as goal

pub returns : goal.returns
returns c =
    let s = c.args.self.now in
    let n = length s.body.now in
    let m : 21 + n - 21 ≡ n = omega arith in
    let s3 = c.write_at-3.new.bytes in
    let blank : c.fill.new.self ≡ replicate 256 0 = search rules in
    let laid : put_mid 21 (21 + n - 21) (set s3 20 n) c.copy_from_slice.new.self ≡ block_of (view s) =
    write-record (view s) c.fill.new.self c.write_at.new.bytes c.write_at-2.new.bytes s3 (set s3 20 n) c.copy_from_slice.new.self (21 + n - 21)
    (omega arith) m c.copy_from_slice.ensures.after blank c.write_at.ensures c.write_at-2.ensures c.write_at-3.ensures refl in
    record { answer = search rules; block_length = search rules; body_length = search rules; after = laid; back = λ _. ap record_in laid ∙ write-back (view s) (search rules) (search rules) (search rules) (omega arith) }
