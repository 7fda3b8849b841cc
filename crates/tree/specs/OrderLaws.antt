-- Numbers in their own order.
use Rattle.std.specs.Prelude.{nat_lt}
use Rattle.std.proofs.Common.{rules}
use Rattle.tree.specs.Orders.{TotalOrder}

-- no number is below itself, the order goes on, of two that differ one is below the other, and none is below 0
pub unsigned_total : TotalOrder (record { less = nat_lt; least = 0 })
unsigned_total = search rules
