use Rattle.keyed_columns.proofs.ColumnLemmas.{led-if, led-last}
use Rattle.keyed_columns.proofs.new_columns.is_led_by_theirs.Goals as goal

pub returns-then-is_same_order : goal.returns-then-is_same_order
returns-then-is_same_order c =
    led-last _ _ _ _ _ _ c.eq.ensures c.if-eq.false c.is_same_order.ensures c.if-is_same_order.true c.is_same_order-then-is_same_order.ensures

pub returns-else-is_same_order : goal.returns-else-is_same_order
returns-else-is_same_order c = led-if _ _ _ _ _ c.eq.ensures c.if-eq.false c.is_same_order.ensures c.if-is_same_order.false
