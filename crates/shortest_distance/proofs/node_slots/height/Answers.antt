use native.Mathlib.Omega.{arith}
use Rattle.shortest_distance.proofs.Lengths.{scan-low}
use Rattle.shortest_distance.proofs.node_slots.height.Goals as goal

pub led_height-requires : goal.led_height-requires
led_height-requires c = (c.requires, omega (arith, c.reached_height-reached.ensures, scan-low c.args.work.now c.args.sheet.now.nodes))
