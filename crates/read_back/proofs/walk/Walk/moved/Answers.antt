use native.Mathlib.Omega.{arith}
use mathlib.Core.Path.{ap}
use native.Mathlib.Numerals.{add-one}
use Rattle.sheet.specs.Records.{first_link}
use Rattle.sheet.proofs.NodeSources.{next-first, first-within}
use Rattle.read_back.proofs.walk.Walk.moved.Goals as goal

pub overflow_add-first : goal.overflow_add-first
overflow_add-first c = let s = c.args.self.now.at.sheet in omega (arith, c.count-first.ensures.word, first-within s.bytes.now s.links s.nodes s.start s.form s.accepted s.stated c.loop-v.v (omega arith))

pub loop-v-preserved : goal.loop-v-preserved
loop-v-preserved c =
    let s = c.args.self.now.at.sheet in
    omega (arith, c.count-first.ensures.word, next-first s.bytes.now s.links c.loop-v.v, ap (first_link s.bytes.now s.links) (add-one c.loop-v.v))
