use native.Mathlib.Omega.{arith}
use Rattle.sheet.proofs.NodeSources.{first-within}
use Rattle.sheet.proofs.source.Source.count.Goals as goal

pub returns-clause-within : goal.returns-clause-within
returns-clause-within c =
    let s = c.args.self.now in
    let t = s.sheet in
    omega (arith, s.begins, c.count.ensures.word, first-within t.bytes.now t.links t.nodes t.start t.form t.accepted t.stated s.node s.inside)
